-- A constant-time program whose own marks pass hides the first values of its secret globals.
use Rattle.std.proofs.Common.{◌≡◌, ℕ, zero, suc, ◌+◌, ◌-◌, ◌≤◌, Bool, List, [], ◌∷◌, ◌++◌, length, map, Some, slice_get, refl, sym, ap, ◌∙◌, subst, arith}
use Rattle.std.proofs.lemmas.List.Elements.{length_all_zip}
use Rattle.std.proofs.lemmas.Option.{slice_get_within}
use Rattle.std.specs.List.{AllZip}
use Rattle.std.specs.Prelude.{not, nat_lt, if◌then◌else◌, slice_index, IsTrue, IsSomeAnd}
use Rattle.bl_base.specs.declared.names.Label.{Label}
use Rattle.bl_base.specs.declared.names.Label.TheVariants.{Public, Secret}
use Rattle.bl_base.specs.declared.start.Start.{Start}
use Rattle.bl_program.specs.Layout.{base, size_of}
use Rattle.bl_program.specs.Outcomes.{first_registers, opening as plain_opening, Agree}
use Rattle.bl_program.specs.Programs.{IsProgram}
use Rattle.bl_program.specs.Rules.{IsWellFormed}
use Rattle.bl_program.specs.Sites.{is_protected}
use Rattle.bl_program.specs.Steps.{Plain}
use Rattle.bl_program.specs.declared.definitions.GlobalDef.{GlobalDef}
use Rattle.bl_program.specs.declared.definitions.ProgramParts.{ProgramParts as Program}
use Rattle.bl_graph.specs.Labels.{KeepsLabelRules, ConstantTime}
use Rattle.bl_graph.specs.declared.secret.Origin.TheVariants.{Global}
use Rattle.bl_transient.specs.Transient.{Flows, Passes}
use Rattle.bl_seq.specs.OwnMemory.{HasSizes}
use Rattle.bl_seq.proofs.OwnSizes.{sized}
use Rattle.bl_seq.proofs.FinalBytes.{space_long}
use Rattle.bl_seq.proofs.OwnSteps.{Reached, opens}
use Rattle.bl_rob.specs.Machines.{State, opening, end_in, directive_step}
use Rattle.bl_rob.specs.Observations.{Rules, MeetWhereEnded, after_by}
use Rattle.bl_rob.specs.declared.directive.Directive.{Directive}
use Rattle.bl_rob.proofs.BufferInvariant.{Holds, Kept, runs, opening_kept, step_ok}
use Rattle.bl_rob.proofs.FetchedRuns.{config_of}
use Rattle.bl_rob.proofs.OtherGlobals.{with_globals, first_same, step_same, after_same, observed_same}
use Rattle.bl_sct.specs.OtherSecrets.{IsOtherGlobal, AreAlikeBesideBy, HidesGlobals, HidesGlobalsBy}
use Rattle.bl_sct.proofs.InitialAgreement.{registers as first_alike, bytes as bytes_alike, opposite, reached as comes}
use Rattle.bl_sct.proofs.Entries.{none}
use Rattle.bl_sct.proofs.Relation.{Rel, Twin, all_twins, step_twins}
use Rattle.bl_sct.proofs.LockstepLemmas.{Twins, twins}
use Rattle.bl_sct.proofs.EqualObservations.{demands_by}
use Rattle.bl_sct.proofs.Rules.{clear}

-- rules whose steps keep the plain run, and twins where the marks pass, and look at nothing of the globals but how many they are
pub record IsHiding {O : Type 0} (rules_of : ℕ → Program → Rules O) (most : ℕ) (program : Program) (facts : IsProgram program) (rules : IsWellFormed program) : Type 0 where
  pub keeps : (from : Plain) → Reached program from → length from.space ≡ base program (length program.memories) → (s : State) (d : Directive)
      → Kept program from s → Holds (Kept program from) (rules_of most program s d)
  pub twins : (typing labelling : ℕ → Bool) (flows : Flows program typing (is_protected program)) (ok : KeepsLabelRules program labelling) (from beside : Plain)
      (t : Twins program facts rules labelling ok from beside) (s u : State) (d : Directive) → Kept program from s → Kept program beside u
      → Rel (clear program typing labelling flows ok) s u → Twin (Rel (clear program typing labelling flows ok)) (rules_of most program s d) (rules_of most program u d)
  pub same : (globals : List GlobalDef) (same : length globals ≡ length program.globals) (s : State) (d : Directive)
      → rules_of most (with_globals program globals same) s d ≡ rules_of most program s d

-- ---- first values

-- those of public globals are equal, and so is all that stands behind the globals
firsts_alike : (one other : List GlobalDef) (rest : List ℕ) → AllZip IsOtherGlobal one other → (x : ℕ)
    → ((g : GlobalDef) → slice_get one x ≡ Some g → g.label ≡ Public)
    → slice_index (map (λ g. g.first) one ++ rest) x ≡ slice_index (map (λ g. g.first) other ++ rest) x
firsts_alike [] [] rest z x h = refl
firsts_alike [] (d ∷ other) rest z x h = absurd z
firsts_alike (g ∷ one) [] rest z x h = absurd z
firsts_alike (g ∷ one) (d ∷ other) rest z zero h = z.0.first (h g refl)
firsts_alike (g ∷ one) (d ∷ other) rest z (suc x) h = firsts_alike one other rest z.1 x h

module _ (program : Program) (facts : IsProgram program) (rules : IsWellFormed program) (labelling : ℕ → Bool) (ok : KeepsLabelRules program labelling)
    (globals : List GlobalDef) (zip : AllZip IsOtherGlobal program.globals globals) (function : ℕ) (a b : Start) (agree : Agree program function a b) where
  pub same : length globals ≡ length program.globals
  same = sym (length_all_zip IsOtherGlobal program.globals globals zip)

  abbrev other : Program
  other = with_globals program globals same

  -- a global that isn't secret by the labelling
  is_public : (x : ℕ) → IsTrue (not (labelling x)) → (g : GlobalDef) → slice_get program.globals x ≡ Some g → g.label ≡ Public
  is_public x q g e = by g.label refl
    where
      by : (label : Label) → g.label ≡ label → g.label ≡ Public
      by Public l = l
      by Secret l =
          absurd (opposite program facts rules labelling ok function a b agree (labelling x)
          (ok.assigns.declared x (Global x) (subst (λ o. IsSomeAnd o (λ (g : GlobalDef). g.label ≡ Secret)) (sym e) l, refl)) q)

  -- the same start of both programs
  beside_registers : (depth x : ℕ) → ((g : GlobalDef) → slice_get program.globals x ≡ Some g → g.label ≡ Public)
      → first_registers program function b depth x ≡ first_registers other function b depth x
  beside_registers zero x h = firsts_alike program.globals globals _ zip x h
  beside_registers (suc zero) x h =
      ap (λ n. if nat_lt x n then 0 else slice_index b.args (x - n)) (sym (first_same program globals same function))
  beside_registers (suc (suc depth)) x h = refl

  registers : (depth x : ℕ) → IsTrue (not (labelling x)) → first_registers program function a depth x ≡ first_registers other function b depth x
  registers depth x q =
      first_alike program facts rules labelling ok function a b agree depth x q ∙ beside_registers depth x (is_public x q)

  sizes : HasSizes program (first_registers other function b)
  sizes memory defined e =
      subst (λ n. n ≤ defined.reserve) (beside_registers 0 (size_of program memory) (λ g f. absurd (past g f)))
      (sized program facts rules (plain_opening program function b) (comes program facts rules labelling ok function a b agree b agree.other_fits) memory defined e)
    where
      past : (g : GlobalDef) → slice_get program.globals (length program.globals + memory) ≡ Some g → ⊥
      past g f = let lt = slice_get_within program.globals (length program.globals + memory) g f in omega arith

  there : Reached program (plain_opening other function b)
  there =
      opens (plain_opening other function b) function (slice_get_within program.functions function agree.other_fits.defined agree.other_fits.exists) refl refl sizes

  pub open_beside : Twins program facts rules labelling ok (plain_opening program function a) (plain_opening other function b)
  open_beside =
      twins program facts rules labelling ok (plain_opening program function a) (plain_opening other function b)
      (record { position = refl; chain = refl; registers = registers; bytes = bytes_alike program facts rules labelling ok function a b agree })
      (comes program facts rules labelling ok function a b agree a agree.one_fits) there

  kept : Kept program (plain_opening other function b) (opening other function b)
  kept =
      let from = plain_opening other function b in
      record { config = config_of from; inv = record { registers = refl; space = refl; tracks = refl }; ran = runs from refl refl }

  module _ {O : Type 0} (rules_of : ℕ → Program → Rules O) (most : ℕ) (is : IsHiding rules_of most program facts rules) where
    pub beside : Passes program (is_protected program) → (directives : List Directive) → AreAlikeBesideBy (rules_of most) program other function directives a b
    beside passes directives =
        let from = plain_opening program function a in
        let afar = plain_opening other function b in
        let one_long = space_long program facts rules function a agree.one_fits 0 from refl in
        let far_long = space_long program facts rules function b agree.other_fits 0 (plain_opening program function b) refl in
        let same_step = is.same globals same in
        let two = all_twins program facts rules passes.0 labelling passes.1 ok from afar open_beside (rules_of most program)
        (is.keeps from (comes program facts rules labelling ok function a b agree a agree.one_fits) one_long)
        (is.keeps afar there far_long)
        (is.twins passes.0 labelling passes.1 ok from afar open_beside) 1 directives (opening program function a) (opening other function b)
        (record { entries = none; front = refl; retired = refl }) (opening_kept program function a) kept in
        record {
          observed = two.observed ∙ sym (observed_same (rules_of most other) (rules_of most program) same_step 1 directives (opening other function b));
          demands = subst (λ t. MeetWhereEnded program function (after_by (rules_of most program) directives (opening program function a)) t
              (end_in (after_by (rules_of most program) directives (opening program function a))) (end_in t))
              (sym (after_same (rules_of most other) (rules_of most program) same_step directives (opening other function b)))
              (demands_by program facts rules labelling ok from afar open_beside function _ _ two.rel.retired two.one two.other _ _ refl refl);
        }

pub hides_by : {O : Type 0} (rules_of : ℕ → Program → Rules O) (program : Program) (facts : IsProgram program) (rules : IsWellFormed program)
    → ((most : ℕ) → IsHiding rules_of most program facts rules) → ConstantTime program → Passes program (is_protected program) → HidesGlobalsBy rules_of program
hides_by rules_of program facts rules is constant passes other differs most some few function directives a b agree =
    subst (λ p. AreAlikeBesideBy (rules_of most) program p function directives a b) (sym differs.is)
    (beside program facts rules constant.0 constant.1 other.globals differs.globals function a b agree rules_of most (is most) passes directives)

pub hides : (program : Program) → IsProgram program → IsWellFormed program → ConstantTime program → Passes program (is_protected program) → HidesGlobals program
hides program facts rules =
    hides_by directive_step program facts rules (λ most. record {
      keeps = λ from r l s d k. step_ok program from most s d k;
      twins = λ typing labelling flows ok from beside t s u d i j r. step_twins program facts rules typing labelling flows ok from beside t most s u d i j r;
      same = λ globals same s d. step_same program globals same most s d;
    })

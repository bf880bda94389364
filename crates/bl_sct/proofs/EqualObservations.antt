-- A program with a labelling, whose own marks pass, gives equal observations.
use Rattle.std.proofs.Common.{◌≡◌, ℕ, Bool, List, [], ◌∷◌, Option, Some, None, refl, sym, ap, ◌∙◌, subst, arith}
use Rattle.std.specs.Prelude.{not}
use Rattle.bl_base.specs.Runs.{StepsTo}
use Rattle.bl_base.specs.declared.start.Start.{Start}
use Rattle.bl_program.specs.Layout.{result}
use Rattle.bl_program.specs.Outcomes.{Agree, IsStart, opening as plain_opening}
use Rattle.bl_program.specs.Programs.{IsProgram}
use Rattle.bl_program.specs.Rules.{IsWellFormed}
use Rattle.bl_program.specs.Sites.{is_protected}
use Rattle.bl_program.specs.Steps.{Plain, plain_step}
use Rattle.bl_program.specs.declared.definitions.Demand.TheVariants as demand
use Rattle.bl_program.specs.declared.definitions.ProgramParts.{ProgramParts as Program}
use Rattle.bl_graph.specs.Labels.{KeepsLabelRules, ConstantTime}
use Rattle.bl_transient.specs.Transient.{Flows, Passes}
use Rattle.bl_rob.specs.Machines.{State, opening, end_of, end_in, directive_step}
use Rattle.bl_rob.specs.Observations.{Rules, after_by, MeetWhereEnded, HasEqualObservations, HasEqualObservationsBy}
use Rattle.bl_rob.specs.declared.directive.Directive.{Directive}
use Rattle.bl_rob.specs.declared.directive.End.{End}
use Rattle.bl_rob.specs.declared.entry.Entry.{Entry}
use Rattle.bl_rob.specs.declared.front.Front.{Front}
use Rattle.bl_rob.proofs.BufferInvariant.{Holds, Kept, Ran, runs, ended, opening_kept, step_ok}
use Rattle.bl_rob.proofs.PlainTracks.{Config, Tracks}
use Rattle.bl_sct.specs.Lockstep.{KeepStep}
use Rattle.bl_sct.proofs.StepAgreement.{AgreeIn}
use Rattle.bl_sct.proofs.InitialAgreement.{open_alike}
use Rattle.bl_sct.proofs.Entries.{none}
use Rattle.bl_sct.proofs.Relation.{Rel, Twin, all_twins, step_twins}
use Rattle.bl_sct.proofs.Rules.{clear}
use Rattle.bl_sct.proofs.LockstepLemmas.{Twins, both_come, comes_same, keep}

pub in_step : (program : Program) → IsProgram program → IsWellFormed program → (labelling : ℕ → Bool) → KeepsLabelRules program labelling
    → (function : ℕ) (a b : Start) → Agree program function a b → (commands : ℕ)
    → KeepStep program labelling commands (plain_opening program function a) (plain_opening program function b)
in_step program facts rules labelling ok function a b agree commands =
    keep program facts rules labelling ok commands (plain_opening program function a) (plain_opening program function b)
    (open_alike program facts rules labelling ok function a b agree)

-- where the machine has ended, the plain run has
end_there : (program : Program) (b : List Entry) (f : Front) (c : Config) (end : End) → Tracks program b c f → end_of b f ≡ Some end → c.front.end ≡ Some end
end_there program [] f c end t h = ap (λ (g : Front). g.end) (sym t) ∙ h
end_there program (e ∷ es) f c end t h = cc

module _ (program : Program) (facts : IsProgram program) (rules : IsWellFormed program) (labelling : ℕ → Bool) (ok : KeepsLabelRules program labelling) (from beside : Plain)
    (twins : Twins program facts rules labelling ok from beside) where
  abbrev shown : ℕ → Bool
  shown x = not (labelling x)

  registers_end : (n : ℕ) (c d : Config) (one other : End) → c.front.end ≡ Some one → d.front.end ≡ Some other → Ran program from n c → Ran program beside n d
      → AgreeIn shown c.registers d.registers
  registers_end n c d one other h k (runs t is comes) right depth x q = let no : c.front.end ≡ None = ap (λ (x : Config). x.front.end) is in cc
  registers_end n c d one other h k (ended t e before is comes r m i run) (runs u is' comes') depth x q = let no : d.front.end ≡ None = ap (λ (x : Config). x.front.end) is' in cc
  registers_end n c d one other h k (ended t e before is comes r m i run) (ended u e' before' is' comes' r' m' i' run') depth x q =
      let b = both_come program facts rules labelling ok before from beside t twins comes in
      let same : before' ≡ before = omega arith in
      let state : b.state ≡ u = comes_same (plain_step program) before beside b.state u b.comes (subst (λ k. StepsTo (plain_step program) k beside u) same comes') in
      ap (λ rs. rs depth x) r ∙ b.twins.agrees.registers depth x q ∙ ap (λ (p : Plain). p.registers depth x) state ∙ sym (ap (λ rs. rs depth x) r')

  module _ (function : ℕ) (s t : State) (same : s.retired ≡ t.retired) (i : Kept program from s) (j : Kept program beside t) where
    agree_at_end : (one other : End) → end_in s ≡ Some one → end_in t ≡ Some other → AgreeIn shown s.registers t.registers
    agree_at_end one other h k depth x q =
        ap (λ rs. rs depth x) i.inv.registers
        ∙ registers_end s.retired i.config j.config one other (end_there program s.buffer s.front i.config one i.inv.tracks h)
        (end_there program t.buffer t.front j.config other j.inv.tracks k) i.ran (subst (λ n. Ran program beside n j.config) (sym same) j.ran) depth x q
        ∙ sym (ap (λ rs. rs depth x) j.inv.registers)

    pub demands_by : (one other : Option End) → end_in s ≡ one → end_in t ≡ other → MeetWhereEnded program function s t one other
    demands_by (Some one) (Some other) h k = record {
      globals = λ x c. agree_at_end one other h k 0 x (ok.demanded x (demand.Global x, c, refl));
      results = λ _ _ index c. agree_at_end one other h k 0 (result program function index) (ok.demanded (result program function index) (demand.Result function index, c, refl));
    }
    demands_by (Some one) None h k = tt
    demands_by None other h k = tt

-- rules whose steps keep the plain run, and twins where the marks pass
pub record IsEqual {O : Type 0} (stepped : Rules O) (program : Program) (facts : IsProgram program) (rules : IsWellFormed program) : Type 0 where
  pub keeps : (function : ℕ) (start : Start) → IsStart program function start → (s : State) (d : Directive)
      → Kept program (plain_opening program function start) s → Holds (Kept program (plain_opening program function start)) (stepped s d)
  pub twins : (typing labelling : ℕ → Bool) (flows : Flows program typing (is_protected program)) (ok : KeepsLabelRules program labelling) (from beside : Plain)
      (t : Twins program facts rules labelling ok from beside) (s u : State) (d : Directive) → Kept program from s → Kept program beside u
      → Rel (clear program typing labelling flows ok) s u → Twin (Rel (clear program typing labelling flows ok)) (stepped s d) (stepped u d)

pub equal_by : {O : Type 0} (rules_of : ℕ → Program → Rules O) (program : Program) (facts : IsProgram program) (rules : IsWellFormed program)
    → ((most : ℕ) → IsEqual (rules_of most program) program facts rules)
    → ConstantTime program → Passes program (is_protected program) → HasEqualObservationsBy rules_of program
equal_by rules_of program facts rules is constant passes most some few function directives a b agree =
    let labelling = constant.0 in
    let ok = constant.1 in
    let from = plain_opening program function a in
    let beside = plain_opening program function b in
    let stepped = rules_of most program in
    let twins = open_alike program facts rules labelling ok function a b agree in
    let both = all_twins program facts rules passes.0 labelling passes.1 ok from beside twins stepped
    ((is most).keeps function a agree.one_fits) ((is most).keeps function b agree.other_fits)
    ((is most).twins passes.0 labelling passes.1 ok from beside twins) 1 directives (opening program function a) (opening program function b)
    (record { entries = none; front = refl; retired = refl }) (opening_kept program function a) (opening_kept program function b) in
    record {
      observed = both.observed;
      demands = demands_by program facts rules labelling ok from beside twins function (after_by stepped directives (opening program function a))
          (after_by stepped directives (opening program function b)) both.rel.retired both.one both.other _ _ refl refl;
    }

pub equal : (program : Program) → IsProgram program → IsWellFormed program → ConstantTime program → Passes program (is_protected program) → HasEqualObservations program
equal program facts rules =
    equal_by directive_step program facts rules (λ most. record {
      keeps = λ function start fits s d k. step_ok program (plain_opening program function start) most s d k;
      twins = λ typing labelling flows ok from beside t s u d i j r. step_twins program facts rules typing labelling flows ok from beside t most s u d i j r;
    })

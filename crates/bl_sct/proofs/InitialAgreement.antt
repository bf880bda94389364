-- Runs from starts that agree in public begin alike.
use Rattle.std.proofs.Common.{◌≡◌, inl, inr, ℕ, zero, suc, ◌+◌, ◌-◌, ◌*◌, ◌<◌, ◌≤◌, Bool, true, false, List, [], ◌∷◌, ◌++◌, length, map, Some, slice_get, refl, sym, ap, ◌∙◌, subst, arith}
use Rattle.std.proofs.lemmas.Bool.{ltb-false}
use Rattle.std.proofs.lemmas.List.{length-map}
use Rattle.std.proofs.lemmas.List.Elements.{All-head, All-tail}
use Rattle.std.proofs.lemmas.Option.{slice_get_cases, slice_get_past, unwrap_or-slice_get, same_Some}
use Rattle.std.specs.List.{All}
use Rattle.std.specs.Prelude.{not, nat_lt, if◌then◌else◌, slice_index, unwrap_or, IsTrue, IsSomeAnd}
use Rattle.bl_base.proofs.Lists.{zip_length}
use Rattle.bl_base.specs.Fits.{ArgumentFits}
use Rattle.bl_base.specs.Runs.{MemoryState}
use Rattle.bl_base.specs.declared.names.Label.{Label}
use Rattle.bl_base.specs.declared.names.Label.TheVariants.{Public, Secret}
use Rattle.bl_base.specs.declared.start.Start.{Start}
use Rattle.bl_program.specs.Layout.{sum_before, first_of, param}
use Rattle.bl_program.specs.Outcomes.{first_memory, first_memories, padded, space_of, first_registers, opening, IsStart, Agree}
use Rattle.bl_program.specs.Programs.{IsProgram}
use Rattle.bl_program.specs.Rules.{IsMemory, IsWellFormed}
use Rattle.bl_program.specs.declared.definitions.FunctionDef.{FunctionDef}
use Rattle.bl_program.specs.declared.definitions.MemoryDef.{MemoryDef}
use Rattle.bl_program.specs.declared.definitions.ParamDef.{ParamDef}
use Rattle.bl_program.specs.declared.definitions.ProgramParts.{ProgramParts as Program}
use Rattle.bl_graph.specs.Labels.{KeepsLabelRules}
use Rattle.bl_graph.specs.declared.secret.Origin.TheVariants.{Parameter}
use Rattle.bl_seq.specs.InitialMemories.{AreSized}
use Rattle.bl_seq.proofs.OwnSizes.{whole}
use Rattle.bl_seq.proofs.OwnSteps.{Reached}
use Rattle.bl_seq.proofs.InitialMachine.{sized_first}
use Rattle.bl_sct.specs.Lockstep.{IsPublicPlace}
use Rattle.bl_sct.proofs.LockstepLemmas.{Twins, twins}
use Rattle.bl_seq.proofs.FinalBytes.{sized_all, padded_length}

-- ---- the space of all memories

module _ {A : Type 0} where
  append_left : (xs ys : List A) (i : ℕ) → i < length xs → slice_get (xs ++ ys) i ≡ slice_get xs i
  append_left [] ys i lt = absurd (omega arith)
  append_left (x ∷ xs) ys zero lt = refl
  append_left (x ∷ xs) ys (suc i) lt = append_left xs ys i (omega arith)

  append_right : (xs ys : List A) (i j : ℕ) → i ≡ length xs + j → slice_get (xs ++ ys) i ≡ slice_get ys j
  append_right [] ys i j e = let same : i ≡ j = omega arith in ap (slice_get ys) same
  append_right (x ∷ xs) ys zero j e = absurd (omega arith)
  append_right (x ∷ xs) ys (suc i) j e = append_right xs ys i j (omega arith)

abbrev room : MemoryDef → ℕ
room memory = memory.reserve * 65536

-- the bytes of a public memory, where its contents are equal
space_alike : (memories : List MemoryDef) (ones others : List MemoryState) → AreSized memories ones → AreSized memories others → All IsMemory memories
    → ((k : ℕ) (m : MemoryDef) → slice_get memories k ≡ Some m → m.label ≡ Public → slice_get ones k ≡ slice_get others k)
    → (k : ℕ) (m : MemoryDef) (place : ℕ) → slice_get memories k ≡ Some m → m.label ≡ Public → sum_before room memories k ≤ place → place < sum_before room memories (suc k)
    → slice_get (space_of memories ones) place ≡ slice_get (space_of memories others) place
space_alike [] ones others s t rules h k m place e p from below = cc
space_alike (memory ∷ memories) [] others s t rules h k m place e p from below = absurd s
space_alike (memory ∷ memories) (one ∷ ones) [] s t rules h k m place e p from below = absurd t
space_alike (memory ∷ memories) (one ∷ ones) (other ∷ others) s t rules h zero m place e p from below =
    let pages = (All-head IsMemory memory memories rules).pages in
    let size = padded_length memory one s.0.len pages in
    let size' = padded_length memory other t.0.len pages in
    let same : one ≡ other = same_Some one other (h zero m e p) in
    append_left (padded memory one) (space_of memories ones) place (omega arith)
    ∙ ap (λ x. slice_get (padded memory x) place) same
    ∙ sym (append_left (padded memory other) (space_of memories others) place (omega arith))
space_alike (memory ∷ memories) (one ∷ ones) (other ∷ others) s t rules h (suc k) m place e p from below =
    let pages = (All-head IsMemory memory memories rules).pages in
    let size = padded_length memory one s.0.len pages in
    let size' = padded_length memory other t.0.len pages in
    append_right (padded memory one) (space_of memories ones) place (place - memory.reserve * 65536) (omega arith)
    ∙ space_alike memories ones others s.1 t.1 (All-tail IsMemory memory memories rules) (λ j n f q. h (suc j) n f q) k m (place - memory.reserve * 65536) e p (omega arith) (omega arith)
    ∙ sym (append_right (padded memory other) (space_of memories others) place (place - memory.reserve * 65536) (omega arith))

-- ---- the start

module _ (program : Program) (facts : IsProgram program) (rules : IsWellFormed program) (labelling : ℕ → Bool) (ok : KeepsLabelRules program labelling) (function : ℕ)
    (a b : Start) (agree : Agree program function a b) where
  sized : (start : Start) → IsStart program function start → AreSized program.memories (first_memories program start)
  sized start fits =
      sized_all program.memories start.patches (map first_memory program.memories) (sized_first program.memories) fits.fits.patches

  -- ---- the arguments

  many : (start : Start) (fits : IsStart program function start) → length fits.defined.params ≡ length start.args
  many start fits =
      sym (length-map fits.defined.params (λ (p : ParamDef). p.kind)) ∙ zip_length ArgumentFits (map (λ (p : ParamDef). p.kind) fits.defined.params) start.args fits.fits.arguments

  both_many : length agree.other_fits.defined.params ≡ length agree.one_fits.defined.params
  both_many =
      ap (λ (f : FunctionDef). length f.params)
      (same_Some agree.other_fits.defined agree.one_fits.defined (sym agree.other_fits.exists ∙ agree.one_fits.exists))

  pub opposite : (t : Bool) → IsTrue t → IsTrue (not t) → ⊥
  opposite true h q = cc
  opposite false h q = cc

  -- the label of a parameter that isn't secret by the labelling
  labelled : (i x : ℕ) (one : ParamDef) (label : Label) → one.label ≡ label → slice_get agree.one_fits.defined.params i ≡ Some one → param program function i ≡ x
      → IsTrue (not (labelling x)) → one.label ≡ Public
  labelled i x one Public e is place q = e
  labelled i x one Secret e is place q =
      absurd (opposite (labelling x) (ok.assigns.declared x (Parameter function i) (
        subst (λ o. IsSomeAnd o (λ (f : FunctionDef). IsSomeAnd (slice_get f.params i) (λ (p : ParamDef). p.label ≡ Secret))) (sym agree.one_fits.exists)
            (subst (λ o. IsSomeAnd o (λ (p : ParamDef). p.label ≡ Secret)) (sym is) e),
        place,
      )) q)

  arguments : (i x : ℕ) → param program function i ≡ x → IsTrue (not (labelling x)) → slice_get a.args i ≡ slice_get b.args i
  arguments i x place q = elim (slice_get_cases agree.one_fits.defined.params i).1 as (λ _. slice_get a.args i ≡ slice_get b.args i) [
    | inl got ↦ agree.arguments i got.0 got.2 (labelled i x got.0 got.0.label refl got.2 place q)
    | inr past ↦ none past.0
  ]
    where
      none : length agree.one_fits.defined.params ≤ i → slice_get a.args i ≡ slice_get b.args i
      none le =
          let one = many a agree.one_fits in
          let other = many b agree.other_fits in
          let same = both_many in
          slice_get_past a.args i (omega arith) ∙ sym (slice_get_past b.args i (omega arith))

  argument_at : (x : ℕ) (less : Bool) → nat_lt x (first_of program function) ≡ less → IsTrue (not (labelling x))
      → (if less then 0 else slice_index a.args (x - first_of program function)) ≡ (if less then 0 else slice_index b.args (x - first_of program function))
  argument_at x true e q = refl
  argument_at x false e q =
      let le = ltb-false x (first_of program function) e in
      let i = x - first_of program function in
      let same = arguments i x (omega arith) q in
      sym (unwrap_or-slice_get a.args i 0) ∙ ap (λ o. unwrap_or o 0) same ∙ unwrap_or-slice_get b.args i 0

  pub registers : (depth x : ℕ) → IsTrue (not (labelling x)) → first_registers program function a depth x ≡ first_registers program function b depth x
  registers zero x q = refl
  registers (suc zero) x q = argument_at x (nat_lt x (first_of program function)) refl q
  registers (suc (suc depth)) x q = refl

  pub bytes : (place : ℕ) → IsPublicPlace program place
      → slice_get (space_of program.memories (first_memories program a)) place ≡ slice_get (space_of program.memories (first_memories program b)) place
  bytes place p =
      space_alike program.memories (first_memories program a) (first_memories program b) (sized a agree.one_fits) (sized b agree.other_fits) rules.rule1.memories
      agree.memories p.memory p.defined place p.exists p.label p.from p.below

  pub reached : (start : Start) → IsStart program function start → Reached program (opening program function start)
  reached start fits =
      whole program facts rules (opening program function start)
      (record { facts = facts; rules = rules; function = function; start = start; start_fits = fits; steps = 0; comes = refl })

  pub open_alike : Twins program facts rules labelling ok (opening program function a) (opening program function b)
  open_alike =
      twins program facts rules labelling ok (opening program function a) (opening program function b) (record { position = refl; chain = refl; registers = registers; bytes = bytes })
      (reached a agree.one_fits) (reached b agree.other_fits)

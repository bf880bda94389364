-- The commands of a well-formed program that can be written are placed, and their templates are the instructions that are written.
use Rattle.std.proofs.Common.{◌≡◌, ◌≢◌, ℕ, suc, ◌+◌, ◌<◌, ◌≤◌, ◌⊎◌, inl, inr, Bool, true, false, cond, ltb, not, IsTrue, length, Some, refl, sym, ap, ap₂, ◌∙◌, subst, arith}
use Rattle.std.proofs.lemmas.Bool.{cases_lt, le-ltb}
use Rattle.std.proofs.lemmas.Option.{same_Some, slice_get_within}
use Rattle.bl_base.proofs.Lists.{all_get}
use Rattle.bl_ops.specs.Access.{is_load}
use Rattle.bl_program.specs.Layout.{base, command_at, entry_of, Holds}
use Rattle.bl_program.specs.Programs.{IsCommand, IsProgram}
use Rattle.bl_program.specs.Rules.{GoesTo, IsWellFormed, Leaves}
use Rattle.bl_program.specs.declared.command.Command.{Command}
use Rattle.bl_program.specs.declared.command.Command.TheVariants.{Set, Load, Store, Test, Jump, Trap}
use Rattle.bl_program.specs.declared.command.Operand.{Operand}
use Rattle.bl_program.specs.declared.definitions.ProgramParts.{ProgramParts as Program}
use Rattle.bl_program.proofs.Layouts.{held_by, holds_within}
use Rattle.bl_select.specs.Frames.{Assigns, Frame, IsSource, Passes, Placing, source_of}
use Rattle.bl_select.specs.Selection.{ArePlaced, Selection, template_of}
use Rattle.bl_select.specs.Templates.{set_template, load_template, store_template, test_template, jump_template}
use Rattle.bl_layout.specs.Blocks.{IsWritten, block_at, block_of}
use Rattle.bl_layout.specs.Slots.{placing_at, placing_in, selection_of, slots_of}
use Rattle.bl_layout.specs.declared.slots.Slots.{Slots}
use Rattle.bl_layout.proofs.Placings.{passes_out, slots_held, slots_trap}

module _ (program : Program) (facts : IsProgram program) (rules : IsWellFormed program) where
  -- ---- targets

  no_target : (position : ℕ) (command : Command) (to : ℕ) → position < 7 → command_at program position ≡ Some command → GoesTo command to → ⊥
  no_target position command to lt got goes =
      let trap = facts.traps position lt in
      let same : command ≡ Trap trap.0 = same_Some command (Trap trap.0) (sym got ∙ trap.2) in
      let none : GoesTo (Trap trap.0) to = subst (λ c. GoesTo c to) same goes in
      none

  traps_within : 7 ≤ length program.commands
  traps_within = let last = facts.traps 6 (omega arith) in omega (arith, slice_get_within program.commands 6 (Trap last.0) last.2)

  -- targets are positions of the program
  pub target_within : (position : ℕ) (command : Command) → command_at program position ≡ Some command → (to : ℕ) → GoesTo command to → to < length program.commands
  target_within position command got to goes = by_place (cases_lt position 7)
    where
      in_function : (function : ℕ) → Holds program function position → (to < 7) ⊎ Holds program function to → to < length program.commands
      in_function function holds (inl lt) = omega (arith, lt, traps_within)
      in_function function holds (inr there) = holds_within program function to facts there

      by_place : (position < 7) ⊎ (7 ≤ position) → to < length program.commands
      by_place (inl lt) = absurd (no_target position command to lt got goes)
      by_place (inr le) =
          let held = held_by program position facts le (slice_get_within program.commands position command got) in
          in_function held.0 held.1 ((rules.rule5 position held.0 command held.1 got).targets to goes)

  -- ---- a command at a position of a function

  module _ (function position : ℕ) (holds : Holds program function position) where
    abbrev slots : Slots
    slots = slots_of program function

    abbrev p : Placing
    p = placing_in slots

    here : placing_at program position ≡ p
    here = ap placing_in (slots_held program function position holds)

    next_held : (command : Command) → command_at program position ≡ Some command → (Leaves command → ⊥) → Holds program function (suc position)
    next_held command got stays =
        let ne : suc position ≢ entry_of program (suc function) = λ e. stays ((rules.rule5 position function command holds got).last e) in
        record { exists = holds.exists; from = omega (arith, holds.from); below = omega (arith, ne, holds.below) }

    next : (command : Command) → command_at program position ≡ Some command → (Leaves command → ⊥) → placing_at program (suc position) ≡ p
    next command got stays = ap placing_in (slots_held program function (suc position) (next_held command got stays))

    assigns : (command : Command) (x : ℕ) → command_at program position ≡ Some command → (Leaves command → ⊥) → IsTrue (p.alive x)
        → Assigns (placing_at program position) (placing_at program (suc position)) x
    assigns command x got stays h =
        subst (λ q. Assigns q (placing_at program (suc position)) x) (sym here)
        (subst (λ r. Assigns p r x) (sym (next command got stays)) (record { here = h; others = λ y alive ne. (alive, refl) }))

    passes_next : (command : Command) → command_at program position ≡ Some command → (Leaves command → ⊥) → Passes (placing_at program position) (placing_at program (suc position))
    passes_next command got stays =
        subst (λ q. Passes q (placing_at program (suc position))) (sym here)
        (subst (λ r. Passes p r) (sym (next command got stays)) (record { others = λ y alive. (alive, refl) }))

    passes_by : (to : ℕ) → (to < 7) ⊎ Holds program function to → Passes p (placing_at program to)
    passes_by to (inl lt) = subst (λ s. Passes p (placing_in s)) (sym (slots_trap program to lt)) (passes_out program function)
    passes_by to (inr there) = subst (λ s. Passes p (placing_in s)) (sym (slots_held program function to there)) (record { others = λ y alive. (alive, refl) })

    passes_to : (command : Command) (to : ℕ) → command_at program position ≡ Some command → GoesTo command to → Passes (placing_at program position) (placing_at program to)
    passes_to command to got goes =
        subst (λ q. Passes q (placing_at program to)) (sym here) (passes_by to ((rules.rule5 position function command holds got).targets to goes))

    source : (a : Operand) → IsSource p a → IsSource (placing_at program position) a
    source a h = subst (λ q. IsSource q a) (sym here) h

    kind_is : (command : Command) → command_at program position ≡ Some command → IsCommand command
    kind_is command got = all_get IsCommand program.commands position command facts.commands got

    is_false : (t : Bool) → IsTrue (not t) → t ≡ false
    is_false true h = cc
    is_false false h = refl

    module _ (frame : Frame) (begins : ℕ → ℕ) where
      abbrev e : Selection
      e = selection_of program frame begins

      pub placed : (command : Command) → command_at program position ≡ Some command → IsWritten slots command → ArePlaced program e position command
      placed (Set mark op x a b c) got h = (assigns (Set mark op x a b c) x.0 got (λ l. l) h.0, source a h.1, source b h.2, source c h.3)
      placed (Load mark kind memory x offset a) got h =
          (assigns (Load mark kind memory x offset a) x.0 got (λ l. l) h.0, source a h.1, (kind_is (Load mark kind memory x offset a) got).0)
      placed (Store kind memory offset a b) got h =
          (passes_next (Store kind memory offset a b) got (λ l. l), source a h.0, source b h.1, is_false (is_load kind) (kind_is (Store kind memory offset a b) got).0)
      placed (Test a one other) got h =
          (passes_to (Test a one other) one.0 got (inl refl), passes_to (Test a one other) other.0 got (inr refl), source a h)
      placed (Jump to) got h = passes_to (Jump to) to.0 got refl
      placed command got h = absurd h

      written : (command : Command) → command_at program position ≡ Some command → IsWritten slots command → template_of program e position command ≡ block_of p (base program) begins command
      written (Set mark op x a b c) got h =
          ap₂ (λ (q r : Placing). set_template mark.protect op (q.location x.0) (source_of r a) (source_of r b) (source_of r c)) (next (Set mark op x a b c) got (λ l. l)) here
      written (Load mark kind memory x offset a) got h =
          ap₂ (λ (q r : Placing). load_template mark.protect kind (q.location x.0) (base program memory + offset) (source_of r a)) (next (Load mark kind memory x offset a) got (λ l. l)) here
      written (Store kind memory offset a b) got h = ap (λ (r : Placing). store_template kind (base program memory + offset) (source_of r a) (source_of r b)) here
      written (Test a one other) got h = ap (λ (r : Placing). test_template (source_of r a) (begins one.0) (begins other.0)) here
      written (Jump to) got h = refl
      written command got h = absurd h

      -- the template is what is written
      pub template_is : (command : Command) → command_at program position ≡ Some command → IsWritten slots command → template_of program e position command ≡ block_at program begins position command
      template_is command got h =
          written command got h
          ∙ ap (λ q. block_of q (base program) begins command) (sym here)
          ∙ sym (ap (λ t. cond t (jump_template (begins position)) (block_of (placing_at program position) (base program) begins command)) (le-ltb position 7 (omega (arith, holds.from))))

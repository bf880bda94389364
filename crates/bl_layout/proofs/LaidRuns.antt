-- A run of a program that is laid out goes along chosen commands.
use Rattle.std.proofs.Common.{◌≡◌, ℕ, zero, suc, ◌+◌, ◌<◌, ◌≤◌, ◌⊎◌, inl, inr, List, ◌++◌, length, drop, Option, Some, None, slice_index, refl, sym, ap, ◌∙◌, subst, arith}
use Rattle.std.proofs.lemmas.Bool.{cases_lt}
use Rattle.std.proofs.lemmas.Option.{slice_get_within}
use Rattle.bl_base.specs.Runs.{goes, StepsTo}
use Rattle.bl_program.specs.Layout.{command_at, Holds}
use Rattle.bl_program.specs.Programs.{IsProgram}
use Rattle.bl_program.specs.Rules.{IsWellFormed}
use Rattle.bl_program.specs.Steps.{Plain, perform, plain_step}
use Rattle.bl_program.specs.declared.command.Command.{Command}
use Rattle.bl_program.specs.declared.command.Command.TheVariants.{Test, Jump}
use Rattle.bl_program.specs.declared.definitions.ProgramParts.{ProgramParts as Program}
use Rattle.bl_program.proofs.Layouts.{held_by}
use Rattle.bl_x64.specs.declared.instruction.Instruction.{Instruction}
use Rattle.bl_select.specs.Frames.{Frame}
use Rattle.bl_select.specs.Selection.{Continues, IsChosen, RunsChosen, Selection, template_of}
use Rattle.bl_select.specs.StraightRuns.{Stands}
use Rattle.bl_layout.specs.Blocks.{IsWritten, block_at, blocks_from, count_from}
use Rattle.bl_layout.specs.Layouts.{IsLaidOut}
use Rattle.bl_layout.specs.Slots.{selection_of, slots_of}
use Rattle.bl_layout.proofs.Commands.{placed, template_is}
use Rattle.bl_layout.proofs.Placings.{slots_held}
use Rattle.bl_layout.proofs.Tables.{blocks_at, count_next, stands_at}

module _ (program : Program) (facts : IsProgram program) (rules : IsWellFormed program) (starts : List ℕ) (code : List Instruction) (laid : IsLaidOut program starts code) (frame : Frame) where
  abbrev begins : ℕ → ℕ
  begins = slice_index starts

  abbrev e : Selection
  e = selection_of program frame begins

  module _ (position : ℕ) (command : Command) (got : command_at program position ≡ Some command) where
    within : position < length program.commands
    within = slice_get_within program.commands position command got

    -- the instructions of the command stand where the table says
    block_stands : Stands code (begins position) (block_at program begins position command)
    block_stands =
        let none : 0 + position ≡ position = omega arith in
        let place = laid.starts_are.each position (omega (arith, within)) in
        let rest = blocks_from program begins (suc (0 + position)) (drop (suc position) program.commands) in
        stands_at code (begins position) (block_at program begins position command) rest
        (ap (λ k. drop k code) place ∙ ap (λ l. drop (count_from program begins 0 program.commands position) l) laid.code_is
        ∙ blocks_at program begins 0 program.commands position command got
        ∙ ap (λ n. block_at program begins n command ++ rest) none)

    -- the next command begins behind them
    block_ends : begins (suc position) ≡ length (block_at program begins position command) + begins position
    block_ends =
        let none : 0 + position ≡ position = omega arith in
        let place = laid.starts_are.each position (omega (arith, within)) in
        let after = laid.starts_are.each (suc position) (omega (arith, within)) in
        omega (arith, place, after, count_next program begins 0 program.commands position command got, ap (λ n. length (block_at program begins n command)) none)

    continues : (c : Command) (template : List Instruction) → begins (suc position) ≡ length template + begins position → Continues e position template c
    continues (Test a one other) template h = tt
    continues (Jump to) template h = tt
    continues c template h = h

  -- the command at the position of a state of a function
  chosen_in : (s : Plain) (command : Command) → command_at program s.position ≡ Some command → (function : ℕ) → Holds program function s.position → IsWritten (slots_of program function) command
      → IsChosen program e code s
  chosen_in s command got function holds written =
      let same = template_is program facts rules function s.position holds frame begins command got written in
      record {
        command = command;
        is = got;
        stands = subst (λ l. Stands code (begins s.position) l) (sym same) (block_stands s.position command got);
        continues = continues s.position command got command (template_of program e s.position command) (subst (λ (l : List Instruction). begins (suc s.position) ≡ length l + begins s.position) (sym same) (block_ends s.position command got));
        placed = placed program facts rules function s.position holds frame begins command got written;
      }

  chosen_by : (s next : Plain) (command : Command) → plain_step program s ≡ goes next → command_at program s.position ≡ Some command → (s.position < 7) ⊎ (7 ≤ s.position) → IsChosen program e code s
  chosen_by s next command step got (inl lt) =
      let trap = facts.traps s.position lt in
      let ended = sym step ∙ ap (λ o. perform program o s) trap.2 in
      cc
  chosen_by s next command step got (inr le) =
      let held = held_by program s.position facts le (slice_get_within program.commands s.position command got) in
      let writable = laid.writable.each s.position command le got in
      chosen_in s command got held.0 held.1 (subst (λ x. IsWritten x command) (slots_held program held.0 s.position held.1) writable.written)

  chosen : (s next : Plain) (o : Option Command) → plain_step program s ≡ goes next → command_at program s.position ≡ o → IsChosen program e code s
  chosen s next None step got = let stays = sym step ∙ ap (λ o. perform program o s) got in cc
  chosen s next (Some command) step got = chosen_by s next command step got (cases_lt s.position 7)

  pub runs_chosen : (n : ℕ) (s t : Plain) → StepsTo (plain_step program) n s t → RunsChosen program e code n s t
  runs_chosen zero s t run = run
  runs_chosen (suc n) s t run = (run.0, run.1, chosen s run.0 (command_at program s.position) run.1 refl, runs_chosen n run.0 t run.2)

-- What directives lead to from an opening; where it has ended, each memory has all its bytes.
use Rattle.std.proofs.Common.{◌≡◌, ℕ, Some, arith, sym, subst}
use Rattle.std.specs.Prelude.{Result, Ok, Err}
use Rattle.std.specs.List.{All}
use Rattle.bl_base.specs.Runs.{ends}
use Rattle.bl_base.specs.declared.start.Start.{Start}
use Rattle.bl_program.specs.Outcomes.{IsStart, opening as plain_opening}
use Rattle.bl_program.specs.Programs.{IsProgram}
use Rattle.bl_program.specs.Rules.{IsWellFormed}
use Rattle.bl_program.specs.declared.definitions.ProgramParts.{ProgramParts as Program}
use Rattle.bl_seq.specs.FinalMemories.{IsWhole, memories_at, memories_of}
use Rattle.bl_seq.proofs.FinalBytes.{ends_whole}
use Rattle.bl_rob.specs.CallResults.{ComesBy}
use Rattle.bl_rob.specs.Machines.{State, directive_step, end_in, opening, outcome_by}
use Rattle.bl_rob.specs.Observations.{Rules, HasEnded, IsConsistentBy}
use Rattle.bl_rob.specs.ReachableStates.{IsReachedBy, DirectivesLead, more, stays}
use Rattle.bl_rob.specs.declared.directive.Directive.{Directive}
use Rattle.bl_rob.specs.declared.directive.End.{End}
use Rattle.bl_rob.specs.declared.directive.End.TheVariants as ending
use Rattle.bl_rob.specs.declared.directive.StepError.{StepError}
use Rattle.bl_rob.specs.declared.directive.StepError.TheVariants.{NotEnabled, Memory}
use Rattle.bl_rob.proofs.BufferInvariant.{Holds, Kept, kept_consistent, opening_kept, step_ok}
use Rattle.bl_rob.proofs.BufferRoom.{Fits}
use Rattle.bl_rob.proofs.InitialMachine.{begun_fits}

module _ {O : Type 0} (rules : Rules O) (program : Program) where
  -- the opening is reached
  pub opened : (function : ℕ) (start : Start) (s : State) → IsStart program function start → s ≡ opening program function start → IsReachedBy rules program s
  opened function start s fits is =
      record { function = function; start = start; fits = fits; leads = subst (DirectivesLead rules (opening program function start)) (sym is) stays }

  -- what a step leaves is reached
  pub steps_reach : (old new : State) (d : Directive) (needs : Type 0) (result : Result O StepError) → IsReachedBy rules program old
      → ComesBy (rules old d) needs old result new → IsReachedBy rules program new
  steps_reach old new d needs (Ok observation) r h = record { function = r.function; start = r.start; fits = r.fits; leads = more old new d observation r.leads h }
  steps_reach old new d needs (Err NotEnabled) r h = subst (IsReachedBy rules program) (sym h.1) r
  steps_reach old new d needs (Err Memory) r h = subst (IsReachedBy rules program) (sym h.1) r

  -- each directive keeps the buffer along the plain run of a start that fits
  abbrev pub KeepAll : Type 0
  KeepAll = (function : ℕ) (start : Start) → IsStart program function start → (s : State) (d : Directive)
      → Kept program (plain_opening program function start) s → Holds (Kept program (plain_opening program function start)) (rules s d)

  module _ (keeps : KeepAll) where
    kept : (function : ℕ) (start : Start) → IsStart program function start → (s : State) → DirectivesLead rules (opening program function start) s
        → Kept program (plain_opening program function start) s
    kept function start fits _ stays = opening_kept program function start
    kept function start fits _ (more s t d observation leads is) =
        subst (Holds (Kept program (plain_opening program function start))) is (keeps function start fits s d (kept function start fits s leads))

    -- the memories of an outcome
    same_memories : (s : State) (end : End) → All IsWhole (memories_at (outcome_by program s end)) → All IsWhole (memories_of program s.registers s.space)
    same_memories s ending.Returned whole = whole
    same_memories s (ending.Trapped kind) whole = whole

    -- where a machine has ended, each memory has all its bytes
    pub whole_memories : IsProgram program → IsWellFormed program → (s : State) → IsReachedBy rules program s → (end : End) → end_in s ≡ Some end
        → All IsWhole (memories_of program s.registers s.space)
    whole_memories facts well s r end is =
        let from = plain_opening program r.function r.start in
        let ended : HasEnded program from s end s.retired = subst (IsConsistentBy program from s) is (kept_consistent program from s (kept r.function r.start r.fits s r.leads)) in
        same_memories s end (ends_whole program facts well r.function r.start r.fits s.retired (ends (outcome_by program s end)) (s.retired, ended.outcome, omega arith))

-- those of the buffer machine do
pub steps_keep : (most : ℕ) (program : Program) → KeepAll (directive_step most program) program
steps_keep most program function start fits s d = step_ok program (plain_opening program function start) most s d

-- the opening of a program that is the one asked for is reached, and within the room
pub begun_kept : {O : Type 0} (rules : Program → Rules O) (most : ℕ) (parts program : Program) (function : ℕ) (start : Start) (s : State) → parts ≡ program → IsStart program function start
    → s ≡ opening parts function start → Fits most s × IsReachedBy (rules parts) parts s
begun_kept rules most parts program function start s same fits is =
    (begun_fits parts function start most s is, opened (rules parts) parts function start s (subst (λ p. IsStart p function start) (sym same) fits) is)

use Rattle.std.proofs.Common.{ℕ, ◌<◌, length}
use Rattle.bl_cmd.specs.Verdicts.{KeepsBelow}
use Rattle.bl_cmd.proofs.verdict.fault_among.Given as goal

abbrev pub invariant-loop-function : goal.invariant-loop-function
invariant-loop-function l = (other : ℕ) → other < l.function → KeepsBelow l.fn.parts other (length l.fn.parts.commands)

use Rattle.bl_cmd.specs.Verdicts.{KeepsBelow}
use Rattle.bl_cmd.proofs.verdict.fault_in.Given as goal

abbrev pub invariant-loop-position : goal.invariant-loop-position
invariant-loop-position l = KeepsBelow l.fn.parts l.fn.function l.position

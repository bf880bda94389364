use Rattle.std.proofs.Common.{◌<◌, ℕ}
use Rattle.bl_program.specs.Programs.{IsTrapAt}
use Rattle.bl_program.proofs.program.have_traps.Given as goal

abbrev pub invariant-loop-position : goal.invariant-loop-position
invariant-loop-position l = (position : ℕ) → position < l.position → IsTrapAt l.commands position

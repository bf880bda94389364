use Rattle.std.proofs.Common.{◌≡◌, ◌*◌, drop, replicate}
use Rattle.std.specs.List.{fold}
use Rattle.bl_program.specs.Outcomes.{with_row}
use Rattle.bl_seq.proofs.opening.first_memory.Given as goal

abbrev pub invariant-loop-row : goal.invariant-loop-row
invariant-loop-row l = fold with_row l.space (drop l.row-index l.memory.rows) ≡ fold with_row (replicate (l.memory.pages * 65536) 0) l.memory.rows

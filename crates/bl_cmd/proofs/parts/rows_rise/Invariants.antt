use Rattle.std.proofs.Common.{◌<◌}
use Rattle.std.specs.List.{AllAdjacentBelow}
use Rattle.bl_program.specs.declared.definitions.MemRow.{MemRow}
use Rattle.bl_cmd.proofs.parts.rows_rise.Given as goal

abbrev pub invariant-loop-i : goal.invariant-loop-i
invariant-loop-i l = AllAdjacentBelow (λ (row next : MemRow). row.number < next.number) l.rows l.i

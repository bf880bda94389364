use Rattle.std.proofs.Common.{◌≡◌, ◌-◌, ◌/◌, ◌++◌, map, length}
use Rattle.bl_lower.specs.Trees.{is_filled, memory_row_at, rows_of}
use Rattle.std.specs.List.{filter, range_with_len}
use Rattle.bl_lower.proofs.definitions.rows.Given as goal

abbrev pub invariant-loop-number : goal.invariant-loop-number
invariant-loop-number l = l.all ++ filter (λ row. is_filled row.bytes) (map (memory_row_at l.bytes) (range_with_len l.number (length l.bytes / 16 - l.number))) ≡ rows_of l.bytes

use Rattle.std.proofs.Common.{◌≡◌, ◌-◌, ◌*◌, ◌++◌}
use Rattle.std.specs.List.{flat_map, range_with_len}
use Rattle.bl_outcome.specs.Outcomes.{row_text, rows_text}
use Rattle.bl_outcome.proofs.memories.push_rows.Given as goal

abbrev pub invariant-loop-row : goal.invariant-loop-row
invariant-loop-row l =
    l.text.items ++ flat_map (λ row. row_text l.number l.before l.bytes (16 * row)) (range_with_len l.row (l.row-end - l.row)) ≡ l.fn.text.items ++ rows_text l.number l.before l.bytes

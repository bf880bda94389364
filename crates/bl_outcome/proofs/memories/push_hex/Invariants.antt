use Rattle.std.proofs.Common.{◌≡◌, ◌+◌, ◌-◌, ◌++◌}
use Rattle.std.specs.Prelude.{slice_index}
use Rattle.std.specs.List.{flat_map, range_with_len}
use Rattle.bl_outcome.specs.Outcomes.{bytes_at, hex_text}
use Rattle.bl_outcome.proofs.memories.push_hex.Given as goal

abbrev pub invariant-loop-place : goal.invariant-loop-place
invariant-loop-place l =
    l.text.items ++ flat_map (λ place. hex_text (slice_index l.bytes place)) (range_with_len l.place (l.from + l.count - l.place)) ≡ l.fn.text.items ++ flat_map hex_text (bytes_at l.bytes l.from l.count)

use Rattle.std.proofs.Common.{◌≡◌, ◌+◌}
use Rattle.std.specs.Prelude.{◌↔◌}
use Rattle.bl_outcome.specs.Outcomes.{bytes_at}
use Rattle.bl_outcome.proofs.MemoryTexts.{bytes_from}
use Rattle.bl_outcome.proofs.memories.is_same.Given as goal

abbrev pub invariant-loop-place : goal.invariant-loop-place
invariant-loop-place l = (bytes_at l.before l.from l.count ≡ bytes_at l.bytes l.from l.count) ↔ (bytes_from l.before l.place (l.from + l.count) ≡ bytes_from l.bytes l.place (l.from + l.count))

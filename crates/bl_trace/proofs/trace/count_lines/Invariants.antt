use Rattle.std.proofs.Common.{◌≡◌, ◌==◌, take}
use Rattle.std.specs.List.{count_by}
use Rattle.bl_trace.proofs.trace.count_lines.Given as goal

-- the lines that have ended so far
abbrev pub invariant-loop-byte : goal.invariant-loop-byte
invariant-loop-byte l = l.ended ≡ count_by (λ b. b == 10) (take l.byte-index l.bytes)

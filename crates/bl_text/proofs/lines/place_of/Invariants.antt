use Rattle.std.proofs.Common.{◌≡◌, ◌≤◌, length, ◌-◌, ◌+◌, ◌==◌, drop}
use Rattle.std.specs.List.{position_or_len}
use Rattle.bl_text.proofs.lines.place_of.Given as goal

-- the first such byte is as far into the rest
abbrev pub invariant-loop-place : goal.invariant-loop-place
invariant-loop-place l =
    (l.place ≤ length l.bytes)
    × (position_or_len (λ b. b == l.byte) l.bytes ≡ l.place + position_or_len (λ b. b == l.byte) (drop l.place l.bytes))

abbrev pub decreases-loop-place : goal.decreases-loop-place
decreases-loop-place l = length l.bytes - l.place

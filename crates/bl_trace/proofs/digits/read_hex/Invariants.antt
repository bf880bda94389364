use Rattle.std.proofs.Common.{◌≡◌, ◌≤◌, ◌++◌, drop, length, ◌-◌}
use Rattle.std.specs.Option.{option_map}
use Rattle.bl_trace.specs.Digits.{bytes_of_hex}
use Rattle.bl_trace.proofs.digits.read_hex.Given as goal

-- the bytes so far and those of the rest are the bytes
abbrev pub invariant-loop-i : goal.invariant-loop-i
invariant-loop-i l =
    (l.i ≤ length l.word)
    × (bytes_of_hex l.word ≡ option_map (λ more. l.bytes.items ++ more) (bytes_of_hex (drop l.i l.word)))

abbrev pub decreases-loop-i : goal.decreases-loop-i
decreases-loop-i l = length l.word - l.i

use Rattle.std.proofs.Common.{◌≡◌, ◌++◌, ◌-◌}
use Rattle.std.specs.List.{flat_map, range_with_len}
use Rattle.bl_trace.specs.Observations.{guard_text}
use Rattle.bl_trace.proofs.observation.push_guards.Given as goal

-- the text so far, and then the guards of the rest, is all
abbrev pub invariant-loop-place : goal.invariant-loop-place
invariant-loop-place l =
    l.text.items ++ flat_map (guard_text l.mask) (range_with_len l.place (l.count - l.place))
    ≡ l.initial.text.items ++ flat_map (guard_text l.mask) (range_with_len 0 l.count)

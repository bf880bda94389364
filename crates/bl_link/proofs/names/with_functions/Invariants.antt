use Rattle.std.proofs.Common.{◌≡◌, ◌++◌, filter_map, drop}
use Rattle.bl_link.specs.Links.{exported, pair}
use Rattle.bl_link.proofs.names.with_functions.Given as goal

abbrev pub invariant-loop-entry : goal.invariant-loop-entry
invariant-loop-entry l =
    l.exports ++ filter_map (λ entry. pair (exported l.part l.spaces entry)) (drop l.entry-index l.entries) ≡ l.fn.before ++ filter_map (λ entry. pair (exported l.part l.spaces entry)) l.fn.entries

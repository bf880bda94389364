use Rattle.std.proofs.Common.{◌≡◌, ◌++◌, drop}
use Rattle.std.specs.List.{flat_map}
use Rattle.bl_twin.proofs.text.push_observations.Given as goal

abbrev pub invariant-loop-observation : goal.invariant-loop-observation
invariant-loop-observation g l =
    l.text.items ++ flat_map g.O.Sight.line (drop l.observation-index l.observations) ≡ l.fn.text.items ++ flat_map g.O.Sight.line l.observations

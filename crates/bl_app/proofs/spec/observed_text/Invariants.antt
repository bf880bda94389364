use Rattle.std.proofs.Common.{◌≡◌, take, flat_map}
use Rattle.bl_trace.specs.Observations.{observation_text}
use Rattle.bl_app.proofs.spec.observed_text.Given as goal

abbrev pub invariant-loop-observation : goal.invariant-loop-observation
invariant-loop-observation l = l.text.items ≡ flat_map observation_text (take l.observation-index l.made)

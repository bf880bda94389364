use Rattle.std.proofs.Common.{◌≡◌, ◌++◌, length, map}
use Rattle.std.specs.Vec.Iter.{into_iter_items}
use Rattle.bl_build.specs.LoadStages.{linked_parts}
use Rattle.bl_build.specs.StageAnswers.{ready_in}
use Rattle.bl_build.proofs.loading.parts_of.Given as goal

abbrev pub invariant-loop-one : goal.invariant-loop-one
invariant-loop-one l = l.parts ++ linked_parts (map ready_in (into_iter_items l.rest)) ≡ linked_parts (map ready_in l.fn.ready.items)

abbrev pub decreases-loop-one : goal.decreases-loop-one
decreases-loop-one l = length (into_iter_items l.rest)

use Rattle.std.proofs.Common.{length}
use Rattle.std.specs.Vec.Iter.{into_iter_items}
use Rattle.bl_link.proofs.all_parts.+link_rest.Given as goal

abbrev pub decreases-link_rest : goal.decreases-link_rest
decreases-link_rest l = length (into_iter_items l.rest)

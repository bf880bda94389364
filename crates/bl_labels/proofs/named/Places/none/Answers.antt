use Rattle.bl_labels.proofs.LabelSetLemmas.{places_none}
use Rattle.bl_labels.proofs.named.Places.none.Goals as goal

pub invariant_of-result : goal.invariant_of-result
invariant_of-result c = places_none c.new-set.result c.new-list.result c.new-set.ensures c.new-list.ensures

use Rattle.bl_labels.proofs.LabelSetLemmas.{numbers_none}
use Rattle.bl_labels.proofs.named.Indices.none.Goals as goal

pub invariant_of-result : goal.invariant_of-result
invariant_of-result c = numbers_none c.new-set.result c.new-list.result c.new-set.ensures c.new-list.ensures

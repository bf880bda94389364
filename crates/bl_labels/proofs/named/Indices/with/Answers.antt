use Rattle.bl_labels.proofs.LabelSetLemmas.{numbers_with}
use Rattle.bl_labels.proofs.named.Indices.with.Goals as goal

pub invariant_of-result : goal.invariant_of-result
invariant_of-result c =
    numbers_with c.self.inside.set c.insert.new.self c.self.inside.list c.push.new.self c.args.index c.self.invariant c.in_ok-insert.ensures.added c.in_ok-push.ensures.ok

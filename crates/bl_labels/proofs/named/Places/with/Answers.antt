use Rattle.bl_labels.proofs.LabelSetLemmas.{places_with}
use Rattle.bl_labels.proofs.named.Places.with.Goals as goal

pub invariant_of-result : goal.invariant_of-result
invariant_of-result c =
    places_with c.self.inside.set c.insert.new.self c.self.inside.list c.push.new.self c.args.place c.key_at.result c.key_at.ensures.width c.self.invariant c.key_at.ensures.value c.in_ok-insert.ensures.added c.in_ok-push.ensures.ok

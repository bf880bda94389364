use Rattle.bl_validate.specs.Scopes.{seen}
use Rattle.bl_validate.proofs.ConstructLemmas.{follows, not_follows, if_ok_from}
use Rattle.bl_validate.proofs.body.Body.follow.Goals as goal

pub returns-in-Some : goal.returns-in-Some
returns-in-Some c = if_ok_from c.apply.result _ _
    (λ ok h. follows (seen c.args.self.now) c.args.item.now c.in-Some.effect c.args.stacks.now c.apply.new.self ok c.requires.plain c.in-Some.ensures h) c.apply.ensures

pub returns-in-None : goal.returns-in-None
returns-in-None c = not_follows (seen c.args.self.now) c.args.item.now c.args.stacks.now c.args.stacks.now c.requires.plain c.in-None.ensures

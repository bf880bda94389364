use Rattle.bl_validate.specs.Represents.{Represents}
use Rattle.bl_validate.proofs.ConstructLemmas.{ends}
use Rattle.bl_validate.proofs.stacks.Stacks.end.Goals as goal

pub returns : goal.returns
returns c = λ context. ends context (Represents c.args.self.now) (Represents c.close.new.self) (Represents c.push.new.self) c.in-Some.construct (c.may_end.ensures.0 c.if-not-may_end.false) c.in-Some.ensures c.in_ok-push.ensures

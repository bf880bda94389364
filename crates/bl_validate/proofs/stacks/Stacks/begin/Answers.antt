use Rattle.bl_validate.specs.Represents.{Represents}
use Rattle.bl_validate.proofs.ConstructLemmas.{not_above, not_params}
use Rattle.bl_validate.proofs.stacks.Stacks.begin.Goals as goal

pub returns-then-not-pop : goal.returns-then-not-pop
returns-then-not-pop c = not_above (Represents c.args.self.now) (Represents c.pop.new.self) (Represents c.pop.new.self) c.args.construct c.args.above.now c.pop.result c.if-not-pop.true c.pop.ensures

pub returns-then-not-pop-2 : goal.returns-then-not-pop-2
returns-then-not-pop-2 c =
    not_params (Represents c.args.self.now) (Represents c.pop.new.self) (Represents c.pop-2.new.self) (Represents c.pop-2.new.self) c.args.construct c.args.above.now c.pop.result c.pop-2.result c.if-not-pop-2.true c.pop.ensures c.pop-2.ensures

use Rattle.bl_validate.specs.MayStand.{MayStand}
use Rattle.bl_validate.proofs.OperandLemmas.{selected, not_condition, not_pair}
use Rattle.bl_validate.proofs.operands.Operands.select.Goals as goal

pub returns-then-not-pop : goal.returns-then-not-pop
returns-then-not-pop c = not_condition (MayStand c.args.self.now) (MayStand c.pop.new.self) (MayStand c.pop.new.self) c.pop.result c.if-not-pop.true c.pop.ensures

pub returns-in_default : goal.returns-in_default
returns-in_default c = not_pair (MayStand c.args.self.now) (MayStand c.pop.new.self) (MayStand c.pop_pair.new.self) c.pop.result c.pop.ensures c.in_default.ensures

pub returns : goal.returns
returns c =
    selected (MayStand c.args.self.now) (MayStand c.pop.new.self) (MayStand c.pop_pair.new.self) (MayStand c.push_any.new.self) c.pop.result c.in-Some.entry c.if-not-pop.false
    c.pop.ensures c.in-Some.ensures c.in_ok-push_any.ensures

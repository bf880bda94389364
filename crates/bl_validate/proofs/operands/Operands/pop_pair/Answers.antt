use Rattle.bl_validate.specs.MayStand.{MayStand}
use Rattle.bl_validate.proofs.OperandLemmas.{no_second, no_first, both}
use Rattle.bl_validate.proofs.operands.Operands.pop_pair.Goals as goal

pub returns : goal.returns
returns c =
    both (MayStand c.args.self.now) (MayStand c.pop_any.new.self) (MayStand c.pop_any-2.new.self) c.in-Some-pop_any.first c.in-Some.second c.meet.result
    c.in-Some.ensures c.in-Some-pop_any.ensures c.meet.ensures

pub returns-in_default : goal.returns-in_default
returns-in_default c = no_second (MayStand c.args.self.now) c.in_default.ensures

pub returns-in_default-pop_any : goal.returns-in_default-pop_any
returns-in_default-pop_any c =
    no_first (MayStand c.args.self.now) (MayStand c.pop_any.new.self) c.in-Some.second c.in-Some.ensures c.in_default-pop_any.ensures

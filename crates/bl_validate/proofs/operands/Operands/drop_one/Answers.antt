use Rattle.bl_validate.specs.MayStand.{MayStand}
use Rattle.bl_validate.proofs.OperandLemmas.{drops}
use Rattle.bl_validate.proofs.operands.Operands.drop_one.Goals as goal

pub returns : goal.returns
returns c = rw c.is_some.ensures (drops (MayStand c.args.self.now) (MayStand c.pop_any.new.self) c.pop_any.result c.pop_any.ensures)

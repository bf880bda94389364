use Rattle.std.proofs.Common.{[], ◌∷◌}
use Rattle.bl_wasm.specs.declared.types.WasmType.TheVariants.{I32}
use Rattle.bl_validate.specs.MayStand.{MayStand}
use Rattle.bl_validate.proofs.OperandLemmas.{first_unpopped}
use Rattle.bl_validate.proofs.operands.Operands.pop_inputs.Goals as goal

pub returns-else-pop : goal.returns-else-pop
returns-else-pop c = rw c.if-not-effect.false
    (first_unpopped (MayStand c.args.self.now) (MayStand c.pop-2.new.self) (MayStand c.pop-2.new.self) c.args.effect.inputs.now (I32 ∷ []) c.pop-2.result c.pop-2.result c.if-pop.false c.if-pop.false c.pop-2.ensures)

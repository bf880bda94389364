use Rattle.bl_code.proofs.Instructions.{instruction_prefix_free}
use Rattle.bl_code.proofs.Places.{one_at}
use Rattle.bl_code.proofs.laws.one_instruction.Goals as goal

pub returns : goal.returns
returns c = λ bytes at end other x y p q. one_at bytes at end other x y instruction_prefix_free p q

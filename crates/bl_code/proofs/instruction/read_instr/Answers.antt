use Rattle.bl_code.specs.declared.error.CodeError.TheVariants.{Malformed}
use Rattle.bl_wasm.specs.Instructions.{instruction}
use Rattle.bl_code.proofs.Shapes.{never_empty}
use Rattle.bl_code.proofs.Places.{passes, err_byte, reads_behind}
use Rattle.bl_code.proofs.instruction.read_instr.Goals as goal

pub returns-in_err-code : goal.returns-in_err-code
returns-in_err-code c =
    passes _ c.args.bytes.now c.args.at c.from_residual.result _ c.from_residual.ensures.1
    (err_byte instruction c.args.bytes.now c.args.at Malformed never_empty c.in_err-code.ensures)

pub returns : goal.returns
returns c = reads_behind instruction c.args.bytes.now c.args.at c.in_ok-code.place c.in_ok-code.code _ never_empty c.in_ok-code.ensures c.read_behind.ensures

use Rattle.bl_code.specs.declared.error.CodeError.TheVariants.{Malformed}
use Rattle.bl_code.proofs.Places.{passes}
use Rattle.bl_code.proofs.Immediates.{err_indexed}
use Rattle.bl_code.proofs.instruction.read_indexed.Goals as goal

pub returns-in_err-index : goal.returns-in_err-index
returns-in_err-index c =
    passes _ c.args.bytes.now c.args.at c.from_residual.result _ c.from_residual.ensures.1
    (err_indexed c.args.code c.args.bytes.now c.args.at Malformed c.requires.code c.in_err-index.ensures)

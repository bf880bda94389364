use Rattle.bl_code.specs.declared.error.CodeError.TheVariants.{Malformed}
use Rattle.bl_wasm.specs.Types.{block_type}
use Rattle.bl_code.proofs.BlockTypes.{block_never_empty, none_block}
use Rattle.bl_code.proofs.Places.{passes_none, err_byte}
use Rattle.bl_code.proofs.types.read_block_type.Goals as goal

pub returns-in_err-code : goal.returns-in_err-code
returns-in_err-code c =
    passes_none _ c.args.bytes.now c.args.at c.from_residual.result _ c.from_residual.ensures.1
    (err_byte block_type c.args.bytes.now c.args.at Malformed block_never_empty c.in_err-code.ensures)

pub returns-in_err-index : goal.returns-in_err-index
returns-in_err-index c =
    passes_none _ c.args.bytes.now c.args.at c.from_residual-in_err-index.result _ c.from_residual-in_err-index.ensures.1
    (none_block c.args.bytes.now c.args.at c.in_ok-code.place c.in_ok-code.code c.in_ok-code.ensures c.if-code-eq64.false c.in_default.ensures.none c.in_err-index.ensures)

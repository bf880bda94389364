use Rattle.bl_code.specs.declared.error.CodeError.TheVariants.{Malformed}
use Rattle.bl_wasm.specs.Types.{limits}
use Rattle.bl_code.proofs.Limits.{limits_never_empty}
use Rattle.bl_code.proofs.Places.{passes_none, err_byte, finds_behind}
use Rattle.bl_code.proofs.types.read_limits.Goals as goal

pub returns-in_err-form : goal.returns-in_err-form
returns-in_err-form c =
    passes_none _ c.args.bytes.now c.args.at c.from_residual.result _ c.from_residual.ensures.1
    (err_byte limits c.args.bytes.now c.args.at Malformed limits_never_empty c.in_err-form.ensures)

pub returns : goal.returns
returns c = finds_behind limits c.args.bytes.now c.args.at c.in_ok-form.place c.in_ok-form.form _ limits_never_empty c.in_ok-form.ensures c.read_bounds.ensures

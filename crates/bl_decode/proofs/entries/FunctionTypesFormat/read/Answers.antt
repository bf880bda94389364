use Rattle.bl_leb.specs.Grammar.{◌⨾◌, byte}
use Rattle.bl_wasm.specs.Values.{vec}
use Rattle.bl_wasm.specs.Types.{value_type, function_type}
use Rattle.bl_wasm.specs.declared.types.FuncType.{FuncType}
use Rattle.bl_code.proofs.Places.{passes, err_along}
use Rattle.bl_decode.proofs.entries.FunctionTypesFormat.read.Goals as goal

pub returns-in_err-params : goal.returns-in_err-params
returns-in_err-params c =
    passes function_type c.args.bytes.now c.args.at c.from_residual.result _ c.from_residual.ensures.1
    (err_along (λ t. byte 0x60 ⨾ (vec value_type t.1.0 ⨾ vec value_type t.1.1)) function_type (λ (x : FuncType). (tt, (x.params, x.results))) c.args.bytes.now c.args.at _ (λ x t h. h) c.in_err-params.ensures)

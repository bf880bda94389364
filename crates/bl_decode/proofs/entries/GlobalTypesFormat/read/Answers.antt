use Rattle.bl_leb.specs.Grammar.{◌⨾◌}
use Rattle.bl_wasm.specs.Types.{value_type, mutability, global_type}
use Rattle.bl_wasm.specs.declared.types.GlobalType.{GlobalType}
use Rattle.bl_code.proofs.Places.{passes, err_along}
use Rattle.bl_decode.proofs.entries.GlobalTypesFormat.read.Goals as goal

pub returns-in_err-kind : goal.returns-in_err-kind
returns-in_err-kind c =
    passes global_type c.args.bytes.now c.args.at c.from_residual.result _ c.from_residual.ensures.1
    (err_along (λ t. value_type t.0 ⨾ mutability t.1) global_type (λ (x : GlobalType). (x.kind, x.mutable)) c.args.bytes.now c.args.at _ (λ x t h. h) c.in_err-kind.ensures)

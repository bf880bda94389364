use Rattle.bl_leb.specs.Grammar.{◌⨾◌, byte}
use Rattle.bl_wasm.specs.Types.{limits, table_type}
use Rattle.bl_wasm.specs.declared.types.Limits.{Limits}
use Rattle.bl_code.proofs.Places.{passes, err_along}
use Rattle.bl_decode.proofs.entries.TablesFormat.read.Goals as goal

pub returns-in_err-limits : goal.returns-in_err-limits
returns-in_err-limits c =
    passes table_type c.args.bytes.now c.args.at c.from_residual.result _ c.from_residual.ensures.1
    (err_along (λ t. byte 0x70 ⨾ limits t.1) table_type (λ (x : Limits). (tt, x)) c.args.bytes.now c.args.at _ (λ x t h. h) c.in_err-limits.ensures)

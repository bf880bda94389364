use Rattle.bl_leb.specs.Grammar.{◌⨾◌}
use Rattle.bl_wasm.specs.Types.{global_type}
use Rattle.bl_wasm.specs.Instructions.{expression}
use Rattle.bl_wasm.specs.Sections.{global_entry}
use Rattle.bl_wasm.specs.declared.module.DefinedGlobal.{DefinedGlobal}
use Rattle.bl_code.proofs.Places.{passes, err_along}
use Rattle.bl_decode.proofs.entries.GlobalsFormat.read.Goals as goal

pub returns-in_err-kind : goal.returns-in_err-kind
returns-in_err-kind c =
    passes global_entry c.args.bytes.now c.args.at c.from_residual.result _ c.from_residual.ensures.1
    (err_along (λ t. global_type t.0 ⨾ expression t.1) global_entry (λ (x : DefinedGlobal). (x.kind, x.initial)) c.args.bytes.now c.args.at _ (λ x t h. h) c.in_err-kind.ensures)

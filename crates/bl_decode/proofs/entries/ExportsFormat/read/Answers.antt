use Rattle.bl_leb.specs.Grammar.{◌⨾◌}
use Rattle.bl_wasm.specs.Values.{name, u32}
use Rattle.bl_wasm.specs.Sections.{export_kind, export_entry}
use Rattle.bl_wasm.specs.declared.module.Export.{Export}
use Rattle.bl_code.proofs.Places.{passes, err_along}
use Rattle.bl_decode.proofs.entries.ExportsFormat.read.Goals as goal

pub returns-in_err-name : goal.returns-in_err-name
returns-in_err-name c =
    passes export_entry c.args.bytes.now c.args.at c.from_residual.result _ c.from_residual.ensures.1
    (err_along (λ t. name t.0 ⨾ (export_kind t.1.0 ⨾ u32 t.1.1)) export_entry (λ (x : Export). (x.name, (x.kind, x.index))) c.args.bytes.now c.args.at _ (λ x t h. h) c.in_err-name.ensures)

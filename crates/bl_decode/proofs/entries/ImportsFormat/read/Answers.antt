use Rattle.bl_leb.specs.Grammar.{◌⨾◌}
use Rattle.bl_wasm.specs.Values.{name}
use Rattle.bl_wasm.specs.Sections.{import_kind, import_entry}
use Rattle.bl_wasm.specs.declared.module.Import.{Import}
use Rattle.bl_code.proofs.Places.{passes, err_along}
use Rattle.bl_decode.proofs.entries.ImportsFormat.read.Goals as goal

pub returns-in_err-from : goal.returns-in_err-from
returns-in_err-from c =
    passes import_entry c.args.bytes.now c.args.at c.from_residual.result _ c.from_residual.ensures.1
    (err_along (λ t. name t.0 ⨾ (name t.1.0 ⨾ import_kind t.1.1)) import_entry (λ (x : Import). (x.from, (x.name, x.kind))) c.args.bytes.now c.args.at _ (λ x t h. h) c.in_err-from.ensures)

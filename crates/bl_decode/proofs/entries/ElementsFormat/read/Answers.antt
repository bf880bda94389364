use Rattle.bl_leb.specs.Grammar.{◌⨾◌}
use Rattle.bl_wasm.specs.Values.{u32, vec}
use Rattle.bl_wasm.specs.Instructions.{expression}
use Rattle.bl_wasm.specs.Sections.{element_entry}
use Rattle.bl_wasm.specs.declared.module.ElementSegment.{ElementSegment}
use Rattle.bl_code.proofs.Places.{passes, err_along}
use Rattle.bl_decode.proofs.entries.ElementsFormat.read.Goals as goal

pub returns-in_err-table : goal.returns-in_err-table
returns-in_err-table c =
    passes element_entry c.args.bytes.now c.args.at c.from_residual.result _ c.from_residual.ensures.1
    (err_along (λ t. u32 t.0 ⨾ (expression t.1.0 ⨾ vec u32 t.1.1)) element_entry (λ (x : ElementSegment). (x.table, (x.offset, x.functions))) c.args.bytes.now c.args.at _ (λ x t h. h) c.in_err-table.ensures)

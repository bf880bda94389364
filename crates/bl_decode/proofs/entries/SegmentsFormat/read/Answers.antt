use Rattle.bl_leb.specs.Grammar.{◌⨾◌}
use Rattle.bl_wasm.specs.Values.{u32, byte_vec}
use Rattle.bl_wasm.specs.Instructions.{expression}
use Rattle.bl_wasm.specs.Sections.{data_entry}
use Rattle.bl_wasm.specs.declared.module.DataSegment.{DataSegment}
use Rattle.bl_code.proofs.Places.{passes, err_along}
use Rattle.bl_decode.proofs.entries.SegmentsFormat.read.Goals as goal

pub returns-in_err-memory : goal.returns-in_err-memory
returns-in_err-memory c =
    passes data_entry c.args.bytes.now c.args.at c.from_residual.result _ c.from_residual.ensures.1
    (err_along (λ t. u32 t.0 ⨾ (expression t.1.0 ⨾ byte_vec t.1.1)) data_entry (λ (x : DataSegment). (x.memory, (x.offset, x.bytes))) c.args.bytes.now c.args.at _ (λ x t h. h) c.in_err-memory.ensures)

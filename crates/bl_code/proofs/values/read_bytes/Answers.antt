use Rattle.std.proofs.Common.{length}
use Rattle.bl_leb.specs.Grammar.{exactly}
use Rattle.bl_wasm.specs.Values.{u32}
use Rattle.bl_code.proofs.Places.{passes, err_first, reads_after}
use Rattle.bl_code.specs.Laws.{u32_prefix_free}
use Rattle.bl_code.specs.declared.error.CodeError.TheVariants.{Malformed}
use Rattle.bl_code.proofs.values.read_bytes.Goals as goal

pub returns-in_err-count : goal.returns-in_err-count
returns-in_err-count c =
    passes _ c.args.bytes.now c.args.at c.from_residual.result _ c.from_residual.ensures.1
    (err_first u32 exactly length c.args.bytes.now c.args.at Malformed c.in_err-count.ensures)

pub returns : goal.returns
returns c = reads_after u32 exactly length c.args.bytes.now c.args.at c.in_ok-count.place c.in_ok-count.count _ u32_prefix_free c.in_ok-count.ensures c.read_exactly.ensures

use Rattle.bl_leb.specs.Grammar.{◌⨾◌}
use Rattle.bl_wasm.specs.Values.{u32}
use Rattle.bl_wasm.specs.Types.{value_type}
use Rattle.bl_wasm.specs.Sections.{local_run}
use Rattle.bl_wasm.specs.declared.module.LocalRun.{LocalRun}
use Rattle.bl_code.proofs.Places.{passes, err_along}
use Rattle.bl_decode.proofs.entries.LocalRunsFormat.read.Goals as goal

pub returns-in_err-count : goal.returns-in_err-count
returns-in_err-count c =
    passes local_run c.args.bytes.now c.args.at c.from_residual.result _ c.from_residual.ensures.1
    (err_along (λ t. u32 t.0 ⨾ value_type t.1) local_run (λ (x : LocalRun). (x.count, x.kind)) c.args.bytes.now c.args.at _ (λ x t h. h) c.in_err-count.ensures)

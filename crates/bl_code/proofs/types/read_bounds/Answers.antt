use Rattle.bl_wasm.specs.Values.{u32}
use Rattle.bl_wasm.specs.declared.types.Limits.{Limits}
use Rattle.bl_code.specs.Laws.{u32_prefix_free}
use Rattle.bl_code.specs.Types.{maximum}
use Rattle.bl_code.specs.declared.error.CodeError.TheVariants.{Malformed}
use Rattle.bl_code.proofs.Limits.{err_bounds, bounds_at}
use Rattle.bl_code.proofs.Places.{passes_none, err_first, err_second}
use Rattle.bl_code.proofs.types.read_bounds.Goals as goal

pub returns-in_err-min : goal.returns-in_err-min
returns-in_err-min c =
    passes_none _ c.args.bytes.now c.args.at c.from_residual.result _ c.from_residual.ensures.1
    (err_bounds c.args.form c.args.bytes.now c.args.at Malformed (err_first u32 (λ (x : Limits). maximum c.args.form x.max) (λ x. x.min) c.args.bytes.now c.args.at Malformed c.in_err-min.ensures))

pub returns-in_err-max : goal.returns-in_err-max
returns-in_err-max c =
    passes_none _ c.args.bytes.now c.args.at c.from_residual-in_err-max.result _ c.from_residual-in_err-max.ensures.1
    (err_bounds c.args.form c.args.bytes.now c.args.at Malformed (err_second u32 (maximum c.args.form) (λ (x : Limits). x.min) (λ x. x.max) c.args.bytes.now c.args.at c.in_ok-min.place c.in_ok-min.min Malformed u32_prefix_free c.in_ok-min.ensures c.in_err-max.ensures))

pub returns : goal.returns
returns c = bounds_at c.args.form c.args.bytes.now c.args.at c.in_ok-min.place c.in_ok-max.place c.in_ok-min.min c.in_ok-max.max c.in_ok-min.ensures c.in_ok-max.ensures

use Rattle.std.proofs.Common.{◌<◌, ◌^◌, List, ap, sym, subst, sum_by}
use Rattle.bl_leb.specs.Grammar.{◌⨾◌}
use Rattle.bl_wasm.specs.Values.{vec}
use Rattle.bl_wasm.specs.Instructions.{expression}
use Rattle.bl_wasm.specs.Sections.{local_run, function_code}
use Rattle.bl_wasm.specs.declared.module.LocalRun.{LocalRun}
use Rattle.bl_code.specs.ReaderAnswers.{IsAt}
use Rattle.bl_code.proofs.Places.{one_at, passes, err_along}
use Rattle.bl_code.proofs.Unique.{vec_prefix_free}
use Rattle.bl_code.proofs.ExpressionLemmas.{expression_prefix_free}
use Rattle.bl_decode.specs.Laws.{seq_prefix_free, local_run_prefix_free}
use Rattle.bl_wasm.specs.declared.module.Code.{Code}
use Rattle.bl_decode.proofs.entries.BodiesFormat.read.Goals as goal

pub returns-in_err-locals : goal.returns-in_err-locals
returns-in_err-locals c =
    passes function_code c.args.bytes.now c.args.at c.from_residual.result _ c.from_residual.ensures.1
    (err_along (λ t. vec local_run t.0 ⨾ expression t.1) function_code (λ (x : Code). (x.locals, x.items)) c.args.bytes.now c.args.at _ (λ x t h. h.1) c.in_err-locals.ensures)

pub returns-then-not-are_few : goal.returns-then-not-are_few
returns-then-not-are_few c = λ x end h.
    let there : IsAt (λ t. vec local_run t.0 ⨾ expression t.1) c.args.bytes.now c.args.at end (x.locals, x.items) = record { forward = h.forward; inside = h.inside; spelled = h.spelled.1 } in
    let same = one_at c.args.bytes.now c.args.at c.in_ok-locals.end end (c.in_ok-locals.locals, c.in_ok-locals.items) (x.locals, x.items) (seq_prefix_free (vec_prefix_free local_run_prefix_free) expression_prefix_free) c.in_ok-locals.ensures there in
    let few = subst (λ (l : List LocalRun). sum_by (λ run. run.count) l < 2 ^ 32) (sym (ap (λ t. t.0) same.1)) h.spelled.0 in
    let yes = c.are_few.ensures.1 (subst (λ (l : List LocalRun). sum_by (λ run. run.count) l < 2 ^ 32) (sym c.as_slice.ensures) few) in
    cc

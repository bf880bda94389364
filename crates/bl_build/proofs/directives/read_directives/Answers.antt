use Rattle.std.proofs.Common.{◌<◌, ◌≤◌, length, ap, subst}
use Rattle.bl_base.specs.Quantity.{limit_of}
use Rattle.bl_base.specs.declared.quantity.Quantity.TheVariants as quantity
use Rattle.bl_text.specs.Lines.{lines_of}
use Rattle.bl_job.specs.Refusals.{limit}
use Rattle.bl_build.specs.TraceStages.{TracingRefuses, too_many}
use Rattle.bl_job.proofs.StageLemmas.{told_as}
use Rattle.bl_build.proofs.TraceLemmas.{not_traced}
use Rattle.bl_build.proofs.directives.read_directives.Goals as goal

pub returns-then-count-limit : goal.returns-then-count-limit
returns-then-count-limit c =
    let lines = length (lines_of c.args.bytes.now) in
    told_as (limit quantity.Directives c.count_lines-count.result) (TracingRefuses c.args.bytes.now)
    (too_many (subst (λ n. n < lines) c.limit.ensures (subst (λ n. c.limit.result < n) c.count_lines-count.ensures c.if-count-limit.true))
    (ap (limit quantity.Directives) c.count_lines-count.ensures)) c.limit-then-count-limit.result c.limit-then-count-limit.ensures

pub returns-in-Err : goal.returns-in-Err
returns-in-Err c =
    let lines = length (lines_of c.args.bytes.now) in
    let few = subst (λ n. n ≤ limit_of quantity.Directives) c.count_lines-count.ensures (subst (λ n. c.count_lines-count.result ≤ n) c.limit.ensures c.if-count-limit.false) in
    not_traced c.args.bytes.now c.in-Err.error few c.in-Err.ensures c.of_trace.result c.of_trace.ensures

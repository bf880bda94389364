use Rattle.std.proofs.Common.{◌++◌}
use Rattle.bl_job.proofs.SinkTexts.{whole_both, cut_first, cut_second, cut_pushes, pushes_both}
use Rattle.bl_job.proofs.output.push_line.Goals as goal

pub returns-in_err-push_all : goal.returns-in_err-push_all
returns-in_err-push_all g c =
    let head = c.args.head.now in
    let tail = c.args.tail.now in
    let cut = rw c.as_bytes.ensures.value at c.in_err-push_all.ensures in
    cut_pushes _ _ _ _ c.from_residual.ensures.0 (cut_first (head ++ tail) _ _ _ (cut_first head tail _ _ cut))

pub returns-in_err-push_all-2 : goal.returns-in_err-push_all-2
returns-in_err-push_all-2 g c =
    let head = c.args.head.now in
    let tail = c.args.tail.now in
    let first = rw c.as_bytes.ensures.value at c.in_ok-push_all.ensures in
    cut_pushes _ _ _ _ c.from_residual-in_err-push_all-2.ensures.0
    (cut_first (head ++ tail) _ _ _ (cut_second head tail _ _ _ first c.in_err-push_all-2.ensures))

pub returns : goal.returns
returns g c =
    let head = c.args.head.now in
    let tail = c.args.tail.now in
    let first = rw c.as_bytes.ensures.value at c.in_ok-push_all.ensures in
    pushes_both c.push_all-3.result (head ++ tail) _ _ _ _ (whole_both head tail _ _ _ first c.in_ok-push_all-2.ensures) c.push_all-3.ensures

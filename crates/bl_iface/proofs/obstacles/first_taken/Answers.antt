use Rattle.std.proofs.Common.{sym, ap, ◌∙◌}
use Rattle.std.specs.Prelude.{is_some}
use Rattle.bl_iface.specs.JoinedProgram.{IsNew, exported}
use Rattle.bl_iface.proofs.ListTests.{all_done, all_step, first_without}
use Rattle.bl_iface.proofs.NameLemmas.{new_none, taken_some}
use Rattle.bl_iface.proofs.obstacles.first_taken.Goals as goal

pub returns-then-contains_key : goal.returns-then-contains_key
returns-then-contains_key c =
    let some = ap is_some (ap (exported c.args.kept.now) (sym c.as_slice.ensures) ∙ sym (c.in_ok-numbers.ensures c.as_slice.result.now)) ∙ sym c.contains_key.ensures ∙ c.if-contains_key.true in
    first_without (IsNew c.args.kept.now) c.args.exports.now c.loop-index.index c.index-exports-index.result c.loop-index-test.true c.index-exports-index.is c.loop-index.invariant
    (taken_some c.args.kept.now c.index-exports-index.result some)

pub loop-index-preserved : goal.loop-index-preserved
loop-index-preserved c =
    let none = ap is_some (ap (exported c.args.kept.now) (sym c.as_slice.ensures) ∙ sym (c.in_ok-numbers.ensures c.as_slice.result.now)) ∙ sym c.contains_key.ensures ∙ c.if-contains_key.false in
    all_step (IsNew c.args.kept.now) c.args.exports.now c.loop-index.index c.index-exports-index.result c.loop-index-test.true c.index-exports-index.is c.loop-index.invariant
    (new_none c.args.kept.now c.index-exports-index.result none)

pub returns : goal.returns
returns c = all_done (IsNew c.args.kept.now) c.args.exports.now c.loop-index.index c.loop-index-test.false c.loop-index.invariant

use Rattle.std.proofs.Common.{◌≡◌, ◌+◌, suc, ap, ◌∙◌, arith}
use Rattle.std.proofs.lemmas.Option.{slice_get_within}
use Rattle.bl_base.proofs.Lists.{item_at}
use Rattle.bl_program.specs.Layout.{first_of}
use Rattle.bl_program.proofs.Layouts.{first_below, next_first}
use Rattle.bl_iface.proofs.limits.vars_of.Goals as goal

pub overflow_add-total-in-loop-function : goal.overflow_add-total-in-loop-function
overflow_add-total-in-loop-function c =
    let got = item_at c.args.parts.now.functions c.as_slice-function-items.result.now c.loop-function.function-index c.function-item.result c.as_slice-function-items.ensures c.loop-function-test.true c.function-item.is in
    let next = next_first c.args.parts.now c.loop-function.function-index c.function-item.result got in
    let within = slice_get_within c.args.parts.now.functions c.loop-function.function-index c.function-item.result got in
    let below = first_below c.args.parts.now (suc c.loop-function.function-index) (omega arith) in
    let few = c.requires in
    let so_far : c.loop-function.total ≡ first_of c.args.parts.now c.loop-function.function-index = c.loop-function.invariant in
    let same = c.from-total.ensures in
    omega arith

pub loop-function-preserved : goal.loop-function-preserved
loop-function-preserved c =
    let got = item_at c.args.parts.now.functions c.as_slice-function-items.result.now c.loop-function.function-index c.function-item.result c.as_slice-function-items.ensures c.loop-function-test.true c.function-item.is in
    let next = next_first c.args.parts.now c.loop-function.function-index c.function-item.result got in
    let so_far : c.loop-function.total ≡ first_of c.args.parts.now c.loop-function.function-index = c.loop-function.invariant in
    let step : suc c.loop-function.function-index ≡ c.loop-function.function-index + 1 = omega arith in
    let same = c.from-total.ensures in
    let sum : c.loop-function.total + c.from-total.result ≡ first_of c.args.parts.now (suc c.loop-function.function-index) = omega arith in
    sum ∙ ap (first_of c.args.parts.now) step

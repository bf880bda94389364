use Rattle.std.proofs.Common.{◌≡◌, ◌+◌, ℕ, refl, ap, length, arith}
use Rattle.bl_program.specs.Layout.{sum_before}
use Rattle.bl_program.specs.declared.definitions.FunctionDef.{FunctionDef}
use Rattle.bl_program.proofs.Totals.{total_next, total_whole}
use Rattle.bl_image.proofs.decode.room_behind.Goals as goal

pub loop-function-preserved : goal.loop-function-preserved
loop-function-preserved c =
    let next = total_next (λ (f : FunctionDef). f.length) c.args.functions.now c.loop-function.function-index _ c.function-item.result c.loop-function-test.true c.function-item.is refl in
    let here : c.args.room ≡ sum_before (λ (f : FunctionDef). f.length) c.args.functions.now c.loop-function.function-index + c.loop-function.left = c.loop-function.invariant in
    let few = c.if-function-left.false in
    omega arith

pub returns-then-function-left : goal.returns-then-function-left
returns-then-function-left c =
    let whole = total_whole (λ (f : FunctionDef). f.length) c.args.functions.now c.loop-function.function-index _ c.function-item.result c.loop-function-test.true c.function-item.is refl in
    let here : c.args.room ≡ sum_before (λ (f : FunctionDef). f.length) c.args.functions.now c.loop-function.function-index + c.loop-function.left = c.loop-function.invariant in
    omega arith

pub returns : goal.returns
returns c =
    let here : c.args.room ≡ sum_before (λ (f : FunctionDef). f.length) c.args.functions.now c.loop-function.function-index + c.loop-function.left = c.loop-function.invariant in
    let end : c.loop-function.function-index ≡ length c.args.functions.now = omega arith in
    let same = ap (λ (k : ℕ). sum_before (λ (f : FunctionDef). f.length) c.args.functions.now k) end in
    omega arith

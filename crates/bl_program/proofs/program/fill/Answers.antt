use Rattle.std.proofs.Common.{◌≡◌, ◌+◌, ℕ, refl, ap, eq-eqb, length, arith}
use Rattle.std.proofs.lemmas.Bool.{eqb-true, false≢true}
use Rattle.bl_program.specs.Layout.{sum_before}
use Rattle.bl_program.specs.declared.definitions.FunctionDef.{FunctionDef}
use Rattle.bl_program.proofs.Totals.{total_next, total_whole}
use Rattle.bl_program.proofs.program.fill.Goals as goal

pub loop-function-preserved : goal.loop-function-preserved
loop-function-preserved c =
    let next = total_next (λ (f : FunctionDef). f.length) c.args.functions.now c.loop-function.function-index _ c.function-item.result c.loop-function-test.true c.function-item.is refl in
    let here : c.args.count ≡ 7 + sum_before (λ (f : FunctionDef). f.length) c.args.functions.now c.loop-function.function-index + c.loop-function.rest = c.loop-function.invariant in
    let few = c.if-function-rest.false in
    omega arith

pub returns-then-function-rest : goal.returns-then-function-rest
returns-then-function-rest c =
    let whole = total_whole (λ (f : FunctionDef). f.length) c.args.functions.now c.loop-function.function-index _ c.function-item.result c.loop-function-test.true c.function-item.is refl in
    let here : c.args.count ≡ 7 + sum_before (λ (f : FunctionDef). f.length) c.args.functions.now c.loop-function.function-index + c.loop-function.rest = c.loop-function.invariant in
    (λ t. absurd (false≢true t), λ e. absurd (omega arith))

pub returns : goal.returns
returns c =
    let here : c.args.count ≡ 7 + sum_before (λ (f : FunctionDef). f.length) c.args.functions.now c.loop-function.function-index + c.loop-function.rest = c.loop-function.invariant in
    let end : c.loop-function.function-index ≡ length c.args.functions.now = omega arith in
    let same = ap (λ (k : ℕ). sum_before (λ (f : FunctionDef). f.length) c.args.functions.now k) end in
    (λ t. let none = eqb-true _ _ t in omega arith, λ e. eq-eqb _ _ (omega arith))

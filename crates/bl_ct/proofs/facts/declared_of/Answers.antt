use Rattle.std.proofs.Common.{◌≡◌, ◌<◌, ◌^◌, Some, slice_get, [], length, sym, ap, subst, arith}
use Rattle.std.specs.Prelude.{slice_index}
use Rattle.bl_base.proofs.Lists.{item_at}
use Rattle.bl_program.specs.Layout.{first_of}
use Rattle.bl_program.specs.declared.definitions.FunctionDef.{FunctionDef}
use Rattle.bl_ct.specs.Facts.{Gathers, SomeAt, GlobalFits, ParamFits, FunctionFits}
use Rattle.bl_ct.proofs.DeclaredLists.{declared_are, globals_few, params_fit}
use Rattle.bl_ct.proofs.GatheredLists.{behind_begin, behind_next, behind_end}
use Rattle.bl_ct.proofs.facts.declared_of.Goals as goal

pub push_globals-requires : goal.push_globals-requires
push_globals-requires c = subst (λ l. length l < 2 ^ 32) (sym c.as_slice.ensures) (globals_few c.args.parts.now c.requires.rules)

pub loop-number-init : goal.loop-number-init
loop-number-init c =
    behind_begin c.args.parts.now.functions (FunctionFits c.args.parts.now) (SomeAt c.args.parts.now.globals GlobalFits) [] c.push_globals.new.all
    (subst (λ old. Gathers (SomeAt c.args.parts.now.globals GlobalFits) old c.push_globals.new.all) c.new-all.ensures
    (subst (λ l. Gathers (SomeAt l GlobalFits) c.new-all.result c.push_globals.new.all) c.as_slice.ensures c.in_ok-push_globals.ensures))

pub bounds-firsts-number : goal.bounds-firsts-number
bounds-firsts-number c =
    let count = c.requires.firsts.len in
    let all = ap (length {A = FunctionDef}) c.as_slice-function-items.ensures in
    let lt = c.loop-number-test.true in
    omega arith

pub push_params-requires : goal.push_params-requires
push_params-requires c =
    let item = item_at c.args.parts.now.functions _ _ _ c.as_slice-function-items.ensures c.loop-number-test.true c.function-item.is in
    let all = ap (length {A = FunctionDef}) c.as_slice-function-items.ensures in
    let lt = c.loop-number-test.true in
    let first = c.requires.firsts.each c.loop-number.number (omega arith) in
    let fits = params_fit c.args.parts.now c.requires.rules c.loop-number.number c.function-item.result item in
    let params = ap length c.as_slice-params.ensures in
    omega arith

pub loop-number-preserved : goal.loop-number-preserved
loop-number-preserved c =
    let item : slice_get c.args.parts.now.functions c.loop-number.number ≡ Some c.function-item.result =
    item_at c.args.parts.now.functions _ _ _ c.as_slice-function-items.ensures c.loop-number-test.true c.function-item.is in
    let all = ap (length {A = FunctionDef}) c.as_slice-function-items.ensures in
    let lt = c.loop-number-test.true in
    let first : slice_index c.args.firsts.now c.loop-number.number ≡ first_of c.args.parts.now c.loop-number.number =
    c.requires.firsts.each c.loop-number.number (omega arith) in
    behind_next c.args.parts.now.functions (FunctionFits c.args.parts.now) (SomeAt c.args.parts.now.globals GlobalFits)
    c.loop-number.number c.function-item.result [] c.loop-number.all c.push_params.new.all item
    (subst (λ f. Gathers (SomeAt c.function-item.result.params (ParamFits c.loop-number.number f)) c.loop-number.all c.push_params.new.all) first
    (subst (λ l. Gathers (SomeAt l (ParamFits c.loop-number.number (slice_index c.args.firsts.now c.loop-number.number))) c.loop-number.all c.push_params.new.all)
    c.as_slice-params.ensures c.in_ok-push_params.ensures))
    c.loop-number.invariant

pub returns : goal.returns
returns c =
    let low = c.loop-number-test.false in
    let all = ap (length {A = FunctionDef}) c.as_slice-function-items.ensures in
    declared_are c.args.parts.now c.loop-number.all
    (behind_end c.args.parts.now.functions (FunctionFits c.args.parts.now) (SomeAt c.args.parts.now.globals GlobalFits) c.loop-number.number [] c.loop-number.all
    (omega arith) c.loop-number.invariant)

use Rattle.std.proofs.Common.{◌≡◌, ◌+◌, suc, Some, slice_get, arith}
use Rattle.std.proofs.lemmas.Option.{slice_get_within}
use Rattle.bl_base.proofs.Lists.{item_at}
use Rattle.bl_program.specs.Layout.{entry_of}
use Rattle.bl_program.proofs.Layouts.{next_entry, entry_below}
use Rattle.bl_program.proofs.ValueLists.{values_next}
use Rattle.bl_definite.proofs.tables.entries_of.Goals as goal

pub overflow_add-entry : goal.overflow_add-entry
overflow_add-entry c =
    let item : slice_get c.args.parts.now.functions c.loop-function.function-index ≡ Some c.function-item.result =
    item_at _ _ _ _ c.as_slice-function-items.ensures c.loop-function-test.true c.function-item.is in
    let within = slice_get_within c.args.parts.now.functions c.loop-function.function-index c.function-item.result item in
    let next = next_entry c.args.parts.now c.loop-function.function-index c.function-item.result item in
    let low = entry_below c.args.parts.now (suc c.loop-function.function-index) (omega arith) in
    let all = c.requires.rule.commands in let ends = c.requires.facts.lengths in
    let here = c.loop-function.invariant.last in
    omega arith

pub loop-function-preserved : goal.loop-function-preserved
loop-function-preserved c =
    let item : slice_get c.args.parts.now.functions c.loop-function.function-index ≡ Some c.function-item.result =
    item_at _ _ _ _ c.as_slice-function-items.ensures c.loop-function-test.true c.function-item.is in
    let next = next_entry c.args.parts.now c.loop-function.function-index c.function-item.result item in
    let one : c.loop-function.function-index + 1 ≡ suc c.loop-function.function-index = omega arith in
    let last : c.loop-function.entry + c.function-item.result.length ≡ entry_of c.args.parts.now (c.loop-function.function-index + 1) =
    let here = c.loop-function.invariant.last in rw one (omega arith) in
    record { values = values_next _ _ _ _ _ c.in_ok-push-2.ensures.ok c.loop-function.invariant.values last; last = last }

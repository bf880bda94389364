use Rattle.std.proofs.Common.{◌∙◌, arith}
use Rattle.bl_program.proofs.Layouts.{sum_step}
use Rattle.bl_program.specs.declared.definitions.FunctionDef.{FunctionDef}
use Rattle.bl_definite.proofs.Questions.{flags_unset}
use Rattle.bl_definite.proofs.checker.lacking_in.Goals as goal

pub lacking_from-requires-clause-none : goal.lacking_from-requires-clause-none
lacking_from-requires-clause-none c = flags_unset _ c.deref_mut.result.now (c.deref_mut.ensures.value ∙ c.in_ok-early.ensures)

pub overflow_sub-end : goal.overflow_sub-end
overflow_sub-end c =
    let up = sum_step (λ (f : FunctionDef). f.length) c.args.place.now.parts.now.functions c.args.place.now.function in
    let from = c.entry.ensures in
    let to = c.end.ensures in
    omega arith

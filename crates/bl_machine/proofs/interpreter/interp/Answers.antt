use Rattle.std.proofs.Common.{length, sym, subst}
use Rattle.bl_base.specs.Runs.{IsWithin, AnswersRun}
use Rattle.bl_reduce.specs.Outcomes.{source}
use Rattle.bl_machine.specs.InterpreterAnswers.{TellsMemories, machine_outcome}
use Rattle.bl_machine.proofs.DriveLemmas.{answers, tells_memories, machine_outcome_is}
use Rattle.bl_machine.proofs.interpreter.interp.Goals as goal

pub returns-clause-answers : goal.returns-clause-answers
returns-clause-answers c =
    let drives = rw c.tree-tree.ensures.same at c.in_ok-progress.ensures in
    machine_outcome_is (λ run. AnswersRun (source c.args.tree.now c.args.function c.args.start.now) c.args.steps run) c.finish.result (machine_outcome c.in_ok-progress.progress c.drive.new.machine)
    (λ run e. subst (IsWithin (source c.args.tree.now c.args.function c.args.start.now) c.args.steps) (sym e)
    (answers c.args.tree.now c.args.function c.args.start.now c.args.steps c.in_ok-progress.progress c.drive.new.machine c.requires.start drives))
    c.finish.ensures

pub returns-clause-memories : goal.returns-clause-memories
returns-clause-memories c =
    let drives = rw c.tree-tree.ensures.same at c.in_ok-progress.ensures in
    machine_outcome_is (TellsMemories (length c.args.tree.now.memories)) c.finish.result (machine_outcome c.in_ok-progress.progress c.drive.new.machine)
    (λ run e. tells_memories c.args.tree.now c.args.function c.args.start.now c.args.steps c.in_ok-progress.progress c.drive.new.machine run e drives)
    c.finish.ensures

use Rattle.std.proofs.Common.{◌+◌, sym, ◌∙◌, arith}
use Rattle.bl_machine.proofs.DriveLemmas.{begins, stepped, goes_on, is_over, is_spent}
use Rattle.bl_machine.proofs.interpreter.drive.Goals as goal

pub loop-init : goal.loop-init
loop-init c = begins _ _ _ _ c.requires.linked c.requires.start c.requires.begun

pub loop-preserved : goal.loop-preserved
loop-preserved c =
    goes_on c.args.tree.now c.args.function c.args.start.now (c.loop.counter + 1) c.in_ok-progress.progress c.advance.new.machine (sym c.ended.ensures ∙ c.if-ended.false)
    (stepped c.args.tree.now c.args.function c.args.start.now c.loop.counter c.loop.progress c.loop.machine c.in_ok-progress.progress c.advance.new.machine
    c.requires.linked c.loop.invariant (rw c.requires.prepared at c.in_ok-progress.ensures))

pub returns-then-ended : goal.returns-then-ended
returns-then-ended c =
    is_over c.args.tree.now c.args.function c.args.start.now (c.loop.counter + 1) c.args.steps c.in_ok-progress.progress c.advance.new.machine (sym c.ended.ensures ∙ c.if-ended.true) (omega arith)
    (stepped c.args.tree.now c.args.function c.args.start.now c.loop.counter c.loop.progress c.loop.machine c.in_ok-progress.progress c.advance.new.machine
    c.requires.linked c.loop.invariant (rw c.requires.prepared at c.in_ok-progress.ensures))

pub returns : goal.returns
returns c = is_spent c.args.tree.now c.args.function c.args.start.now c.loop.counter c.args.steps c.loop.progress c.loop.machine (omega arith) c.loop.invariant

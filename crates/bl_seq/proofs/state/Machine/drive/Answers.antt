use Rattle.std.proofs.Common.{◌∙◌, ap, arith}
use Rattle.bl_seq.specs.Machines.{next_of, shown}
use Rattle.bl_seq.proofs.MachineRuns.{goes_on, has_ended, is_stuck}
use Rattle.bl_seq.proofs.state.Machine.drive.Goals as goal

pub loop-preserved : goal.loop-preserved
loop-preserved c =
    goes_on c.args.layout.now.parts.now (shown c.args.self.now) c.loop.counter (shown c.loop.self) (shown c.step.new.self) c.loop.invariant
    (c.in_ok-step.ensures ∙ ap (λ p. next_of c.args.layout.now.parts.now p (shown c.step.new.self)) c.in-Running.is)

pub returns-in-Returned : goal.returns-in-Returned
returns-in-Returned c =
    has_ended c.args.layout.now.parts.now (shown c.args.self.now) c.loop.counter c.args.steps (shown c.loop.self) _ c.loop.invariant
    (c.in_ok-step.ensures ∙ ap (λ p. next_of c.args.layout.now.parts.now p (shown c.step.new.self)) c.in-Returned.is) (omega arith)

pub returns-in-Trapped : goal.returns-in-Trapped
returns-in-Trapped c =
    has_ended c.args.layout.now.parts.now (shown c.args.self.now) c.loop.counter c.args.steps (shown c.loop.self) _ c.loop.invariant
    (c.in_ok-step.ensures ∙ ap (λ p. next_of c.args.layout.now.parts.now p (shown c.step.new.self)) c.in-Trapped.is) (omega arith)

pub returns-in-Stuck : goal.returns-in-Stuck
returns-in-Stuck c =
    is_stuck c.args.layout.now.parts.now (shown c.args.self.now) c.loop.counter c.args.steps (shown c.loop.self) c.loop.invariant
    (c.in_ok-step.ensures ∙ ap (λ p. next_of c.args.layout.now.parts.now p (shown c.step.new.self)) c.in-Stuck.is)

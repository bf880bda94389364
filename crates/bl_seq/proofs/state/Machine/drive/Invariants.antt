use Rattle.bl_base.specs.Runs.{StepsTo}
use Rattle.bl_program.specs.Steps.{plain_step}
use Rattle.bl_seq.specs.Machines.{shown}
use Rattle.bl_seq.proofs.state.Machine.drive.Given as goal

abbrev pub invariant-loop : goal.invariant-loop
invariant-loop l = StepsTo (plain_step l.layout.parts.now) l.counter (shown l.initial.self) (shown l.self)

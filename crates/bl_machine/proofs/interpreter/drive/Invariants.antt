use Rattle.bl_machine.proofs.DriveLemmas.{Reached}
use Rattle.bl_machine.proofs.interpreter.drive.Given as goal

abbrev pub invariant-loop : goal.invariant-loop
invariant-loop l = Reached l.tree l.function l.start l.counter l.progress l.machine

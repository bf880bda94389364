use Rattle.bl_rob.specs.CallResults.{is_enabled, shown}
use Rattle.bl_rob.specs.Machines.{directive_step}
use Rattle.bl_rob.specs.declared.directive.Directive.TheVariants.{Exec}
use Rattle.bl_predict.specs.Drives.{shows_read}
use Rattle.bl_predict.proofs.LeastPlaces.{LooksOn}
use Rattle.bl_predict.proofs.choice.next_execution.Given as goal

abbrev pub invariant-loop-n : goal.invariant-loop-n
invariant-loop-n l =
    LooksOn (λ n. shows_read (directive_step 64 l.rob.program (shown l.rob.machine) (Exec n))) (λ n. is_enabled 64 l.rob.program (shown l.rob.machine) (Exec n))
    l.count l.n l.first

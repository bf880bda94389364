use Rattle.std.proofs.Common.{◌∙◌, ap, sym}
use Rattle.bl_rob.specs.CallResults.{is_some, shown}
use Rattle.bl_forward.proofs.ExecutionLemmas.{fills_execution, plain_enabled, waits_execution}
use Rattle.bl_forward.proofs.load.ForwardLoads.may_exec.Goals as goal
use Rattle.bl_forward.proofs.load.ForwardLoads.may_exec.Goals.{in-Plain, in-Waits, in-Fills}

pub returns : goal.returns
returns c = λ most.
    let program = c.args.layout.now.parts.now in
    let s = shown c.args.machine.now in
    elim c.match-execution_at.branch [
      | in-Plain w ↦ plain_enabled most program s c.args.n c.match-execution_at.result (sym c.execution_at.ensures ∙ w.in-Plain.is) (w.result-is ∙ w.may_exec.ensures most)
      | in-Waits w ↦ w.result-is ∙ sym (ap is_some (waits_execution most program s c.args.n (sym c.execution_at.ensures ∙ w.in-Waits.is)))
      | in-Fills w ↦ w.result-is ∙ sym (ap is_some (fills_execution most program s c.args.n _ _ (sym c.execution_at.ensures ∙ w.in-Fills.is)).2)
    ]

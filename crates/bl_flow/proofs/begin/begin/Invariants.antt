use Rattle.bl_flow.specs.Flows.{IsFlow}
use Rattle.bl_flow.proofs.begin.begin.Given as goal

abbrev pub invariant-loop-link : goal.invariant-loop-link
invariant-loop-link g l = IsFlow g.n l.capacities l.amount

abbrev pub ghost-exhaust : goal.ghost-exhaust
ghost-exhaust g a = g.n

abbrev pub ghost-complete : goal.ghost-complete
ghost-complete g a = g.n

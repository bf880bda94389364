use Rattle.bl_flow.specs.Flows.{IsFlow}
use Rattle.bl_flow.proofs.begin.exhaust.Given as goal

abbrev pub invariant-loop : goal.invariant-loop
invariant-loop g l = IsFlow g.n l.capacities l.total

abbrev pub ghost-push_along : goal.ghost-push_along
ghost-push_along g a = g.n

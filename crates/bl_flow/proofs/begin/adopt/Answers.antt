use Rattle.std.proofs.Common.{arith, ◌≡◌, ◌+◌, ◌*◌, true, subst, length, slice_index}
use Rattle.std.specs.Prelude.{IfSome}
use Rattle.bl_flow.specs.Flows.{Carries}
use Rattle.bl_flow.specs.Capacities.{AreCarrying}
use Rattle.bl_flow.proofs.Carryings.{flow_adopted}
use Rattle.bl_flow.proofs.begin.adopt.Goals as goal

pub returns-in-Some : goal.returns-in-Some
returns-in-Some g c =
    let yes : c.in_ok-is_balanced.field-0 ≡ true = let test = c.if-not-branch.false in grind arith in
    let balanced = subst (λ xs. Carries c.args.split.now.links (length xs) (slice_index xs) (2 * c.args.split.now.nodes) (2 * c.args.split.now.nodes + 1) c.args.candidate.amount)
    c.deref.ensures.value (c.in_ok-is_balanced.ensures yes) in
    let are = subst (λ found. IfSome found (λ after. AreCarrying c.args.capacities.now after c.args.candidate.carried.items c.args.candidate.amount)) c.in-Some.is c.in_ok-after.ensures in
    flow_adopted g.n c.args.split.now c.args.capacities.now c.in-Some.after c.args.candidate.carried.items c.args.amount c.args.candidate.amount c.requires.split_ c.requires.flow are balanced

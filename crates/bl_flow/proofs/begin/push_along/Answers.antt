use Rattle.std.proofs.Common.{arith, true, ◌≡◌, ◌+◌, ◌*◌}
use Rattle.bl_flow.specs.Flows.{IsFlow}
use Rattle.bl_flow.specs.Searches.{IsTrail}
use Rattle.bl_flow.proofs.FlowBounds.{at_most_total, halves_fit, flow_after}
use Rattle.bl_flow.proofs.begin.push_along.Goals as goal
use Rattle.bl_flow.proofs.begin.push_along.Goals.{After-push}

pub push-requires-clause-halves : goal.push-requires-clause-halves
push-requires-clause-halves g c = halves_fit g.n c.args.capacities.now c.args.amount c.requires.flow c.requires.total

after : (g : _) (c : After-push g) → IsFlow g.n c.push.new.capacities (c.args.amount + c.least_capacity-more.result)
after g c =
    let yes : c.leads_back.result ≡ true = let test = c.if-not-leads_back.false in grind arith in
    let simple : c.is_simple.result ≡ true = let test = c.if-not-is_simple.false in grind arith in
    let on : IsTrail c.args.split.now.links c.args.capacities.now (2 * c.args.split.now.nodes) (2 * c.args.split.now.nodes + 1) c.args.trail.now c.least_capacity-more.result = record {
      back = c.leads_back.ensures.back yes;
      within = c.leads_back.ensures.within yes;
      enough = c.least_capacity-more.ensures.least;
      apart = c.is_simple.ensures.apart simple;
      some_capacity = let some = c.if-more-eq0.false in omega arith;
    } in
    flow_after g.n c.args.split.now c.args.capacities.now c.push.new.capacities c.args.amount c.args.trail.now c.least_capacity-more.result c.requires.split_ c.requires.flow on c.push.ensures

pub overflow_add-result : goal.overflow_add-result
overflow_add-result g c =
    let most = at_most_total g.n c.push.new.capacities (c.args.amount + c.least_capacity-more.result) (after g c) c.requires.split_.in_range c.requires.bounded in let total = c.requires.total in
    omega arith

pub returns : goal.returns
returns g c = after g (goal.at.returns g c).After-push

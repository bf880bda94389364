use Rattle.std.proofs.Common.{arith, ◌≡◌, ◌<◌, ◌+◌, ◌-◌, length, take, sym, ap, ◌∙◌, refl}
use Rattle.bl_flow.specs.Networks.{total_weight}
use Rattle.bl_flow.proofs.FlowBounds.{at_most_total, halves_fit, capacities_of}
use Rattle.bl_flow.proofs.LastLevels.{linked}
use Rattle.bl_flow.proofs.Phases.{Phase, phase_begins, phase_more, phase_ends}
use Rattle.bl_flow.proofs.level_graph.block.Goals as goal
use Rattle.bl_flow.proofs.level_graph.block.Goals.{After-push}

pub loop-count-init : goal.loop-count-init
loop-count-init g c = record {
  phase = phase_begins g.n c.args.split.now c.args.levels.now c.args.amount c.args.capacities.now c.args.passed.now c.requires.1.1.1.0 c.requires.0.flow;
  long = c.requires.1.1.1.1;
}

pub next_augmenting_path-requires-clause-linked : goal.next_augmenting_path-requires-clause-linked
next_augmenting_path-requires-clause-linked g c = linked g.n c.args.split.now c.requires.0.split_

pub returns-in_default-clause-blocked : goal.returns-in_default-clause-blocked
returns-in_default-clause-blocked g c =
    phase_ends g.n c.args.split.now c.args.levels.now c.args.amount c.args.capacities.now c.loop-count.capacities c.loop-count.total c.loop-count.passed c.next_augmenting_path.new.passed c.loop-count.invariant.phase
    c.requires.1.1.0 (linked g.n c.args.split.now c.requires.0.split_) c.in_default.ensures.passed (c.in_default.ensures.none refl)

pub least_capacity-capacity-requires : goal.least_capacity-capacity-requires
least_capacity-capacity-requires g c =
    let short = c.in-Some.ensures.trail in
    let places : length c.loop-count.capacities ≡ length c.args.split.now.links = capacities_of g.n c.loop-count.capacities c.loop-count.total c.loop-count.invariant.phase.flow ∙ ap length (sym c.requires.0.split_.links_) in
    λ place lt. let inside = short.within place lt in omega arith

pub push-requires-clause-within : goal.push-requires-clause-within
push-requires-clause-within g c =
    let short = c.in-Some.ensures.trail in
    let places : length c.loop-count.capacities ≡ length c.args.split.now.links = capacities_of g.n c.loop-count.capacities c.loop-count.total c.loop-count.invariant.phase.flow ∙ ap length (sym c.requires.0.split_.links_) in
    λ place lt. let inside = short.within place lt in omega arith

pub push-requires-clause-apart : goal.push-requires-clause-apart
push-requires-clause-apart g c = c.in-Some.ensures.trail.apart

pub push-requires-clause-halves : goal.push-requires-clause-halves
push-requires-clause-halves g c = halves_fit g.n c.loop-count.capacities c.loop-count.total c.loop-count.invariant.phase.flow c.requires.0.total

after : (g : _) (c : After-push g) → Phase g.n c.args.split.now c.args.levels.now c.args.amount c.args.capacities.now c.push.new.capacities (c.loop-count.total + c.least_capacity-capacity.result) c.next_augmenting_path.new.passed
after g c =
    let short = c.in-Some.ensures.trail in
    phase_more g.n c.args.split.now c.args.levels.now c.args.amount c.args.capacities.now c.loop-count.capacities c.push.new.capacities c.loop-count.total c.least_capacity-capacity.result c.loop-count.passed c.next_augmenting_path.new.passed (take c.in-Some.count c.next_augmenting_path.new.trail)
    c.requires.0.split_ (linked g.n c.args.split.now c.requires.0.split_) c.loop-count.invariant.phase
    (let auto = c.next_augmenting_path.auto.passed in let before = c.loop-count.invariant.phase.places in omega arith)
    c.in-Some.ensures.passed short c.least_capacity-capacity.ensures.least (c.least_capacity-capacity.ensures.some short.capacity) c.push.ensures

pub overflow_add-total : goal.overflow_add-total
overflow_add-total g c =
    let most = at_most_total g.n c.push.new.capacities (c.loop-count.total + c.least_capacity-capacity.result) (after g c).flow c.requires.0.split_.in_range c.requires.0.bounded in let total = c.requires.0.total in
    omega arith

pub loop-count-smaller : goal.loop-count-smaller
loop-count-smaller g c =
    let most = at_most_total g.n c.push.new.capacities (c.loop-count.total + c.least_capacity-capacity.result) (after g c).flow c.requires.0.split_.in_range c.requires.0.bounded in let total = c.requires.0.total in
    let some = c.least_capacity-capacity.ensures.some c.in-Some.ensures.trail.capacity in
    let less : total_weight g.n - (c.loop-count.total + c.least_capacity-capacity.result) < total_weight g.n - c.loop-count.total = omega arith in
    less

pub loop-count-preserved : goal.loop-count-preserved
loop-count-preserved g c = record {
  phase = after g c;
  long = let auto = c.next_augmenting_path.auto.trail in let long = c.loop-count.invariant.long in omega arith;
}

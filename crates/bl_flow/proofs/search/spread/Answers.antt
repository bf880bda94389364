use Rattle.std.proofs.Common.{arith, ◌≡◌, ◌<◌, ◌≤◌, length, slice_index, sym, subst}
use Rattle.bl_flow.specs.Levels.{AreBelow, Spread, Visited}
use Rattle.bl_flow.proofs.LevelSearch.{spread_begins, spread_on, spread_ends}
use Rattle.bl_flow.proofs.search.spread.Goals as goal

pub loop-next-init : goal.loop-next-init
loop-next-init c =
    spread_begins c.args.split.now.links c.args.capacities.now c.args.end c.args.stops c.args.levels.now c.args.queue.now
    (subst (λ m. AreBelow m c.args.queue.now) (sym c.requires.places) c.requires.inside)

pub loop-next-preserved : goal.loop-next-preserved
loop-next-preserved c =
    let loop = c.loop-next in
    let lt : loop.next < length loop.queue = let e = c.len.ensures.count in let test = c.loop-next-test.true in omega arith in
    let part : c.part-part.result ≡ slice_index loop.queue loop.next = c.part-part.ensures in
    spread_on c.args.split.now.links c.args.capacities.now c.args.end c.args.stops c.args.levels.now c.args.queue.now loop.levels loop.queue loop.next
    c.visit.new.levels c.visit.new.queue loop.invariant lt
    (subst (λ p. Visited c.args.split.now.links c.args.capacities.now p c.args.end c.args.stops loop.levels loop.queue c.visit.new.levels c.visit.new.queue) part c.in_ok-visit.ensures)

pub loop-next-smaller : goal.loop-next-smaller
loop-next-smaller c =
    let loop = c.loop-next in
    let lt : loop.next < length loop.queue = let e = c.len.ensures.count in let test = c.loop-next-test.true in omega arith in
    let counts = c.in_ok-visit.ensures.counts in omega arith

pub returns-clause-spread : goal.returns-clause-spread
returns-clause-spread c =
    let loop = c.loop-next in
    let past : length loop.queue ≤ loop.next = let e = c.len.ensures.count in let test = c.loop-next-test.false in omega arith in
    subst (λ q. Spread c.args.split.now.links c.args.capacities.now c.args.end c.args.stops c.args.levels.now c.args.queue.now loop.levels q 0) (sym c.clear.ensures)
    (spread_ends c.args.split.now.links c.args.capacities.now c.args.end c.args.stops c.args.levels.now c.args.queue.now loop.levels loop.queue loop.next loop.invariant past)

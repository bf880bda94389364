use Rattle.std.proofs.Common.{arith, length}
use Rattle.bl_flow.proofs.AdjacencyCounts.{sum_small, are_ends}
use Rattle.bl_flow.proofs.rows.rows_of.Goals as goal

pub sums_of-requires : goal.sums_of-requires
sums_of-requires c =
    let counts = c.in_ok-counts.counts.items in
    let small = sum_small c.args.links.now c.args.parts (length c.args.links.now) (length counts) counts c.in_ok-counts.ensures (omega arith) in
    let number = c.in_ok-count.ensures.number in let below = c.in_ok-count.ensures.small in let sum = c.half.ensures.sum in omega arith

pub filled_rows-requires-clause-ends : goal.filled_rows-requires-clause-ends
filled_rows-requires-clause-ends c =
    are_ends c.args.links.now c.args.parts c.in_ok-counts.counts.items c.sums_of.result.items c.in_ok-counts.ensures c.sums_of.ensures.places c.sums_of.ensures.sums

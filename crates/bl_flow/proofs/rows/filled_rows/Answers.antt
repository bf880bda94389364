use Rattle.std.proofs.Common.{arith, ◌≡◌, length, subst}
use Rattle.bl_flow.proofs.Offsets.{rows_count}
use Rattle.bl_flow.proofs.AdjacencyCounts.{Filled, fills_next, are_offsets, are_rows}
use Rattle.bl_flow.proofs.rows.filled_rows.Goals as goal

pub overflow_sub-place : goal.overflow_sub-place
overflow_sub-place c =
    let loop = c.loop-k in let count = c.requires.count in let test = c.loop-k-test.true in
    (fills_next c.args.links.now (length c.args.ends.items) loop.k c.index.result.now c.link-from.result loop.offsets.items loop.entries.items loop.invariant c.requires.inside (omega arith) c.link-from.ensures c.index.ensures).some

pub index_mut-requires : goal.index_mut-requires
index_mut-requires c =
    let loop = c.loop-k in let count = c.requires.count in let test = c.loop-k-test.true in let ok = loop.entries.ok.0 in
    let next = fills_next c.args.links.now (length c.args.ends.items) loop.k c.index.result.now c.link-from.result loop.offsets.items loop.entries.items loop.invariant c.requires.inside (omega arith) c.link-from.ensures c.index.ensures in
    let some = next.some in let within = next.within in omega arith

pub loop-k-preserved : goal.loop-k-preserved
loop-k-preserved c =
    let loop = c.loop-k in let count = c.requires.count in let test = c.loop-k-test.true in
    (fills_next c.args.links.now (length c.args.ends.items) loop.k c.index.result.now c.link-from.result loop.offsets.items loop.entries.items loop.invariant c.requires.inside (omega arith) c.link-from.ensures c.index.ensures).next

pub invariant_of-result : goal.invariant_of-result
invariant_of-result c =
    let loop = c.loop-k in let links = c.args.links.now in let places = length c.args.ends.items in
    let count = c.requires.count in let fits = c.ranges.count.fits in let test = c.loop-k-test.false in let end = loop.auto.k-end in
    let all : loop.k ≡ length links = omega arith in
    are_offsets links places loop.offsets.items loop.entries.items (subst (λ k. Filled links places k loop.offsets.items loop.entries.items) all loop.invariant) c.requires.ends.some (omega arith)

pub returns-clause-places : goal.returns-clause-places
returns-clause-places c =
    let count = rows_count c.loop-k.offsets.items c.loop-k.entries.items in
    let places = c.loop-k.invariant.parts in let some = c.requires.ends.some in omega arith

pub returns-clause-rows : goal.returns-clause-rows
returns-clause-rows c =
    let loop = c.loop-k in let links = c.args.links.now in let places = length c.args.ends.items in
    let count = c.requires.count in let test = c.loop-k-test.false in let end = loop.auto.k-end in
    let all : loop.k ≡ length links = omega arith in
    are_rows links places loop.offsets.items loop.entries.items (subst (λ k. Filled links places k loop.offsets.items loop.entries.items) all loop.invariant) (invariant_of-result c) c.requires.inside

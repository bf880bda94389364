use Rattle.std.proofs.Common.{arith, ◌≡◌, ◌<◌, ℕ, slice_index, sym, subst, ◌∙◌}
use Rattle.std.proofs.lemmas.List.{get_or_default}
use Rattle.bl_flow.proofs.AdjacencyCounts.{count_small}
use Rattle.bl_flow.proofs.rows.counts_of.Goals as goal

pub overflow_add-index_mut : goal.overflow_add-index_mut
overflow_add-index_mut c =
    let loop = c.loop-k in
    let from : ℕ = c.link-from.result.from in
    let count = c.requires.count in let test = c.loop-k-test.true in let fits = c.ranges.count.fits in
    let inside : from < c.args.parts = subst (λ link. link.from < c.args.parts) (sym c.link-from.ensures) (c.requires.inside loop.k (omega arith)) in
    let places = loop.invariant.places in
    let got : c.index_mut.result.now ≡ slice_index loop.counts.items from = c.index_mut.ensures.value ∙ get_or_default loop.counts.items from _ 0 (omega arith) in
    let small = count_small c.args.links.now c.args.parts loop.k from loop.counts.items loop.invariant (omega arith) in
    omega arith

use Rattle.std.proofs.Common.{ap, arith, ◌<◌, ◌+◌, ◌-◌, ◌*◌, length, slice_index, sym, ◌∙◌, refl}
use Rattle.std.proofs.lemmas.Bool.{false≢true}
use Rattle.bl_flow.specs.Split.{link_at}
use Rattle.bl_flow.specs.Searches.{part_row}
use Rattle.bl_flow.specs.SplitNetworks.{rows_in}
use Rattle.bl_flow.proofs.BlockingFlows.{takes_buffered, passes_buffered, back_buffered, may_buffered, none_left, at_place, past_row}
use Rattle.bl_flow.proofs.level_graph.next_augmenting_path.Goals as goal

pub loop-at-preserved-then-leads_on : goal.loop-at-preserved-then-leads_on
loop-at-preserved-then-leads_on c =
    rw c.link-at.ensures (takes_buffered c.args.split.now.links c.args.capacities.now c.args.levels.now (rows_in c.args.split.now) (2 * c.args.split.now.nodes) (2 * c.args.split.now.nodes + 1) c.loop-at.passed c.loop-at.trail c.loop-at.count c.loop-at.at (length c.args.split.now.rows) c.loop-at.invariant c.requires.linked.rows_in_ c.requires.linked.froms
    c.in-Some.link c.in-Some.ensures.link (c.leads_on.ensures.yes c.if-leads_on.true).0 (c.leads_on.ensures.yes c.if-leads_on.true).1).0

pub overflow_add-passed : goal.overflow_add-passed
overflow_add-passed c =
    let inside : slice_index c.loop-at.passed c.loop-at.at < length (part_row (rows_in c.args.split.now) c.loop-at.at) = (at_place _ _ _ c.in-Some.ensures.link).0 in let short = c.in-Some.ensures.small c.loop-at.at in omega arith

pub loop-at-smaller-else-leads_on : goal.loop-at-smaller-else-leads_on
loop-at-smaller-else-leads_on c =
    (passes_buffered c.args.split.now.links c.args.capacities.now c.args.levels.now (rows_in c.args.split.now) (2 * c.args.split.now.nodes) (2 * c.args.split.now.nodes + 1) c.loop-at.passed c.loop-at.trail c.loop-at.count c.loop-at.at (length c.args.split.now.rows) c.loop-at.invariant c.requires.linked.rows_in_ c.requires.linked.froms
    c.in-Some.link c.in-Some.ensures.link (λ capacity step. false≢true (sym c.if-leads_on.false ∙ c.leads_on.ensures.no capacity step)) (slice_index c.loop-at.passed c.loop-at.at + 1) refl).1

pub loop-at-preserved-else-leads_on : goal.loop-at-preserved-else-leads_on
loop-at-preserved-else-leads_on c =
    (passes_buffered c.args.split.now.links c.args.capacities.now c.args.levels.now (rows_in c.args.split.now) (2 * c.args.split.now.nodes) (2 * c.args.split.now.nodes + 1) c.loop-at.passed c.loop-at.trail c.loop-at.count c.loop-at.at (length c.args.split.now.rows) c.loop-at.invariant c.requires.linked.rows_in_ c.requires.linked.froms
    c.in-Some.link c.in-Some.ensures.link (λ capacity step. false≢true (sym c.if-leads_on.false ∙ c.leads_on.ensures.no capacity step)) (slice_index c.loop-at.passed c.loop-at.at + 1) refl).0

pub returns-then-count-eq0-clause-none : goal.returns-then-count-eq0-clause-none
returns-then-count-eq0-clause-none c = λ _.
    none_left c.args.split.now.links c.args.capacities.now c.args.levels.now (rows_in c.args.split.now) (2 * c.args.split.now.nodes) (2 * c.args.split.now.nodes + 1) c.loop-at.passed c.loop-at.trail c.loop-at.count c.loop-at.at (length c.args.split.now.rows) c.loop-at.invariant
    c.if-count-eq0.true c.loop-at-test.true (past_row _ _ c.in_default.ensures.link)

pub link-at-requires-in_default : goal.link-at-requires-in_default
link-at-requires-in_default c =
    (may_buffered c.args.split.now.links c.args.capacities.now c.args.levels.now (rows_in c.args.split.now) (2 * c.args.split.now.nodes) (2 * c.args.split.now.nodes + 1) c.loop-at.passed c.loop-at.trail c.loop-at.count c.loop-at.at (length c.args.split.now.rows) c.loop-at.invariant
    (c.loop-at.count - 1) (omega arith)).within

pub overflow_add-passed-in_default : goal.overflow_add-passed-in_default
overflow_add-passed-in_default c =
    let may = may_buffered c.args.split.now.links c.args.capacities.now c.args.levels.now (rows_in c.args.split.now) (2 * c.args.split.now.nodes) (2 * c.args.split.now.nodes + 1) c.loop-at.passed c.loop-at.trail c.loop-at.count c.loop-at.at (length c.args.split.now.rows) c.loop-at.invariant
    (c.loop-at.count - 1) (omega arith) in
    let is = ap (λ link. slice_index c.loop-at.passed link.to) c.link-at-in_default.ensures in
    let inside = may.place in let short = c.in_default.ensures.small (link_at c.args.split.now.links (slice_index c.loop-at.trail (c.loop-at.count - 1))).to in omega arith

pub loop-at-smaller : goal.loop-at-smaller
loop-at-smaller c =
    rw c.link-at-in_default.ensures (back_buffered c.args.split.now.links c.args.capacities.now c.args.levels.now (rows_in c.args.split.now) (2 * c.args.split.now.nodes) (2 * c.args.split.now.nodes + 1) c.loop-at.passed c.loop-at.trail c.loop-at.count c.loop-at.at (length c.args.split.now.rows) c.loop-at.invariant
    (c.loop-at.count - 1) (omega arith) c.requires.linked.rows_in_ c.requires.linked.tos c.loop-at-test.true (past_row _ _ c.in_default.ensures.link)
    (slice_index c.loop-at.passed (link_at c.args.split.now.links (slice_index c.loop-at.trail (c.loop-at.count - 1))).to + 1) refl).1

pub loop-at-preserved : goal.loop-at-preserved
loop-at-preserved c =
    rw c.link-at-in_default.ensures (back_buffered c.args.split.now.links c.args.capacities.now c.args.levels.now (rows_in c.args.split.now) (2 * c.args.split.now.nodes) (2 * c.args.split.now.nodes + 1) c.loop-at.passed c.loop-at.trail c.loop-at.count c.loop-at.at (length c.args.split.now.rows) c.loop-at.invariant
    (c.loop-at.count - 1) (omega arith) c.requires.linked.rows_in_ c.requires.linked.tos c.loop-at-test.true (past_row _ _ c.in_default.ensures.link)
    (slice_index c.loop-at.passed (link_at c.args.split.now.links (slice_index c.loop-at.trail (c.loop-at.count - 1))).to + 1) refl).0

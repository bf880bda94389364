use Rattle.std.proofs.Common.{◌∙◌, sym}
use Rattle.std.proofs.lemmas.Bool.{false≢true}
use Rattle.bl_witness.proofs.ChainLinks.{leads_end, leads_next}
use Rattle.bl_witness.proofs.chains.leads.Goals as goal

pub returns-then-not-is_linked : goal.returns-then-not-is_linked
returns-then-not-is_linked c =
    let loop = c.loop-site in
    let step = leads_next c.args.graph.now loop.former.0 c.args.rest.now loop.site-index c.args.sink.0 (record { 0 = 0 }) c.loop-site-test.true in (
      λ h. absurd (false≢true h),
      λ whole. absurd (false≢true (sym c.if-not-is_linked.true ∙ c.is_linked.ensures.1 (step.0 (loop.invariant.1 whole)).0)),
    )

pub loop-site-preserved : goal.loop-site-preserved
loop-site-preserved c =
    let loop = c.loop-site in
    let step = leads_next c.args.graph.now loop.former.0 c.args.rest.now loop.site-index c.args.sink.0 (record { 0 = 0 }) c.loop-site-test.true in (
      λ h. loop.invariant.0 (step.1 (c.is_linked.ensures.0 c.if-not-is_linked.false, h)),
      λ whole. (step.0 (loop.invariant.1 whole)).1,
    )

pub returns : goal.returns
returns c =
    let loop = c.loop-site in
    let end = leads_end c.args.graph.now loop.former.0 c.args.rest.now loop.site-index c.args.sink.0 c.loop-site-test.false in (
      λ h. loop.invariant.0 (end.1 (c.is_linked-2.ensures.0 h)),
      λ whole. c.is_linked-2.ensures.1 (end.0 (loop.invariant.1 whole)),
    )

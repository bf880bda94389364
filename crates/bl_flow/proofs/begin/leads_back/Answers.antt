use Rattle.std.proofs.Common.{◌≡◌, ◌+◌, ◌*◌, length, slice_index, take, sym, ap, subst, arith}
use Rattle.bl_flow.specs.Split.{link_at}
use Rattle.bl_flow.specs.Flows.{LeadsBack}
use Rattle.bl_flow.proofs.BeginTrails.{back_more, within_more}
use Rattle.bl_flow.proofs.begin.leads_back.Goals as goal

pub loop-link-preserved : goal.loop-link-preserved
loop-link-preserved c =
    let loop = c.loop-link in
    let lt = c.loop-link-test.true in
    let below = c.if-link-count.false in
    let all = c.half-count.ensures.sum in
    let is = c.link-ends.ensures in
    let same = c.if-ends-at.false in
    let to : (link_at c.args.split.now.links (slice_index c.args.trail.now loop.link-index)).to ≡ loop.at = let e = ap (λ l. l.to) is in omega arith in
    record {
      within = within_more c.args.trail.now loop.link-index (length c.args.split.now.links) loop.invariant.within (omega arith);
      back = subst (λ p. LeadsBack c.args.split.now.links (take (loop.link-index + 1) c.args.trail.now) p (2 * c.args.split.now.nodes + 1)) (sym (ap (λ l. l.from) is))
          (back_more c.args.split.now.links c.args.trail.now loop.link-index loop.at (2 * c.args.split.now.nodes + 1) lt loop.invariant.back to);
    }

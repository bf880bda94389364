use Rattle.std.proofs.Common.{◌<◌, ◌∙◌, ◌+◌, ◌*◌, ◌-◌, ◌^◌, ℕ, List, map, get_or, length, arith, ap, min, nat_eq, slice_index}
use Rattle.std.specs.List.{count_by}
use Rattle.std.proofs.lemmas.List.{get_or-map, length-map, take_all}
use Rattle.bl_base.specs.declared.number.Pos.{Pos}
use Rattle.bl_graph.proofs.SiteFlows.{add_more, add_none}
use Rattle.bl_graph.proofs.flows.add_path.Goals as goal
use Rattle.bl_graph.proofs.flows.add_path.Goals.{then-at-flows, else-at-flows}

pub loop-site-preserved : goal.loop-site-preserved
loop-site-preserved c =
    let loop = c.loop-site in
    let sites : List ℕ = map (λ (s : Pos). s.0) c.args.sites.now in
    let u : ℕ = (get_or c.args.sites.now loop.site-index (record { 0 = 0 })).0 in
    let long = length-map c.args.sites.now (λ (s : Pos). s.0) in
    let more = c.loop-site-test.true in
    let lt : loop.site-index < length sites = omega arith in
    let there = get_or-map (λ (s : Pos). s.0) c.args.sites.now loop.site-index (record { 0 = 0 }) 0 more in
    let auto = loop.auto.flows in
    elim c.if-at-flows.branch [
      | then-at-flows w ↦
          rw w.flows-is (add_more c.args.flows.now loop.flows sites loop.site-index c.args.amount u lt there loop.invariant w.if-at-flows.true w.saturating_add.result w.saturating_add.ensures)
      | else-at-flows w ↦
          let past = w.if-at-flows.false in
          rw w.flows-is (add_none c.args.flows.now loop.flows sites loop.site-index c.args.amount u lt there loop.invariant (omega arith))
    ]

pub returns : goal.returns
returns c = λ s below.
    let sites : List ℕ = map (λ (s : Pos). s.0) c.args.sites.now in
    let long = length-map c.args.sites.now (λ (s : Pos). s.0) in
    let past = c.loop-site-test.false in
    c.loop-site.invariant s below
    ∙ ap (λ l. min (slice_index c.args.flows.now s + c.args.amount * count_by (λ t. nat_eq t s) l) (2 ^ 64 - 1)) (take_all c.loop-site.site-index sites (omega arith))

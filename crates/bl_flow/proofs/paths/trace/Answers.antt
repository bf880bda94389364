use Rattle.std.proofs.Common.{arith, ℕ, ◌≡◌, ◌<◌, ◌+◌, ◌*◌, drop, slice_index, sym, subst, ◌∙◌}
use Rattle.std.proofs.lemmas.List.{get_or_default}
use Rattle.bl_flow.specs.SplitNetworks.{rows_in}
use Rattle.bl_flow.specs.Flows.{link_count, IsTaken}
use Rattle.bl_flow.specs.Traces.{OnTrace, AreFed}
use Rattle.bl_flow.proofs.LastLevels.{linked}
use Rattle.bl_flow.proofs.SplitNetworks.{of_split}
use Rattle.bl_flow.proofs.TraceLemmas.{Dropped, are_fed, circle_dropped, over_less}
use Rattle.bl_flow.proofs.paths.trace.Goals as goal
use Rattle.bl_flow.proofs.paths.trace.Goals.{After-index, After-slice_known-in-loop-at-1}

pub go_back-requires-clause-linked : goal.go_back-requires-clause-linked
go_back-requires-clause-linked g c = linked g.n c.args.split.now c.requires.0

pub go_back-requires-clause-fed : goal.go_back-requires-clause-fed
go_back-requires-clause-fed g c =
    subst (λ h. AreFed c.args.split.now.links h c.loop-at.carries (2 * c.args.split.now.nodes) (2 * c.args.split.now.nodes + 1)) (sym c.loop-at.invariant.carried_.places)
    (of_split g.n c.args.split.now c.requires.0 (λ links nodes. AreFed links (link_count g.n) c.loop-at.carries (2 * nodes) (2 * nodes + 1))
    (are_fed g.n c.loop-at.carries c.args.left c.loop-at.invariant.carried_ c.requires.1.1.1))

place_at : (g : _) (c : After-index g) → c.index.result.now ≡ slice_index c.go_back.new.self.places.items c.in_ok-at.at
place_at g c =
    let inside = c.in_ok-at.ensures.part_in in let places = c.in_ok-at.ensures.tracing.places_in in
    c.index.ensures ∙ get_or_default c.go_back.new.self.places.items c.in_ok-at.at _ 0 (omega arith)

dropped : (g : _) (c : After-slice_known-in-loop-at-1 g) → Dropped g.n c.args.split.now.links c.loop-at.carries c.drop_circle.new.carries c.go_back.new.self.places.items c.go_back.new.self.trail.items (2 * c.args.split.now.nodes + 1) c.in_ok-at.at c.args.left
dropped g c =
    let trace : OnTrace c.args.split.now.links (link_count g.n) c.loop-at.carries c.go_back.new.self.places.items c.go_back.new.self.trail.items (2 * c.args.split.now.nodes + 1) c.in_ok-at.at =
    subst (λ h. OnTrace c.args.split.now.links h c.loop-at.carries c.go_back.new.self.places.items c.go_back.new.self.trail.items (2 * c.args.split.now.nodes + 1) c.in_ok-at.at) c.loop-at.invariant.carried_.places c.in_ok-at.ensures.trace in
    circle_dropped g.n c.args.split.now.links c.loop-at.carries c.drop_circle.new.carries c.go_back.new.self.places.items c.go_back.new.self.trail.items (2 * c.args.split.now.nodes + 1) c.in_ok-at.at c.args.left c.requires.0.links_ c.loop-at.invariant.carried_ trace
    (c.in_ok-at.ensures.stops c.if-at-source.false)
    (subst (λ p. (amount : ℕ) × (0 < amount) × IsTaken c.loop-at.carries c.drop_circle.new.carries (drop p c.go_back.new.self.trail.items) amount) (place_at g (goal.at.loop-at-smaller g c).After-index) c.drop_circle.ensures.taken)

pub loop-at-smaller : goal.loop-at-smaller
loop-at-smaller g c = (dropped g c).lower

pub loop-at-preserved : goal.loop-at-preserved
loop-at-preserved g c =
    let d = dropped g c in
    rw (c.drop_circle.ensures.trail, place_at g (goal.at.loop-at-preserved g c).After-index) (record {
      inside = c.in_ok-at.ensures.part_in;
      carried_ = d.carried_;
      less = λ k. let a = d.less k in let b = c.loop-at.invariant.less k in omega arith;
      tracing = record {
        passed_in = c.in_ok-at.ensures.tracing.passed_in;
        places_in = c.in_ok-at.ensures.tracing.places_in;
        over = over_less c.loop-at.carries (rows_in c.args.split.now) c.drop_circle.new.carries c.go_back.new.self.passed.items d.less c.in_ok-at.ensures.tracing.over;
      };
      trace = d.trace;
    })

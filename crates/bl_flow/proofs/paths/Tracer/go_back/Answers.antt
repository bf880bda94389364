use Rattle.std.proofs.Common.{arith, ◌≡◌, ◌<◌, ◌+◌, ◌*◌, ◌++◌, ◌∷◌, [], false, length, drop, set, length-set, sym, ap, ◌∙◌}
use Rattle.bl_flow.specs.Split.{link_at}
use Rattle.bl_flow.specs.SplitNetworks.{rows_in}
use Rattle.bl_flow.specs.Traces.{OnTrace, on_trail}
use Rattle.bl_flow.proofs.LastLevels.{given_back}
use Rattle.bl_flow.proofs.TraceLemmas.{brings, steps_back, off_trail}
use Rattle.bl_flow.proofs.paths.Tracer.go_back.Goals as goal
use Rattle.bl_flow.proofs.paths.Tracer.go_back.Goals.{In_ok-push}

pub next_carrying-link-requires-clause-some : goal.next_carrying-link-requires-clause-some
next_carrying-link-requires-clause-some c =
    let halves = c.requires.halves in
    brings c.args.split.now.links (length c.args.carries.now) c.args.carries.now (rows_in c.args.split.now) (2 * c.args.split.now.nodes) (2 * c.args.split.now.nodes + 1) c.loop-at.at c.requires.linked.rows_in_ (omega arith) c.requires.fed c.loop-at-test.true
    c.loop-at.self.places.items c.loop-at.self.trail.items c.loop-at.invariant.trace

step : (c : In_ok-push) → OnTrace c.args.split.now.links (length c.args.carries.now) c.args.carries.now (set c.loop-at.self.places.items c.loop-at.at c.in_ok-place.place) (c.loop-at.self.trail.items ++ c.next_carrying-link.result ∷ []) (2 * c.args.split.now.nodes + 1) (link_at c.args.split.now.links c.next_carrying-link.result).from
    × (c.next_carrying-link.result < length c.args.split.now.links)
    × (off_trail c.args.split.now.links (set c.loop-at.self.places.items c.loop-at.at c.in_ok-place.place) (c.loop-at.self.trail.items ++ c.next_carrying-link.result ∷ []) (length c.args.split.now.rows) < off_trail c.args.split.now.links c.loop-at.self.places.items c.loop-at.self.trail.items (length c.args.split.now.rows))
step c =
    let fresh : on_trail c.args.split.now.links c.loop-at.self.trail.items c.loop-at.self.places.items c.loop-at.at ≡ false = ap (λ w. on_trail c.args.split.now.links w c.loop-at.self.places.items c.loop-at.at) (sym c.deref.ensures.value)
    ∙ ap (λ w. on_trail c.args.split.now.links c.deref.result.now w c.loop-at.at) (sym c.deref-in-loop-at.ensures.value) ∙ sym c.is_on.ensures ∙ c.if-not-is_on.true in
    let places = c.loop-at.invariant.tracing.places_in in let inside = c.loop-at.invariant.inside in
    let len : c.in_ok-place.place ≡ length c.loop-at.self.trail.items = c.in_ok-place.ensures.number ∙ (let e = c.len.ensures in let ok = c.loop-at.self.trail.ok.0 in omega arith) in
    steps_back c.args.split.now.links c.args.carries.now (rows_in c.args.split.now) (2 * c.args.split.now.nodes + 1) c.loop-at.self.places.items c.loop-at.self.trail.items c.loop-at.at c.next_carrying-link.result c.in_ok-place.place (length c.args.split.now.rows)
    c.requires.linked.rows_in_ c.loop-at.invariant.trace fresh (omega arith) inside c.next_carrying-link.ensures.link c.next_carrying-link.ensures.some len

pub loop-at-smaller : goal.loop-at-smaller
loop-at-smaller c = rw c.in_ok-push.ensures.items (step c).2

pub loop-at-preserved : goal.loop-at-preserved
loop-at-preserved c =
    let loop = c.loop-at in
    let one = step c in
    let lent = c.deref_mut.ensures.len in let value = ap length c.deref_mut.ensures.value in let size = c.next_carrying-link.auto.passed in
    let back = given_back c.next_carrying-link.new.passed (drop (length c.next_carrying-link.new.passed) loop.self.passed.items) loop.self.passed.len (omega arith) in
    let passed_in = loop.invariant.tracing.passed_in in let places_in = loop.invariant.tracing.places_in in
    rw (back, c.in_ok-push.ensures.items, c.link-from.ensures) (record {
      inside = c.requires.linked.froms c.next_carrying-link.result one.1;
      tracing = record {
        passed_in = omega arith;
        places_in = length-set loop.self.places.items loop.at c.in_ok-place.place ∙ places_in;
        over = c.next_carrying-link.ensures.passed;
      };
      trace = one.0;
    })

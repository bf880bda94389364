use Rattle.std.proofs.Common.{◌<◌, ◌+◌, ◌-◌, ◌/◌, ◌∙◌, length, arith, subst, sym}
use Rattle.std.specs.List.{AllPairs}
use Rattle.std.proofs.lemmas.Bool.{false≢true}
use Rattle.bl_graph.specs.Graphs.{Precedes}
use Rattle.bl_witness.specs.LookupAnswers.{IsPlaceOf}
use Rattle.bl_witness.proofs.UsePlaces.{before_more, behind_more}
use Rattle.bl_witness.proofs.chains.place_of.Goals as goal

pub returns-clause-place : goal.returns-clause-place
returns-clause-place c =
    let past = c.loop-low-test.false in
    subst (λ l. IsPlaceOf l c.args.one c.loop-low.low) c.as_slice-items.ensures (record {
      before = c.loop-low.invariant.before;
      behind = λ k u le. c.loop-low.invariant.behind k u (omega arith);
    })

pub loop-low-preserved-then-precedes : goal.loop-low-preserved-then-precedes
loop-low-preserved-then-precedes c =
    let order = c.loop-low.invariant.order in
    let within = c.loop-low.invariant.within in
    let more = c.loop-low-test.true in
    let lt : c.loop-low.low + (c.loop-low.high - c.loop-low.low) / 2 < length c.as_slice-items.result.now = omega arith in
    record {
      within = within;
      order = omega arith;
      before = before_more c.as_slice-items.result.now (c.loop-low.low + (c.loop-low.high - c.loop-low.low) / 2) c.args.one _
          (subst (AllPairs Precedes) (sym c.as_slice-items.ensures) c.requires) lt (c.precedes.ensures.0 c.if-precedes.true);
      behind = c.loop-low.invariant.behind;
    }

pub loop-low-preserved : goal.loop-low-preserved
loop-low-preserved c =
    let order = c.loop-low.invariant.order in
    let within = c.loop-low.invariant.within in
    let more = c.loop-low-test.true in
    let lt : c.loop-low.low + (c.loop-low.high - c.loop-low.low) / 2 < length c.as_slice-items.result.now = omega arith in
    record {
      within = omega arith;
      order = omega arith;
      before = c.loop-low.invariant.before;
      behind = behind_more c.as_slice-items.result.now (c.loop-low.low + (c.loop-low.high - c.loop-low.low) / 2) c.args.one _
          (subst (AllPairs Precedes) (sym c.as_slice-items.ensures) c.requires) lt (λ is. absurd (false≢true (sym c.if-precedes.false ∙ c.precedes.ensures.1 is)));
    }

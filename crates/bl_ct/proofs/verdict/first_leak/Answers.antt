use Rattle.std.proofs.Common.{◌≡◌, ◌<◌, ◌+◌, ◌++◌, ◌∷◌, [], None, length, take, arith, subst, inl, inr}
use Rattle.std.specs.List.{slice_index_or, Contains}
use Rattle.std.proofs.lemmas.List.{take_more, take_all}
use Rattle.std.proofs.lemmas.List.Elements.{Contains-push_cases}
use Rattle.bl_ct.specs.declared.search.Step.{Step}
use Rattle.bl_ct.specs.declared.search.Cause.TheVariants as cause_
use Rattle.bl_graph.specs.declared.secret.Origin.TheVariants as origin_
use Rattle.bl_ct.specs.Leaks.{LeakOf, LeakFound}
use Rattle.bl_ct.proofs.verdict.first_leak.Goals as goal

pub loop-place-preserved : goal.loop-place-preserved
loop-place-preserved c =
    let loop = c.loop-place in
    let lt : loop.place < length c.args.queue.now = c.loop-place-test.true in
    let d : Step = record { var = 0; cause = cause_.Declared (origin_.Parameter 0 0) } in
    let s0 : Step = slice_index_or c.args.queue.now loop.place d in
    let more : take (loop.place + 1) c.args.queue.now ≡ take loop.place c.args.queue.now ++ s0 ∷ [] = take_more c.args.queue.now loop.place d lt in
    record {
      within = omega arith;
      none = λ step h. elim (Contains-push_cases (take loop.place c.args.queue.now) s0 step (subst (λ l. Contains l step) more h)) as (λ _. LeakOf c.args.names.now c.args.ends.now c.args.demanded.now step None) [
        | inl there ↦ loop.invariant.none step there
        | inr e ↦ subst (λ s. LeakOf c.args.names.now c.args.ends.now c.args.demanded.now s None) e c.in_default.ensures
      ];
    }

pub returns : goal.returns
returns c =
    let past = c.loop-place-test.false in
    subst (λ l. LeakFound c.args.names.now l c.args.ends.now c.args.demanded.now None) (take_all c.loop-place.place c.args.queue.now (omega arith)) c.loop-place.invariant.none

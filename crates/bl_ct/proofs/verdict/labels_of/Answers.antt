use Rattle.std.proofs.Common.{take, arith, ◌∙◌}
use Rattle.std.specs.List.{slice_index_or}
use Rattle.std.proofs.lemmas.List.{length-set, take_more}
use Rattle.bl_base.specs.declared.names.Label.TheVariants as label
use Rattle.bl_graph.specs.declared.secret.Origin.TheVariants as origin_
use Rattle.bl_ct.specs.declared.search.Cause.TheVariants as cause_
use Rattle.bl_ct.specs.declared.search.Step.{Step}
use Rattle.bl_ct.proofs.CtVerdicts.{labels_more}
use Rattle.bl_ct.proofs.verdict.labels_of.Goals as goal

pub loop-step-preserved : goal.loop-step-preserved
loop-step-preserved c =
    let loop = c.loop-step in
    let lt = c.loop-step-test.true in
    let d : Step = record { var = 0; cause = cause_.Declared (origin_.Parameter 0 0) } in
    let u : Step = slice_index_or c.args.steps.now loop.step-index d in
    let below = c.requires loop.step-index d lt in
    let places = loop.invariant.places in
    rw (take_more c.args.steps.now loop.step-index d lt) (record {
      places = length-set loop.labels.items u.var label.Secret ∙ places;
      exact = labels_more loop.labels.items (take loop.step-index c.args.steps.now) u (omega arith) loop.invariant.exact;
    })

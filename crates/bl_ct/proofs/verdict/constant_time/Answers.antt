use Rattle.std.proofs.Common.{◌<◌, ◌∙◌, ap, sym, subst, arith}
use Rattle.std.specs.List.{All}
use Rattle.bl_graph.specs.Ranges.{variables}
use Rattle.bl_ct.specs.declared.search.Step.{Step}
use Rattle.bl_ct.specs.SecretSearch.{is_found}
use Rattle.bl_ct.specs.Verdicts.{AreSecrets, FindsSecrets}
use Rattle.bl_ct.proofs.CtVerdicts.{labels_are}
use Rattle.bl_ct.proofs.verdict.constant_time.Goals as goal

pub labels_of-requires : goal.labels_of-requires
labels_of-requires c = λ k d lt.
    let secrets : AreSecrets c.args.program.now c.in-Keeps.steps.items = subst (FindsSecrets c.args.program.now) c.in-Keeps.is c.in_ok-steps.ensures in
    let small = subst (All (λ (step : Step). step.var < variables c.args.program.now)) (sym c.deref.ensures.value) secrets.small k d lt in
    let count = c.variables.ensures in
    omega arith

pub returns-in_ok-labels-in-Keeps : goal.returns-in_ok-labels-in-Keeps
returns-in_ok-labels-in-Keeps c =
    let secrets : AreSecrets c.args.program.now c.in-Keeps.steps.items = subst (FindsSecrets c.args.program.now) c.in-Keeps.is c.in_ok-steps.ensures in
    labels_are c.args.program.now c.in-Keeps.steps.items c.in_ok-labels-in-Keeps.labels secrets (c.in_ok-labels-in-Keeps.ensures.places ∙ c.variables.ensures)
    (λ x. c.in_ok-labels-in-Keeps.ensures.exact x ∙ ap (λ l. is_found l x) c.deref.ensures.value)

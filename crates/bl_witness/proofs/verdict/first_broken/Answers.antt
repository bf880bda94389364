use Rattle.std.proofs.Common.{◌∙◌, ap, subst, sym, None, Some}
use Rattle.std.specs.List.{All}
use Rattle.std.proofs.lemmas.List.{take_all}
use Rattle.std.proofs.lemmas.List.Elements.{All-more}
use Rattle.std.proofs.lemmas.Option.{slice_get-get_or}
use Rattle.bl_program.specs.Sites.{is_protected}
use Rattle.bl_graph.specs.Certificates.{IsFlowPath}
use Rattle.bl_graph.specs.declared.certificate.FlowPath.{FlowPath}
use Rattle.bl_witness.specs.LookupAnswers.{JudgesPath}
use Rattle.bl_witness.proofs.verdict.first_broken.Goals as goal

pub returns-in-Some : goal.returns-in-Some
returns-in-Some c =
    let path : FlowPath = c.index-paths-index.result in
    (path, slice_get-get_or c.args.paths.now c.loop-index.index path c.loop-index-test.true ∙ ap Some (sym c.index-paths-index.is), c.loop-index.invariant, c.in-Some.ensures)

pub loop-index-preserved : goal.loop-index-preserved
loop-index-preserved c =
    let path : FlowPath = c.index-paths-index.result in
    let kept : JudgesPath c.args.parts.now path None = subst (JudgesPath c.args.parts.now path) c.in_default.is c.broken_rule.ensures in
    All-more (IsFlowPath c.args.parts.now (is_protected c.args.parts.now)) c.args.paths.now c.loop-index.index path c.loop-index-test.true c.loop-index.invariant
    (subst (IsFlowPath c.args.parts.now (is_protected c.args.parts.now)) c.index-paths-index.is kept)

pub returns : goal.returns
returns c = subst (All (IsFlowPath c.args.parts.now (is_protected c.args.parts.now))) (take_all _ _ c.loop-index-test.false) c.loop-index.invariant

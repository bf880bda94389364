use Rattle.std.proofs.Common.{List, ◌++◌, ◌∙◌, ap, map, subst}
use Rattle.bl_rob.specs.declared.directive.Directive.{Directive}
use Rattle.bl_forward.specs.SightTexts.{AreForwardedSideBySide}
use Rattle.bl_app.specs.TwinJob.{twin_status}
use Rattle.bl_job.specs.WorkAnswers.{keep_in}
use Rattle.bl_app.proofs.forward.tell.Goals as goal

pub returns : goal.returns
returns c =
    let prepared = c.args.twins.now.speculation.prepared in
    let done = subst (λ (directives : List Directive). AreForwardedSideBySide prepared.program prepared.function prepared.start c.args.twins.now.other directives c.in_ok-compared.compared)
    c.as_slice.ensures c.in_ok-compared.ensures in
    let behind = c.as_slice-2.ensures ∙ done.tells in
    record {
      safe = c.in_ok-safe.safe;
      is_safe = c.in_ok-safe.ensures;
      agree = done.agree;
      agrees = done.agrees;
      is_plan = λ i. record {
        status = (c.twin_status.ensures ∙ ap twin_status done.compares) i;
        keeps = map keep_in (c.new.ensures.items i);
        text = (c.in_ok-extend_from_slice.ensures.items ∙ (λ j. c.in_ok-text.ensures j ++ behind j)) i;
      };
    }

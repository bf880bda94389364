use Rattle.std.proofs.Common.{List, ◌∙◌, ap, map, subst}
use Rattle.bl_rob.specs.declared.directive.Directive.{Directive}
use Rattle.bl_twin.specs.Runs.{IsSideBySide}
use Rattle.bl_app.specs.TwinJob.{twin_status}
use Rattle.bl_job.specs.WorkAnswers.{keep_in}
use Rattle.bl_app.proofs.twin.tell.Goals as goal

pub returns : goal.returns
returns c =
    let prepared = c.args.twins.now.speculation.prepared in
    let done = subst (λ (directives : List Directive). IsSideBySide prepared.program prepared.function prepared.start c.args.twins.now.other directives c.in_ok-compared.compared)
    c.as_slice.ensures c.in_ok-compared.ensures in
    record {
      agree = done.agree;
      agrees = done.agrees;
      is_plan = λ i. record { status = (c.twin_status.ensures ∙ ap twin_status done.compares) i; keeps = map keep_in (c.new.ensures.items i); text = (c.into_vec.ensures ∙ done.tells) i };
    }

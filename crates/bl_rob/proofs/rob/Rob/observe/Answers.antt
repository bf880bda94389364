use Rattle.std.proofs.Common.{◌∙◌, get_or, subst}
use Rattle.std.specs.Prelude.{Err}
use Rattle.bl_rob.specs.CallResults.{StepsBy, shown}
use Rattle.bl_rob.specs.declared.directive.Directive.TheVariants.{Fetch}
use Rattle.bl_rob.specs.declared.directive.StepError.{StepError}
use Rattle.bl_rob.proofs.ObservationLemmas.{more_by, refused_by, whole}
use Rattle.bl_rob.proofs.rob.Rob.observe.Goals as goal

pub loop-i-preserved : goal.loop-i-preserved
loop-i-preserved g c = record {
  same = c.in-Ok.ensures.same ∙ c.loop-i.invariant.same;
  so_far = more_by (g.P.Loads.rules g.row.W) c.args.directives.now (shown c.args.self.now.machine) c.args.self.now.program c.loop-i.self.program c.loop-i.invariant.same c.loop-i.i c.loop-i-test.true
      c.loop-i.made (shown c.loop-i.self.machine) c.loop-i.invariant.so_far (shown c.step.new.self.machine) c.in-Ok.seen _ c.in-Ok.ensures.step c.in_ok-push-in-Ok.ensures.ok;
}

pub returns-in-Err-NotEnabled : goal.returns-in-Err-NotEnabled
returns-in-Err-NotEnabled g c =
    let s = shown c.loop-i.self.machine in
    let new = shown c.step.new.self.machine in
    let refused = subst (λ (e : StepError). StepsBy g.P.Loads.rules g.row.W c.loop-i.self.program (get_or c.args.directives.now c.loop-i.i Fetch) s (Err e) new) c.in-Err-NotEnabled.field-0-is c.in-Err-NotEnabled.ensures.step in
    record {
      same = c.in-Err-NotEnabled.ensures.same ∙ c.loop-i.invariant.same;
      seen = refused_by (g.P.Loads.rules g.row.W) c.args.directives.now (shown c.args.self.now.machine) c.args.self.now.program c.loop-i.self.program c.loop-i.invariant.same c.loop-i.i c.loop-i-test.true
          c.loop-i.made s c.loop-i.invariant.so_far new refused;
    }

pub returns : goal.returns
returns g c = record {
  same = c.loop-i.invariant.same;
  seen = whole (g.P.Loads.rules g.row.W c.args.self.now.program) c.args.directives.now (shown c.args.self.now.machine) c.loop-i.i c.loop-i.made (shown c.loop-i.self.machine) c.loop-i-test.false
      c.loop-i.invariant.so_far;
}

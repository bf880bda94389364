use Rattle.std.proofs.Common.{subst, sym}
use Rattle.bl_rob.specs.CallResults.{StepsBy, shown}
use Rattle.bl_rob.specs.Robs.{RobView}
use Rattle.bl_rob.specs.declared.directive.Directive.{Directive}
use Rattle.bl_rob.specs.declared.directive.Directive.TheVariants.{Fetch, Predict, Retire}
use Rattle.bl_rob.proofs.PolicyLemmas.{exec_kept, told_kept, told_steps}
use Rattle.bl_rob.proofs.rob.Rob.step.Goals as goal

pub invariant_of-self : goal.invariant_of-self
invariant_of-self g c =
    let parts = c.self.inside.layout.parts.now in
    let old = shown c.self.inside.machine in
    let kept = told_kept g.P.Loads.shows g.P.Loads.rules g.row.W parts Fetch old (shown c.fetch.new.self) c.fetch.result c.told.result c.self.invariant.1 c.self.invariant.3
    (g.met.P.Loads.others g.row.W parts old Fetch tt) c.fetch.ensures c.told.ensures in
    (c.self.invariant.0, kept.0, c.self.invariant.2, kept.1)

pub invariant_of-self-in-Predict : goal.invariant_of-self-in-Predict
invariant_of-self-in-Predict g c =
    let parts = c.self.inside.layout.parts.now in
    let old = shown c.self.inside.machine in
    let d = Predict c.in-Predict.predicted in
    let kept = told_kept g.P.Loads.shows g.P.Loads.rules g.row.W parts d old (shown c.predict.new.self) c.predict.result c.told-in-Predict.result c.self.invariant.1 c.self.invariant.3
    (g.met.P.Loads.others g.row.W parts old d tt) c.predict.ensures c.told-in-Predict.ensures in
    (c.self.invariant.0, kept.0, c.self.invariant.2, kept.1)

pub invariant_of-self-in-Exec : goal.invariant_of-self-in-Exec
invariant_of-self-in-Exec g c =
    let kept = exec_kept g.P.Loads.rules g.row.W c.self.inside.layout.parts.now c.in-Exec.n (shown c.self.inside.machine) (shown c.exec.new.machine) c.exec.result
    c.self.invariant.1 c.self.invariant.3 c.exec.ensures.few (c.exec.ensures.step g.row.W) in
    (c.self.invariant.0, kept.0, c.self.invariant.2, kept.1)

pub invariant_of-self-in-Retire : goal.invariant_of-self-in-Retire
invariant_of-self-in-Retire g c =
    let parts = c.self.inside.layout.parts.now in
    let old = shown c.self.inside.machine in
    let kept = told_kept g.P.Loads.shows g.P.Loads.rules g.row.W parts Retire old (shown c.retire.new.self) c.retire.result c.told-in-Retire.result c.self.invariant.1 c.self.invariant.3
    (g.met.P.Loads.others g.row.W parts old Retire tt) (c.retire.ensures g.row.W) c.told-in-Retire.ensures in
    (c.self.invariant.0, kept.0, c.self.invariant.2, kept.1)

pub returns-in-Retire-clause-step : goal.returns-in-Retire-clause-step
returns-in-Retire-clause-step g c =
    let parts = c.self.inside.layout.parts.now in
    let old = shown c.self.inside.machine in
    subst (λ (d : Directive). StepsBy g.P.Loads.rules g.row.W c.args.self.now.program d (shown c.args.self.now.machine) c.told-in-Retire.result (shown c.retire.new.self)) (sym c.in-Retire.is)
    (subst (λ (v : RobView). StepsBy g.P.Loads.rules g.row.W v.program Retire (shown v.machine) c.told-in-Retire.result (shown c.retire.new.self)) c.self.view_is
    (told_steps g.P.Loads.shows g.P.Loads.rules g.row.W parts Retire old (shown c.retire.new.self) c.retire.result c.told-in-Retire.result
    (g.met.P.Loads.others g.row.W parts old Retire tt) (c.retire.ensures g.row.W) c.told-in-Retire.ensures))

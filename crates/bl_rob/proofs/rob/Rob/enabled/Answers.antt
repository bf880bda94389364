use Rattle.std.proofs.Common.{◌∙◌, ap, sym}
use Rattle.bl_rob.specs.CallResults.{is_enabled_by, shown}
use Rattle.bl_rob.specs.Robs.{RobView}
use Rattle.bl_rob.specs.declared.directive.Directive.TheVariants.{Exec, Fetch, Predict, Retire}
use Rattle.bl_rob.proofs.PolicyLemmas.{told_enabled}
use Rattle.bl_rob.proofs.rob.Rob.enabled.Goals as goal

pub returns-in-Fetch : goal.returns-in-Fetch
returns-in-Fetch g c =
    let parts = c.self.inside.layout.parts.now in
    let s = shown c.self.inside.machine in
    told_enabled g.P.Loads.shows g.P.Loads.rules g.row.W parts Fetch s c.may_fetch.result (g.met.P.Loads.others g.row.W parts s Fetch tt) c.may_fetch.ensures
    ∙ ap (λ (v : RobView). is_enabled_by g.P.Loads.rules g.row.W v.program (shown v.machine) Fetch) c.self.view_is
    ∙ ap (λ d. is_enabled_by g.P.Loads.rules g.row.W c.args.self.now.program (shown c.args.self.now.machine) d) (sym c.in-Fetch.is)

pub returns-in-Predict : goal.returns-in-Predict
returns-in-Predict g c =
    let parts = c.self.inside.layout.parts.now in
    let s = shown c.self.inside.machine in
    told_enabled g.P.Loads.shows g.P.Loads.rules g.row.W parts (Predict c.in-Predict.field-0) s c.may_predict.result (g.met.P.Loads.others g.row.W parts s (Predict c.in-Predict.field-0) tt) (c.may_predict.ensures c.in-Predict.field-0)
    ∙ ap (λ (v : RobView). is_enabled_by g.P.Loads.rules g.row.W v.program (shown v.machine) (Predict c.in-Predict.field-0)) c.self.view_is
    ∙ ap (λ d. is_enabled_by g.P.Loads.rules g.row.W c.args.self.now.program (shown c.args.self.now.machine) d) (sym c.in-Predict.is)

pub returns-in-Exec : goal.returns-in-Exec
returns-in-Exec g c =
    c.may_exec.ensures g.row.W
    ∙ ap (λ (v : RobView). is_enabled_by g.P.Loads.rules g.row.W v.program (shown v.machine) (Exec c.in-Exec.n)) c.self.view_is
    ∙ ap (λ d. is_enabled_by g.P.Loads.rules g.row.W c.args.self.now.program (shown c.args.self.now.machine) d) (sym c.in-Exec.is)

pub returns-in-Retire : goal.returns-in-Retire
returns-in-Retire g c =
    let parts = c.self.inside.layout.parts.now in
    let s = shown c.self.inside.machine in
    told_enabled g.P.Loads.shows g.P.Loads.rules g.row.W parts Retire s c.may_retire.result (g.met.P.Loads.others g.row.W parts s Retire tt) (c.may_retire.ensures g.row.W parts)
    ∙ ap (λ (v : RobView). is_enabled_by g.P.Loads.rules g.row.W v.program (shown v.machine) Retire) c.self.view_is
    ∙ ap (λ d. is_enabled_by g.P.Loads.rules g.row.W c.args.self.now.program (shown c.args.self.now.machine) d) (sym c.in-Retire.is)

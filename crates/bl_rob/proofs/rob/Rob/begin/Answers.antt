use Rattle.std.proofs.Common.{◌≡◌, ◌∙◌, ap}
use Rattle.bl_rob.specs.CallResults.{shown}
use Rattle.bl_rob.specs.Machines.{opening}
use Rattle.bl_rob.proofs.ReachabilityLemmas.{begun_kept}
use Rattle.bl_rob.proofs.rob.Rob.begin.Goals as goal

pub invariant_of-result : goal.invariant_of-result
invariant_of-result g c =
    let same = c.in_ok-layout.ensures.0 ∙ c.parts.ensures.same ∙ c.program.ensures.same in
    let kept = begun_kept (g.P.Loads.rules g.row.W) g.row.W c.in_ok-layout.layout.parts.now c.args.program.now c.args.function c.args.start.now (shown c.in_ok-machine.machine) same c.requires.start c.in_ok-machine.ensures in
    (c.in_ok-layout.ensures.1, kept.0, c.requires.room.1, kept.1)

pub returns : goal.returns
returns g c =
    let same : c.in_ok-layout.layout.parts.now ≡ c.args.program.now = c.in_ok-layout.ensures.0 ∙ c.parts.ensures.same ∙ c.program.ensures.same in
    (same, c.in_ok-machine.ensures ∙ ap (λ p. opening p c.args.function c.args.start.now) same)

use Rattle.std.specs.Prelude.{IfOk}
use Rattle.std.proofs.lemmas.Result.{IfOk-weaker}
use Rattle.bl_iface.specs.RoleLists.{AreAsked}
use Rattle.bl_iface.proofs.SideLemmas.{stable_within, transient_within, lists_apart}
use Rattle.bl_iface.proofs.lists.asked_of.Goals as goal
use Rattle.bl_iface.proofs.lists.asked_of.Goals.{After-asked_at}

are : (c : After-asked_at) → IfOk c.asked_at.result (AreAsked c.args.role c.args.iface.now c.args.program.now)
are c = rw (c.parts-parts.ensures.same, c.program.ensures.same) at c.asked_at.ensures

pub returns-clause-transient : goal.returns-clause-transient
returns-clause-transient c =
    IfOk-weaker c.asked_at.result _ _ (λ lists asked. transient_within c.args.role c.args.iface.now c.args.program.now lists asked c.program.ensures.rules c.requires)
    (are (goal.at.returns-clause-transient c).After-asked_at)

pub returns-clause-stable : goal.returns-clause-stable
returns-clause-stable c =
    IfOk-weaker c.asked_at.result _ _ (λ lists asked. stable_within c.args.role c.args.iface.now c.args.program.now lists asked c.program.ensures.rules c.requires)
    (are (goal.at.returns-clause-stable c).After-asked_at)

pub returns-clause-apart : goal.returns-clause-apart
returns-clause-apart c =
    IfOk-weaker c.asked_at.result _ _ (λ lists asked. lists_apart c.args.role c.args.iface.now c.args.program.now lists asked c.program.ensures.rules c.requires)
    (are (goal.at.returns-clause-apart c).After-asked_at)

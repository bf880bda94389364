use Rattle.std.proofs.Common.{arith, ◌+◌, ◌*◌, refl, ap, subst, ◌∙◌}
use Rattle.bl_flow.specs.Levels.{level_at, AreLevels}
use Rattle.bl_flow.specs.PackedNetworks.{lowered}
use Rattle.bl_flow.specs.Residuals.{AreLevelsOf}
use Rattle.bl_flow.proofs.EndLevels.{packed_small}
use Rattle.bl_flow.proofs.LastLevels.{linked}
use Rattle.bl_flow.proofs.Residuals.{levels_out}
use Rattle.bl_flow.proofs.SplitNetworks.{of_network}
use Rattle.bl_flow.proofs.residual.levels.Goals as goal

pub part_levels-requires-clause-linked : goal.part_levels-requires-clause-linked
part_levels-requires-clause-linked c = linked c.r.inside.network c.r.inside.split c.r.invariant.split_

pub returns : goal.returns
returns c =
    let nodes = c.r.invariant.split_.nodes_ in
    subst (λ v. AreLevelsOf v c.in_ok-list.list) c.r.view_is
    (levels_out c.r.inside.network c.r.invariant.split_.in_range c.r.inside.capacities c.r.inside.amount c.r.invariant.flow
    (packed_small c.r.inside.network c.r.inside.split c.r.inside.capacities c.r.inside.amount c.r.invariant) c.in_ok-found.found.items c.in_ok-list.list
    (of_network c.r.inside.network c.r.inside.split c.r.invariant.split_ (λ links nodes. AreLevels links c.r.inside.capacities (2 * nodes) (2 * nodes + 1) c.in_ok-found.found.items) (c.in_ok-found.ensures.least refl))
    (let count = c.in_ok-list.ensures.places in omega arith)
    (λ p lt. c.in_ok-list.ensures.each p (omega arith) ∙ ap (λ l. lowered (level_at l p)) c.deref.ensures.value))

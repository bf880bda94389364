use Rattle.std.proofs.Common.{sym, subst}
use Rattle.bl_flow.specs.PackedNetworks.{IsPacked}
use Rattle.bl_flow.proofs.EndLevels.{Advance, packed_lawful, advance_is}
use Rattle.bl_flow.proofs.NetworkOfLinks.{is_rebuilt}
use Rattle.bl_flow.proofs.residual.advance.Goals as goal
use Rattle.bl_flow.proofs.residual.advance.Goals.{In-Ok}

pub flow_on-requires : goal.flow_on-requires
flow_on-requires c =
    subst (λ n. IsPacked n c.r.inside.split c.r.inside.capacities c.r.inside.amount) (is_rebuilt c.r.inside.network c.r.inside.split c.r.inside.capacities c.r.inside.amount c.r.invariant) c.r.invariant

pub returns-then-not-reaches_an_end-clause-lawful : goal.returns-then-not-reaches_an_end-clause-lawful
returns-then-not-reaches_an_end-clause-lawful c = (packed_lawful c.args.r c.r.inside.network c.r.inside.split c.r.inside.capacities c.r.inside.amount c.r.view_is c.r.invariant).0

pub invariant_of-r-in-Err : goal.invariant_of-r-in-Err
invariant_of-r-in-Err c =
    subst (λ capacities. IsPacked c.r.inside.network c.r.inside.split capacities c.r.inside.amount) (sym c.in-Err.ensures.unchanged) c.r.invariant

advanced : (c : In-Ok) → Advance c.args.r c.r.inside.network c.r.inside.split c.flow_on.new.capacities c.r.inside.amount c.in-Ok.now c.args.levels.now
advanced c =
    advance_is c.args.r c.r.inside.network c.r.inside.split c.r.inside.capacities c.flow_on.new.capacities
    c.r.inside.amount c.in-Ok.now c.args.levels.now c.r.view_is c.r.invariant c.in-Ok.ensures.advanced c.requires

pub invariant_of-r : goal.invariant_of-r
invariant_of-r c = (advanced (goal.at.invariant_of-r c).In-Ok).packed

pub returns-in-Ok-clause-lawful : goal.returns-in-Ok-clause-lawful
returns-in-Ok-clause-lawful c = (advanced (goal.at.returns-in-Ok-clause-lawful c).In-Ok).lawful_

pub returns-in-Ok-clause-amount : goal.returns-in-Ok-clause-amount
returns-in-Ok-clause-amount c = (advanced (goal.at.returns-in-Ok-clause-amount c).In-Ok).amount_

pub returns-in-Ok-clause-some : goal.returns-in-Ok-clause-some
returns-in-Ok-clause-some c = (advanced (goal.at.returns-in-Ok-clause-some c).In-Ok).some

pub returns-in-Ok-clause-risen : goal.returns-in-Ok-clause-risen
returns-in-Ok-clause-risen c = (advanced (goal.at.returns-in-Ok-clause-risen c).In-Ok).risen

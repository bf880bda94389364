use Rattle.std.proofs.Common.{◌≡◌, length, replicate, sym, subst}
use Rattle.bl_flow.specs.declared.network.Network.{Network}
use Rattle.bl_flow.specs.Networks.{size}
use Rattle.bl_flow.specs.PackedNetworks.{IsPacked}
use Rattle.bl_flow.specs.Residuals.{loaded_by}
use Rattle.bl_flow.proofs.Residuals.{nothing_loaded}
use Rattle.bl_flow.proofs.residual.pack.Goals as goal

pub invariant_of-result : goal.invariant_of-result
invariant_of-result c =
    let layout = c.in_ok-layout.layout in
    subst (λ m. IsPacked m layout.split layout.capacities 0) (sym c.in_ok-network.ensures) c.in_ok-layout.ensures

pub returns-clause-carried : goal.returns-clause-carried
returns-clause-carried c =
    let n : Network = c.args.n.now in
    let layout = c.in_ok-layout.layout in
    subst (λ m. (loaded_by m layout.capacities).carried ≡ replicate (length n.arcs) 0) (sym c.in_ok-network.ensures)
    (nothing_loaded n c.requires.in_range layout.capacities c.in_ok-layout.ensures.flow).1

pub returns-clause-loads : goal.returns-clause-loads
returns-clause-loads c =
    let n : Network = c.args.n.now in
    let layout = c.in_ok-layout.layout in
    subst (λ m. (loaded_by m layout.capacities).loads ≡ replicate (size n) 0) (sym c.in_ok-network.ensures)
    (nothing_loaded n c.requires.in_range layout.capacities c.in_ok-layout.ensures.flow).0

use Rattle.bl_flow.proofs.NetworkOfLinks.{network_of}
use Rattle.bl_flow.proofs.residual.advance.Given as goal

abbrev pub ghost-flow_on : goal.ghost-flow_on
ghost-flow_on a = network_of a.split.now.nodes a.split.now.links a.capacities.now

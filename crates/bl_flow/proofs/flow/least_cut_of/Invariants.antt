use Rattle.bl_flow.proofs.NetworkOfLinks.{network_of}
use Rattle.bl_flow.proofs.flow.least_cut_of.Given as goal

abbrev pub ghost-cut_in : goal.ghost-cut_in
ghost-cut_in a = network_of a.split.now.nodes a.split.now.links a.capacities.now

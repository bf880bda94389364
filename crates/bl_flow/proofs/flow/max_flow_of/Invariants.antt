use Rattle.bl_flow.proofs.NetworkOfLinks.{network_laid}
use Rattle.bl_flow.proofs.flow.max_flow_of.Given as goal

abbrev pub ghost-flow_through : goal.ghost-flow_through
ghost-flow_through a = network_laid a.layout

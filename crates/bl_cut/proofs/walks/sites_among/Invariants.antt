use Rattle.std.proofs.Common.{◌≡◌, ◌++◌, drop}
use Rattle.bl_cut.specs.Choices.{positions, sites_in}
use Rattle.bl_cut.proofs.walks.sites_among.Given as goal

abbrev pub invariant-loop-node : goal.invariant-loop-node
invariant-loop-node l = l.sites.items ++ positions (sites_in l.commands (drop l.node-index l.nodes)) ≡ positions (sites_in l.commands l.nodes)

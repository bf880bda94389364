use Rattle.bl_flow.proofs.residual.flow_on.Given as goal

abbrev pub ghost-block_graph : goal.ghost-block_graph
ghost-block_graph g a = g.n

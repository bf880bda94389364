use Rattle.bl_flow.proofs.level_graph.block_graph.Given as goal

abbrev pub ghost-block : goal.ghost-block
ghost-block g a = g.n

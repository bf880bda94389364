use Rattle.bl_flow.proofs.flow.flow_through.Given as goal

abbrev pub ghost-cut_in : goal.ghost-cut_in
ghost-cut_in g a = g.n

abbrev pub ghost-paths_of : goal.ghost-paths_of
ghost-paths_of g a = g.n

use Rattle.bl_flow.proofs.flow.cut_in.Given as goal

abbrev pub ghost-fill : goal.ghost-fill
ghost-fill g a = g.n

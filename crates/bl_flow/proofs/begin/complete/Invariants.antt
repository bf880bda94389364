use Rattle.bl_flow.proofs.begin.complete.Given as goal

abbrev pub ghost-adopt : goal.ghost-adopt
ghost-adopt g a = g.n

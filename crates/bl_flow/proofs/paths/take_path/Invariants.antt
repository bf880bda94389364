use Rattle.bl_flow.proofs.paths.take_path.Given as goal

abbrev pub ghost-trace : goal.ghost-trace
ghost-trace g a = g.n

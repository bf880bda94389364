use Rattle.std.proofs.Common.{◌≡◌, map, take}
use Rattle.bl_cut.specs.Choices.{path_of}
use Rattle.bl_cut.proofs.walks.read_back.Given as goal

abbrev pub invariant-loop-path : goal.invariant-loop-path
invariant-loop-path l = l.all.items ≡ map (path_of l.commands l.sink_of) (take l.path-index l.paths)

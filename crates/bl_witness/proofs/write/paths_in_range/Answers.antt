use Rattle.std.proofs.Common.{subst}
use Rattle.std.proofs.lemmas.List.{take_all}
use Rattle.std.proofs.lemmas.List.Elements.{All-more}
use Rattle.std.specs.List.{All}
use Rattle.bl_witness.specs.Values.{IsPathInRange}
use Rattle.bl_witness.proofs.write.paths_in_range.Goals as goal

pub loop-path-preserved : goal.loop-path-preserved
loop-path-preserved c =
    All-more IsPathInRange c.args.paths.now c.loop-path.path-index c.path-item.result c.loop-path-test.true c.loop-path.invariant (subst IsPathInRange c.path-item.is c.path_in_range.ensures)

pub returns : goal.returns
returns c = subst (All IsPathInRange) (take_all _ _ c.loop-path-test.false) c.loop-path.invariant

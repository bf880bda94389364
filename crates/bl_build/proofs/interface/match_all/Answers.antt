use Rattle.std.proofs.Common.{refl}
use Rattle.bl_build.specs.InterfaceStages.{side_of}
use Rattle.bl_build.proofs.InterfaceWork.{not_matched}
use Rattle.bl_build.proofs.interface.match_all.Goals as goal

pub returns-in-Ok : goal.returns-in-Ok
returns-in-Ok c = (refl, c.in-Ok.ensures.matched)

pub returns-in-Err : goal.returns-in-Err
returns-in-Err c = not_matched (side_of c.args.program.now c.args.iface.now) c.in-Err.error c.in-Err.ensures.refused c.of_targets.result c.of_targets.ensures

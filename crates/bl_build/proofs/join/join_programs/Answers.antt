use Rattle.bl_build.proofs.InterfaceWork.{file_refused, pair_joined}
use Rattle.bl_build.proofs.join.join_programs.Goals as goal

pub returns-in-Err : goal.returns-in-Err
returns-in-Err c = file_refused c.args.iface.now c.args.client.now c.args.library.now c.in-Err.error c.in-Err.ensures

pub returns-in-Ok : goal.returns-in-Ok
returns-in-Ok c = pair_joined c.args.iface.now c.args.client.now c.args.library.now c.in-Ok.iface c.join_sides-union.result c.in-Ok.ensures c.join_sides-union.ensures

use Rattle.bl_build.proofs.InterfaceWork.{library_joined, library_refused}
use Rattle.bl_build.proofs.join.join_client.Goals as goal

pub returns-in-Err : goal.returns-in-Err
returns-in-Err c = library_refused c.args.iface.now c.args.library.now c.args.client.now c.in-Err.error c.in-Err.ensures

pub returns-in-Ok : goal.returns-in-Ok
returns-in-Ok c = library_joined c.args.iface.now c.args.library.now c.args.client.now c.in-Ok.library c.join_programs-union.result c.in-Ok.ensures c.join_programs-union.ensures

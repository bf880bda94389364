use Rattle.bl_build.proofs.InterfaceWork.{client_joined, client_refused}
use Rattle.bl_build.proofs.join.join_images.Goals as goal

pub returns-in-Err : goal.returns-in-Err
returns-in-Err c = client_refused c.args.iface.now c.args.client.now c.args.library.now c.in-Err.error c.in-Err.ensures

pub returns-in-Ok : goal.returns-in-Ok
returns-in-Ok c = client_joined c.args.iface.now c.args.client.now c.args.library.now c.in-Ok.client c.in-Ok.ensures c.join_client-union.result c.join_client-union.ensures

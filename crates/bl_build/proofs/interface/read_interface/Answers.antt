use Rattle.bl_build.proofs.InterfaceWork.{not_read}
use Rattle.bl_build.proofs.interface.read_interface.Goals as goal

pub returns-in-Err : goal.returns-in-Err
returns-in-Err c = not_read c.args.bytes.now c.in-Err.error c.in-Err.ensures c.of_interface.result c.of_interface.ensures

use Rattle.bl_build.specs.StageAnswers.{sides_in}
use Rattle.bl_build.proofs.InterfaceWork.{client_unmatched, matched_both}
use Rattle.bl_build.proofs.join.match_both.Goals as goal

pub returns-in-Ok : goal.returns-in-Ok
returns-in-Ok c = matched_both (sides_in c.args.client.now c.args.library.now c.args.iface.now) c.match_all-in-Ok.result c.in-Ok.ensures.1 c.match_all-in-Ok.ensures

pub returns-in-Err : goal.returns-in-Err
returns-in-Err c = client_unmatched (sides_in c.args.client.now c.args.library.now c.args.iface.now) c.in-Err.error c.in-Err.ensures

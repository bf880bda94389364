use Rattle.bl_build.specs.StageAnswers.{sides_in}
use Rattle.bl_build.proofs.InterfaceWork.{client_matches, library_matches, match_refused, sides_joined}
use Rattle.bl_build.proofs.join.join_sides.Goals as goal

pub join_matched-requires-clause-client : goal.join_matched-requires-clause-client
join_matched-requires-clause-client c = client_matches (sides_in c.args.client.now c.args.library.now c.args.iface.now) c.in-Ok.ensures

pub join_matched-requires-clause-library : goal.join_matched-requires-clause-library
join_matched-requires-clause-library c = library_matches (sides_in c.args.client.now c.args.library.now c.args.iface.now) c.in-Ok.ensures

pub returns-in-Err : goal.returns-in-Err
returns-in-Err c = match_refused (sides_in c.args.client.now c.args.library.now c.args.iface.now) c.in-Err.error c.in-Err.ensures

pub returns-in-Ok : goal.returns-in-Ok
returns-in-Ok c = sides_joined (sides_in c.args.client.now c.args.library.now c.args.iface.now) c.join_matched.result c.in-Ok.ensures c.join_matched.ensures

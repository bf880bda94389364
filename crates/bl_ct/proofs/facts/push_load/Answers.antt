use Rattle.bl_ct.proofs.DeclaredLists.{load_one}
use Rattle.bl_ct.proofs.facts.push_load.Goals as goal

pub returns-in_ok-push : goal.returns-in_ok-push
returns-in_ok-push c =
    load_one c.args.at c.args.memory c.in-Some.memory c.args.loads.now c.push.new.self c.in-Some.is c.in_ok-push.ensures.ok

use Rattle.bl_ct.proofs.DeclaredLists.{store_one}
use Rattle.bl_ct.proofs.facts.push_store.Goals as goal

pub returns-in_ok-push : goal.returns-in_ok-push
returns-in_ok-push c =
    store_one c.args.at c.args.var c.in-Some.var c.args.stores.now c.push.new.self c.in-Some.is c.in_ok-push.ensures.ok

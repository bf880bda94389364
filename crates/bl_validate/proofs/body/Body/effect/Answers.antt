use Rattle.bl_validate.specs.Represents.{labels_in}
use Rattle.bl_validate.specs.Scopes.{seen}
use Rattle.bl_validate.proofs.body.Body.effect.Goals as goal

pub returns-in-CallIndirect : goal.returns-in-CallIndirect
returns-in-CallIndirect c = rw c.in-CallIndirect.is (c.call_indirect.ensures (labels_in c.args.self.now.results.now c.args.stacks.now))

pub returns-in-GlobalSet : goal.returns-in-GlobalSet
returns-in-GlobalSet c = rw c.in-GlobalSet.is (c.global_set.ensures (labels_in c.args.self.now.results.now c.args.stacks.now))

pub returns-in-Load : goal.returns-in-Load
returns-in-Load c = rw c.in-Load.is (c.load.ensures (labels_in c.args.self.now.results.now c.args.stacks.now))

pub returns-in-Store : goal.returns-in-Store
returns-in-Store c = rw c.in-Store.is (c.store.ensures (labels_in c.args.self.now.results.now c.args.stacks.now))

pub returns-in-Integer : goal.returns-in-Integer
returns-in-Integer c = rw c.in-Integer.is (c.integer.ensures (seen c.args.self.now) (labels_in c.args.self.now.results.now c.args.stacks.now))

use Rattle.std.proofs.Common.{arith}
use Rattle.bl_ct.proofs.DeclaredLists.{facts_are}
use Rattle.bl_ct.proofs.facts.facts_of.Goals as goal

pub returns : goal.returns
returns c =
    facts_are c.args.parts.now c.in_ok-declared.declared c.in_ok-accesses.accesses.loads c.in_ok-accesses.accesses.stores c.in_ok-demanded.demanded
    c.in_ok-declared.ensures c.in_ok-accesses.ensures.loads c.in_ok-accesses.ensures.stores c.in_ok-demanded.ensures

pub accesses_of-requires : goal.accesses_of-requires
accesses_of-requires c = let few = c.requires.rules.rule2.commands in omega arith

use Rattle.std.proofs.Common.{arith}
use Rattle.bl_seq.proofs.RegisterWrites.{set_tree}
use Rattle.bl_seq.proofs.registers.Tree.set.Goals as goal

pub returns-then-branch-len : goal.returns-then-branch-len
returns-then-branch-len c =
    set_tree c.set.result c.args.self.now c.self.inside.branches.items c.self.inside.strays.entries c.args.x c.args.number c.index_mut.result.now c.set.new.self
    c.self.view_is (omega (arith, c.if-branch-len.true, c.len.ensures)) c.index_mut.ensures.value c.set.ensures

use Rattle.std.proofs.Common.{arith}
use Rattle.bl_seq.proofs.RegisterWrites.{set_pages}
use Rattle.bl_seq.proofs.registers.Pages.set.Goals as goal

pub returns-then-depth-len : goal.returns-then-depth-len
returns-then-depth-len c =
    set_pages c.set.result c.args.self.now c.self.inside.depths.items c.args.depth c.args.x c.args.number c.index_mut.result.now c.set.new.self c.self.view_is
    (omega (arith, c.if-depth-len.true, c.len.ensures)) c.index_mut.ensures.value c.set.ensures

use Rattle.std.proofs.Common.{◌<◌, length, subst, sym}
use Rattle.bl_seq.specs.RegisterTrees.{Deepens}
use Rattle.bl_seq.proofs.RegisterWrites.{keep_pages, write_pages}
use Rattle.bl_seq.proofs.registers.Pages.write.Goals as goal

pub returns-clause-ok : goal.returns-clause-ok
returns-clause-ok c =
    write_pages c.args.self.now c.self.inside.depths.items c.args.depth c.args.x c.args.number c.index_mut.result.now c.write.new.self
    (subst (λ l. Deepens c.args.self.now l) (sym c.self.view_is) c.deepen.ensures.same) (subst (λ l. c.args.depth < length l) (sym c.self.view_is) c.in_ok-deepen.ensures.room)
    c.index_mut.ensures.value c.write.result c.write.ensures.ok

pub returns-clause-err : goal.returns-clause-err
returns-clause-err c =
    keep_pages c.args.self.now c.self.inside.depths.items c.args.depth c.args.x c.args.number c.index_mut.result.now c.write.new.self
    (subst (λ l. Deepens c.args.self.now l) (sym c.self.view_is) c.deepen.ensures.same) (subst (λ l. c.args.depth < length l) (sym c.self.view_is) c.in_ok-deepen.ensures.room)
    c.index_mut.ensures.value c.write.result c.write.ensures.err

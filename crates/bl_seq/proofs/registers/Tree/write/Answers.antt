use Rattle.std.proofs.Common.{◌∙◌}
use Rattle.bl_seq.proofs.RegisterWrites.{put_stray}
use Rattle.bl_seq.proofs.registers.Tree.write.Goals as goal

pub returns-clause-ok : goal.returns-clause-ok
returns-clause-ok c =
    put_stray c.args.self.now c.self.inside.branches.items c.self.inside.strays.entries c.insert.new.self.entries c.args.x c.args.number (c.self.view_is ∙ c.if-set.ensures.1)
    c.if-set.ensures.0 c.in_ok-insert.ensures.updates.1 c.in_ok-insert.ensures.updates.2

use Rattle.std.proofs.Common.{arith, ap, refl, set, ◌∙◌}
use Rattle.bl_definite.proofs.LinkLemmas.{noted_one, noted_past}
use Rattle.bl_definite.proofs.ListLemmas.{read_at}
use Rattle.bl_definite.proofs.tables.note.Goals as goal

pub returns-in_ok-push : goal.returns-in_ok-push
returns-in_ok-push c =
    noted_one c.args.from c.args.to.0 c.index-next.result.now _ c.args.entrants.now _ refl refl
    (read_at c.args.entrants.now.heads.items c.args.to.0 _ _ c.index-next.ensures (omega (arith, c.if-to-len.true, c.len.ensures, c.args.entrants.now.heads.ok.0)))
    (ap (set c.args.entrants.now.heads.items c.args.to.0) (c.len-then-to-len.ensures ∙ c.push.new.self.ok.0))
    c.in_ok-push.ensures.items

pub returns-else-to-len : goal.returns-else-to-len
returns-else-to-len c = noted_past _ _ _ _ refl (omega (arith, c.if-to-len.false, c.len.ensures, c.args.entrants.now.heads.ok.0))

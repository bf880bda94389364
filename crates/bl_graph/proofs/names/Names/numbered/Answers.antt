use Rattle.std.proofs.Common.{sym, ap, ◌∙◌, subst}
use Rattle.std.specs.List.{All, Contains}
use Rattle.bl_graph.specs.Names.{kept_in}
use Rattle.bl_graph.proofs.NameLemmas.{own_uses}
use Rattle.bl_graph.proofs.names.Names.numbered.Goals as goal

pub numbered_among-requires-clause-has : goal.numbered_among-requires-clause-has
numbered_among-requires-clause-has c =
    subst (λ l. All (λ u. Contains l u.var.0) c.args.uses.now) (sym c.self.view_is ∙ ap kept_in c.in-Listed.is ∙ sym c.deref.ensures.value) c.requires.has

pub returns-in-All : goal.returns-in-All
returns-in-All c = own_uses c.args.self.now c.in-All.field-0 (sym c.self.view_is ∙ ap kept_in c.in-All.is) c.args.uses.now c.requires.has

use Rattle.std.proofs.Common.{◌<◌, length, Some, slice_get, sym, ap, ◌∙◌, subst}
use Rattle.std.proofs.lemmas.Option.{slice_get-get_or}
use Rattle.bl_graph.specs.Names.{kept_in}
use Rattle.bl_graph.proofs.NameLemmas.{own_at}
use Rattle.bl_graph.proofs.names.Names.variable.Goals as goal

pub returns-in-All : goal.returns-in-All
returns-in-All c = own_at c.args.self.now c.in-All.field-0 (sym c.self.view_is ∙ ap kept_in c.in-All.is) c.args.number c.requires

pub returns-in-Listed : goal.returns-in-Listed
returns-in-Listed c =
    let same = sym c.self.view_is ∙ ap kept_in c.in-Listed.is in
    ap (λ l. slice_get l c.args.number) same
    ∙ slice_get-get_or c.in-Listed.names.items c.args.number c.index.result.now (subst (λ l. c.args.number < length l) same c.requires) ∙ ap Some (sym c.index.ensures)

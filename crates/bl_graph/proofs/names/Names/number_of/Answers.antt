use Rattle.std.proofs.Common.{sym, ap, ◌∙◌}
use Rattle.bl_graph.specs.Names.{kept_in}
use Rattle.bl_graph.proofs.NameLemmas.{own_place, own_here}
use Rattle.bl_graph.proofs.names.Names.number_of.Goals as goal

pub returns-in-All-clause-is : goal.returns-in-All-clause-is
returns-in-All-clause-is c = own_place c.args.self.now c.in-All.field-0 (sym c.self.view_is ∙ ap kept_in c.in-All.is) c.args.x c.requires.has

pub returns-in-All-clause-at : goal.returns-in-All-clause-at
returns-in-All-clause-at c = own_here c.args.self.now c.in-All.field-0 (sym c.self.view_is ∙ ap kept_in c.in-All.is) c.args.x c.requires.has

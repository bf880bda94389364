use Rattle.std.proofs.Common.{length, sym, ap, ◌∙◌}
use Rattle.std.proofs.lemmas.List.FromFn.{length-range_with_len}
use Rattle.bl_graph.specs.Names.{kept_in}
use Rattle.bl_graph.proofs.names.Names.len.Goals as goal

pub returns-in-All : goal.returns-in-All
returns-in-All c = sym (ap length (sym c.self.view_is ∙ ap kept_in c.in-All.is) ∙ length-range_with_len 0 c.in-All.count)

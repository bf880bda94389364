use Rattle.std.proofs.Common.{ap, sym, ◌∙◌}
use Rattle.std.specs.Cmp.{nat_cmp_total}
use Rattle.std.specs.FinSet.{contains, contains-from_list}
use Rattle.bl_labels.proofs.numbers.NumberSet.contains.Goals as goal

pub returns : goal.returns
returns c =
    c.contains.ensures
    ∙ sym (contains-from_list nat_cmp_total c.self.inside.numbers.keys c.args.number)
    ∙ ap (λ s. contains s c.args.number) c.self.view_is

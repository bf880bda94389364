use Rattle.std.proofs.Common.{ap, sym, ◌∙◌}
use Rattle.std.specs.Prelude.{not}
use Rattle.std.specs.Cmp.{nat_cmp_total}
use Rattle.std.specs.FinSet.{contains, insert, from_list, contains-from_list}
use Rattle.bl_base.proofs.SetLemmas.{from_list-insert_key}
use Rattle.bl_labels.proofs.numbers.NumberSet.insert.Goals as goal

pub returns-clause-absent : goal.returns-clause-absent
returns-clause-absent c =
    c.in_ok-added.ensures.added
    ∙ ap not (sym (contains-from_list nat_cmp_total c.self.inside.numbers.keys c.args.number) ∙ ap (λ s. contains s c.args.number) c.self.view_is)

pub returns-clause-added : goal.returns-clause-added
returns-clause-added c =
    ap from_list c.in_ok-added.ensures.keys
    ∙ from_list-insert_key c.self.inside.numbers.keys c.args.number
    ∙ ap (λ s. insert s c.args.number) c.self.view_is

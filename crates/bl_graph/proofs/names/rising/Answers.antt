use Rattle.std.proofs.Common.{◌≡◌, ◌++◌, map, ap, ◌∙◌}
use Rattle.bl_graph.specs.Names.{var_of}
use Rattle.bl_graph.proofs.NameLemmas.{all_of, names_rise, names_have}
use Rattle.bl_graph.proofs.names.rising.Goals as goal

gathered : (c : goal.After-dedup) → c.extend_from_slice.new.self.items ≡ all_of c.args.graph.now c.args.more.now
gathered c =
    c.in_ok-extend_from_slice.ensures.items
    ∙ ap (λ l. l ++ c.args.more.now) (c.in_ok-push_vars-3.ensures
    ∙ ap (λ l. l ++ map var_of c.as_slice-3.result.now) (c.in_ok-push_vars-2.ensures
    ∙ ap (λ l. l ++ map var_of c.as_slice-2.result.now) (c.in_ok-push_vars.ensures ∙ ap (λ l. l ++ map var_of c.as_slice.result.now) c.new-names.ensures.items))
    ∙ ap (λ l. map var_of l ++ map var_of c.as_slice-2.result.now ++ map var_of c.as_slice-3.result.now) c.as_slice.ensures
    ∙ ap (λ l. map var_of c.args.graph.now.writes ++ map var_of l ++ map var_of c.as_slice-3.result.now) c.as_slice-2.ensures
    ∙ ap (λ l. map var_of c.args.graph.now.writes ++ map var_of c.args.graph.now.reads ++ map var_of l) c.as_slice-3.ensures)

pub returns-clause-rise : goal.returns-clause-rise
returns-clause-rise c =
    names_rise c.args.graph.now c.args.more.now c.extend_from_slice.new.self.items c.sort_unstable.new.self.items c.dedup.new.self.items (gathered c)
    c.sort_unstable.ensures.permutation c.sort_unstable.ensures.sorted c.dedup.ensures.filtered

pub returns-clause-has : goal.returns-clause-has
returns-clause-has c =
    names_have c.args.graph.now c.args.more.now c.extend_from_slice.new.self.items c.sort_unstable.new.self.items c.dedup.new.self.items (gathered c)
    c.sort_unstable.ensures.permutation c.sort_unstable.ensures.sorted c.dedup.ensures.filtered

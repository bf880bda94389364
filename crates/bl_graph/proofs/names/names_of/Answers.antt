use Rattle.std.proofs.Common.{◌<◌, sym, subst, arith}
use Rattle.std.specs.List.{All, range_with_len}
use Rattle.std.proofs.lemmas.List.FromFn.{length-range_with_len}
use Rattle.bl_graph.specs.Names.{AreNames}
use Rattle.bl_graph.proofs.NameLemmas.{all_are_names, further_in_range, named_are_names, further_are_named}
use Rattle.bl_graph.proofs.names.names_of.Goals as goal

pub returns-then-count-saturating_mul-clause-names : goal.returns-then-count-saturating_mul-clause-names
returns-then-count-saturating_mul-clause-names c =
    subst (λ n. AreNames c.args.program.now (range_with_len 0 n)) (sym c.variables-count.ensures) (all_are_names c.args.program.now c.ranges-2.ensures)

pub returns-then-count-saturating_mul-clause-more : goal.returns-then-count-saturating_mul-clause-more
returns-then-count-saturating_mul-clause-more c =
    further_in_range c.variables-count.result c.args.more.now (subst (λ n. All (λ x. x < n) c.args.more.now) (sym c.variables-count.ensures) c.requires.more)

pub returns-then-count-saturating_mul-clause-few : goal.returns-then-count-saturating_mul-clause-few
returns-then-count-saturating_mul-clause-few c =
    let long = length-range_with_len 0 c.variables-count.result in
    let at_most = c.if-count-saturating_mul.true in
    let four = c.saturating_mul.ensures in
    let all = c.entries.ensures in
    omega arith

pub returns-clause-names : goal.returns-clause-names
returns-clause-names c =
    named_are_names c.args.program.now c.args.graph.now c.args.more.now c.in_ok-named.named.items c.requires.graph c.ranges-2.ensures c.requires.more c.in_ok-named.ensures.rise
    c.in_ok-named.ensures.has

pub returns-clause-more : goal.returns-clause-more
returns-clause-more c =
    further_are_named c.args.program.now c.args.graph.now c.args.more.now c.in_ok-named.named.items c.requires.graph c.ranges-2.ensures c.requires.more c.in_ok-named.ensures.rise
    c.in_ok-named.ensures.has

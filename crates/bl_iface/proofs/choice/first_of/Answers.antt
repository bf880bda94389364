use Rattle.std.proofs.Common.{ℕ, Bool, sym, ◌∙◌}
use Rattle.std.specs.BTreeSet as sorted
use Rattle.std.specs.List.{slice_index_or}
use Rattle.std.specs.Ordering.{nat_cmp}
use Rattle.std.proofs.lemmas.List.{get_or_default}
use Rattle.bl_graph.specs.Graphs.{use_of}
use Rattle.bl_graph.specs.declared.facts.Use.{Use}
use Rattle.bl_iface.proofs.VariableSets.{first_use, none_more}
use Rattle.bl_iface.proofs.choice.first_of.Goals as goal

pub returns-then-contains : goal.returns-then-contains
returns-then-contains c =
    let test : ℕ → Bool = sorted.contains nat_cmp c.args.vars.now in
    let here : Use = slice_index_or c.args.uses.now c.loop-one.one-index (use_of 0 0) in
    first_use test c.args.uses.now c.loop-one.one-index c.loop-one-test.true c.requires c.loop-one.invariant here
    (λ d. get_or_default c.args.uses.now c.loop-one.one-index d (use_of 0 0) c.loop-one-test.true) (sym c.contains.ensures ∙ c.if-contains.true)

pub loop-one-preserved : goal.loop-one-preserved
loop-one-preserved c =
    let test : ℕ → Bool = sorted.contains nat_cmp c.args.vars.now in
    none_more test c.args.uses.now c.loop-one.one-index c.loop-one.invariant (use_of 0 0) c.loop-one-test.true (sym c.contains.ensures ∙ c.if-contains.false)

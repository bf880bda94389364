use Rattle.std.proofs.Common.{ℕ, Bool, List, ap, sym, subst, ◌∙◌, nat_eq}
use Rattle.std.specs.BTreeSet as sorted
use Rattle.std.specs.List.{AllPairs, list_any}
use Rattle.std.specs.Ordering.{nat_cmp}
use Rattle.std.specs.Prelude.{MatchOption}
use Rattle.bl_graph.specs.Graphs.{Precedes}
use Rattle.bl_graph.specs.declared.facts.Use.{Use}
use Rattle.bl_iface.specs.RoleLists.{IsFirstUse, NoUse}
use Rattle.bl_iface.proofs.VariableSets.{first_given}
use Rattle.bl_iface.proofs.choice.first_given.Goals as goal

pub first_of-requires : goal.first_of-requires
first_of-requires c = subst (AllPairs Precedes) (sym c.as_slice-2.ensures) c.requires.sinks.rise

pub returns : goal.returns
returns c =
    let test : ℕ → Bool = sorted.contains nat_cmp c.in_ok-given.given in
    first_given c.args.asked.now c.args.program.now c.args.graph.now test c.first_of.result c.requires (λ x. c.in_ok-given.ensures x ∙ ap (list_any (nat_eq x)) c.as_slice.ensures)
    (subst (λ (l : List Use). MatchOption c.first_of.result (NoUse test l) (λ position. IsFirstUse test l position.0)) c.as_slice-2.ensures c.first_of.ensures)

use Rattle.std.proofs.Common.{◌≡◌, ◌<◌, ◌∙◌, ◌++◌, ap, sym, subst}
use Rattle.std.specs.List.{All, Contains}
use Rattle.std.proofs.lemmas.List.Elements.{All-append, All-contains, Contains-append_left, Contains-append_right}
use Rattle.bl_graph.proofs.ChainLemmas.{all_from}
use Rattle.bl_graph.specs.Ranges.{variables}
use Rattle.bl_transient.proofs.asked.names_under.Goals as goal
use Rattle.bl_transient.proofs.asked.names_under.Goals.{After-deref}

more_is : (c : After-deref) → c.deref.result.now ≡ c.args.asked.now.transient ++ c.args.asked.now.stable
more_is c =
    c.deref.ensures.value ∙ c.in_ok-extend_from_slice-2.ensures.items
    ∙ ap (λ l. l ++ c.as_slice-2.result.now) (c.in_ok-extend_from_slice.ensures.items ∙ ap (λ l. l ++ c.as_slice.result.now) c.new-more.ensures.items ∙ c.as_slice.ensures)
    ∙ ap (λ l. c.args.asked.now.transient ++ l) c.as_slice-2.ensures

pub names_of-requires-clause-more : goal.names_of-requires-clause-more
names_of-requires-clause-more c =
    subst (All (λ x. x < variables c.args.program.now)) (sym (more_is c)) (All-append (λ x. x < variables c.args.program.now) c.args.asked.now.transient c.args.asked.now.stable c.requires.transient c.requires.stable)

pub returns-clause-transient : goal.returns-clause-transient
returns-clause-transient c =
    all_from (λ x. Contains c.in_ok-names.names x) c.args.asked.now.transient (λ x h.
    All-contains (λ y. Contains c.in_ok-names.names y) (c.args.asked.now.transient ++ c.args.asked.now.stable) x
    (subst (All (λ y. Contains c.in_ok-names.names y)) (more_is (goal.at.returns-clause-transient c).After-deref) c.in_ok-names.ensures.more) (Contains-append_left c.args.asked.now.transient c.args.asked.now.stable x h))

pub returns-clause-stable : goal.returns-clause-stable
returns-clause-stable c =
    all_from (λ x. Contains c.in_ok-names.names x) c.args.asked.now.stable (λ x h.
    All-contains (λ y. Contains c.in_ok-names.names y) (c.args.asked.now.transient ++ c.args.asked.now.stable) x
    (subst (All (λ y. Contains c.in_ok-names.names y)) (more_is (goal.at.returns-clause-stable c).After-deref) c.in_ok-names.ensures.more) (Contains-append_right c.args.asked.now.transient c.args.asked.now.stable x h))

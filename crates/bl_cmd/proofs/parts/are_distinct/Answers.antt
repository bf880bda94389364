use Rattle.std.proofs.Common.{sym, ◌∙◌, refl, subst}
use Rattle.std.proofs.lemmas.Bool.{false≢true}
use Rattle.std.proofs.lemmas.List.{take_all}
use Rattle.bl_cmd.specs.Verdicts.{AreDistinct}
use Rattle.bl_base.proofs.NameSets.{collects_none, collects_more, collects_twice}
use Rattle.bl_cmd.proofs.parts.are_distinct.Goals as goal

pub loop-entry-init : goal.loop-entry-init
loop-entry-init c = collects_none (λ x. x.name) _ c.new-names.ensures.empty

pub loop-entry-preserved : goal.loop-entry-preserved
loop-entry-preserved c = collects_more (λ x. x.name) _ _ _ _ _ c.as_slice.result c.loop-entry-test.true c.entry-item.is c.as_slice.ensures c.loop-entry.invariant (sym c.if-not-branch.false ∙ c.in_ok-insert.ensures.added) c.in_ok-insert.ensures.updates

pub returns-then-not-branch : goal.returns-then-not-branch
returns-then-not-branch c = (
  λ e. absurd (false≢true e),
  λ distinct. absurd (collects_twice (λ x. x.name) _ _ _ _ c.as_slice.result c.loop-entry-test.true c.entry-item.is c.as_slice.ensures c.loop-entry.invariant (sym c.if-not-branch.true ∙ c.in_ok-insert.ensures.added) distinct),
)

pub returns : goal.returns
returns c = (λ _. subst AreDistinct (take_all _ _ c.loop-entry-test.false) c.loop-entry.invariant.distinct, λ _. refl)

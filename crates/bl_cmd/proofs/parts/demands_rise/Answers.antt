use Rattle.std.proofs.Common.{refl, sym, ◌∙◌}
use Rattle.std.proofs.lemmas.Bool.{false≢true}
use Rattle.bl_base.proofs.AscendingLists.{adjacent_none, adjacent_next, pairs_all, not_pairs}
use Rattle.bl_program.specs.Rules.{Precedes}
use Rattle.bl_program.proofs.Totals.{precedes_trans}
use Rattle.bl_cmd.proofs.parts.demands_rise.Goals as goal

pub loop-i-init : goal.loop-i-init
loop-i-init c = adjacent_none (Precedes) c.args.demands.now

pub loop-i-preserved : goal.loop-i-preserved
loop-i-preserved c = adjacent_next (Precedes) c.args.demands.now c.loop-i.i _ _ c.loop-i.auto.i c.loop-i-test.true c.loop-i.invariant (c.precedes.ensures.0 c.if-not-precedes.false)

pub returns-then-not-precedes : goal.returns-then-not-precedes
returns-then-not-precedes c = (λ t. absurd (false≢true t), λ pairs. absurd (not_pairs (Precedes) c.args.demands.now c.loop-i.i _ _ c.loop-i.auto.i c.loop-i-test.true (λ h. absurd (false≢true (sym c.if-not-precedes.true ∙ c.precedes.ensures.1 h))) pairs))

pub returns : goal.returns
returns c = (λ _. pairs_all (Precedes) (precedes_trans) c.args.demands.now c.loop-i.i c.loop-i-test.false c.loop-i.invariant, λ _. refl)

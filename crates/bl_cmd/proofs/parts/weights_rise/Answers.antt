use Rattle.std.proofs.Common.{◌<◌, refl, arith}
use Rattle.std.proofs.lemmas.Bool.{false≢true}
use Rattle.bl_base.proofs.AscendingLists.{adjacent_none, adjacent_next, pairs_all, not_pairs, not_below}
use Rattle.bl_program.specs.declared.definitions.SiteWeight.{SiteWeight}
use Rattle.bl_cmd.proofs.parts.weights_rise.Goals as goal

pub loop-i-init : goal.loop-i-init
loop-i-init c = adjacent_none (λ (entry next : SiteWeight). entry.at.0 < next.at.0) c.args.weights.now

pub loop-i-preserved : goal.loop-i-preserved
loop-i-preserved c = adjacent_next (λ (entry next : SiteWeight). entry.at.0 < next.at.0) c.args.weights.now c.loop-i.i _ _ c.loop-i.auto.i c.loop-i-test.true c.loop-i.invariant c.if-weights-i.false

pub returns-then-weights-i : goal.returns-then-weights-i
returns-then-weights-i c = (λ t. absurd (false≢true t), λ pairs. absurd (not_pairs (λ (entry next : SiteWeight). entry.at.0 < next.at.0) c.args.weights.now c.loop-i.i _ _ c.loop-i.auto.i c.loop-i-test.true (not_below _ _ c.if-weights-i.true) pairs))

pub returns : goal.returns
returns c = (λ _. pairs_all (λ (entry next : SiteWeight). entry.at.0 < next.at.0) (λ x y z a b. omega arith) c.args.weights.now c.loop-i.i c.loop-i-test.false c.loop-i.invariant, λ _. refl)

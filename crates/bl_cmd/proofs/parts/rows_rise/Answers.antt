use Rattle.std.proofs.Common.{◌<◌, refl, arith}
use Rattle.std.proofs.lemmas.Bool.{false≢true}
use Rattle.bl_base.proofs.AscendingLists.{adjacent_none, adjacent_next, pairs_all, not_pairs, not_below}
use Rattle.bl_program.specs.declared.definitions.MemRow.{MemRow}
use Rattle.bl_cmd.proofs.parts.rows_rise.Goals as goal

pub loop-i-init : goal.loop-i-init
loop-i-init c = adjacent_none (λ (row next : MemRow). row.number < next.number) c.args.rows.now

pub loop-i-preserved : goal.loop-i-preserved
loop-i-preserved c = adjacent_next (λ (row next : MemRow). row.number < next.number) c.args.rows.now c.loop-i.i _ _ c.loop-i.auto.i c.loop-i-test.true c.loop-i.invariant c.if-rows-i.false

pub returns-then-rows-i : goal.returns-then-rows-i
returns-then-rows-i c = (λ t. absurd (false≢true t), λ pairs. absurd (not_pairs (λ (row next : MemRow). row.number < next.number) c.args.rows.now c.loop-i.i _ _ c.loop-i.auto.i c.loop-i-test.true (not_below _ _ c.if-rows-i.true) pairs))

pub returns : goal.returns
returns c = (λ _. pairs_all (λ (row next : MemRow). row.number < next.number) (λ x y z a b. omega arith) c.args.rows.now c.loop-i.i c.loop-i-test.false c.loop-i.invariant, λ _. refl)

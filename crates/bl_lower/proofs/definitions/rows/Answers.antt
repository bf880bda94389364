use Rattle.std.proofs.Common.{◌≡◌, ◌/◌, length, true, false, rules}
use Rattle.bl_lower.specs.Trees.{is_filled, memory_row_at}
use Rattle.bl_lower.proofs.DefinitionLemmas.{filled_more, unfilled_more}
use Rattle.bl_lower.proofs.definitions.rows.Goals as goal
use Rattle.bl_lower.proofs.definitions.rows.Goals.{then-is_filled+in_ok-push, else-is_filled}

pub loop-number-preserved : goal.loop-number-preserved
loop-number-preserved c = elim c.if-is_filled.branch [
  | then-is_filled+in_ok-push w ↦
      let filled : is_filled (memory_row_at c.args.bytes.now c.loop-number.number).bytes ≡ true = search rules in
      rw (w.all-is, w.in_ok-push.ensures.ok, c.row-row.ensures)
      (filled_more c.args.bytes.now c.loop-number.number (length c.args.bytes.now / 16) c.loop-number.all _ c.loop-number-test.true filled c.loop-number.invariant)
  | else-is_filled w ↦
      let unfilled : is_filled (memory_row_at c.args.bytes.now c.loop-number.number).bytes ≡ false = search rules in
      rw w.all-is (unfilled_more c.args.bytes.now c.loop-number.number (length c.args.bytes.now / 16) c.loop-number.all _ c.loop-number-test.true unfilled c.loop-number.invariant)
]

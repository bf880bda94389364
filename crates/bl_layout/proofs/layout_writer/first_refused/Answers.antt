use Rattle.std.proofs.Common.{◌≡◌, true, false, length, refl, ap, arith}
use Rattle.bl_layout.proofs.Tables.{all_writable, item_there, one_writable, refused_late}
use Rattle.bl_layout.proofs.layout_writer.first_refused.Goals as goal

pub overflow_cast-at : goal.overflow_cast-at
overflow_cast-at c = omega (arith, c.loop-position-test.true, ap length c.as_slice-command-items.ensures, c.requires.rules.rule2.commands)

pub loop-position-preserved : goal.loop-position-preserved
loop-position-preserved c =
    one_writable c.args.layout.now.parts.now c.loop-position.position _ (item_there c.args.layout.now.parts.now c.as_slice-command-items.result.now c.loop-position.position _ c.as_slice-command-items.ensures c.loop-position-test.true)
    c.loop-position.invariant (c.if-not-is_fine.ensures.0 refl)

pub returns-then-not-is_fine : goal.returns-then-not-is_fine
returns-then-not-is_fine c = record {
  of_a_function = refused_late c.loop-position.position _ c.if-not-is_fine.ensures.1;
  command = _;
  there = item_there c.args.layout.now.parts.now c.as_slice-command-items.result.now c.loop-position.position _ c.as_slice-command-items.ensures c.loop-position-test.true;
  refused = λ w. let told : false ≡ true = c.if-not-is_fine.ensures.1 (λ _. w) in cc;
  before = c.loop-position.invariant;
}

pub returns : goal.returns
returns c = all_writable c.args.layout.now.parts.now c.loop-position.position (omega (arith, ap length c.as_slice-command-items.ensures, c.loop-position-test.false)) c.loop-position.invariant

use Rattle.std.proofs.Common.{◌≡◌, ◌+◌, ◌≤◌, length, refl, slice_index, ap, arith}
use Rattle.bl_layout.specs.Blocks.{count_from}
use Rattle.bl_layout.proofs.Tables.{item_there, start_more, table_more}
use Rattle.bl_layout.proofs.layout_writer.starts_of.Goals as goal

pub overflow_add-start : goal.overflow_add-start
overflow_add-start c =
    omega (arith, c.loop-position.invariant.few, c.in_ok-count.ensures.few, c.requires.layout.rules.rule2.commands, c.loop-position-test.true, ap length c.as_slice-command-items.ensures)

pub count_at-requires-clause-there : goal.count_at-requires-clause-there
count_at-requires-clause-there c = item_there c.args.layout.now.parts.now c.as_slice-command-items.result.now c.loop-position.position _ c.as_slice-command-items.ensures c.loop-position-test.true

pub loop-position-preserved : goal.loop-position-preserved
loop-position-preserved c =
    let program = c.args.layout.now.parts.now in
    let targets = slice_index c.args.targets.now in
    let so_far = c.loop-position.invariant in
    let pushed = c.in_ok-push-2.ensures in
    let got = item_there c.args.layout.now.parts.now c.as_slice-command-items.result.now c.loop-position.position _ c.as_slice-command-items.ensures c.loop-position-test.true in
    let next = start_more program targets c.loop-position.position c.loop-position.start c.in_ok-count.count (c.loop-position.start + c.in_ok-count.count) _ got so_far.last c.in_ok-count.ensures.count refl in
    record {
      count = omega (arith, pushed.len, so_far.count);
      each = table_more (count_from program targets 0 program.commands) c.loop-position.position _ c.loop-position.starts.items _ pushed.items so_far.count next so_far.each;
      last = next;
      few = omega (arith, so_far.few, c.in_ok-count.ensures.few);
    }

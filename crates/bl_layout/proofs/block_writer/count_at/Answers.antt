use Rattle.std.proofs.Common.{◌≤◌, length, slice_index, ap, arith, length-append}
use Rattle.bl_layout.specs.Blocks.{block_at}
use Rattle.bl_layout.proofs.Tables.{few_at}
use Rattle.bl_layout.proofs.block_writer.count_at.Goals as goal

pub prove-unreachable-requires : goal.prove-unreachable-requires
prove-unreachable-requires c =
    let program = c.args.layout.now.parts.now in
    let block = block_at program (slice_index c.args.targets.now) c.args.position c.args.command in
    omega (
      arith,
      c.if-prove.true,
      c.len-count.ensures,
      c.push_at.new.code.ok.0,
      ap length c.in_ok-push_at.ensures,
      length-append c.clear.new.self.items block,
      ap length c.clear.ensures.items,
      few_at program (slice_index c.args.targets.now) c.args.position c.args.command,
    )

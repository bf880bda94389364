use Rattle.std.proofs.Common.{◌≡◌, slice_index, subst, arith}
use Rattle.bl_layout.specs.Blocks.{blocks_from}
use Rattle.bl_layout.proofs.Tables.{starts_same}
use Rattle.bl_layout.proofs.layout_writer.code_of.Goals as goal

pub overflow_add-count : goal.overflow_add-count
overflow_add-count c = omega (arith, c.requires.layout.rules.rule2.commands, c.len-count.ensures)

pub returns : goal.returns
returns c =
    let program = c.args.layout.now.parts.now in
    let made = c.in_ok-instructions.ensures in
    record {
      writable = c.requires.writable;
      starts_are = starts_same program (slice_index c.as_slice-no_targets.result.now) (slice_index c.in_ok-starts.starts.items) c.in_ok-starts.starts.items c.in_ok-starts.ensures;
      code_is = subst (λ l. c.in_ok-instructions.instructions.items ≡ blocks_from program (slice_index l) 0 program.commands) c.as_slice-targets.ensures.value made;
    }

use Rattle.std.proofs.Common.{◌∙◌, sym, ap, arith}
use Rattle.bl_link.specs.Links.{constant_value}
use Rattle.bl_link.specs.IndexSpaces.{number, written}
use Rattle.bl_link.proofs.SegmentLemmas.{changed_past, put_at}
use Rattle.bl_link.proofs.segments.put_data.Goals as goal

pub returns-then-at-len : goal.returns-then-at-len
returns-then-at-len c =
    put_at c.args.memories.now.items (number c.args.spaces.now.memories c.args.segment.now.memory) (constant_value c.args.globals.now c.args.spaces.now c.args.segment.now.offset) c.args.segment.now.bytes
    c.number-at.result c.constant_value-place.result c.as_slice-then-at-len.result.now c.index_mut.result.now c.write_memory.new.memory c.index_mut.result.now c.number-at.ensures (c.constant_value-place.ensures ∙ ap (constant_value c.args.globals.now c.args.spaces.now) c.as_slice.ensures) c.as_slice-then-at-len.ensures c.index_mut.ensures.value c.write_memory.ensures (omega (arith, c.if-at-len.true, c.len.ensures, c.args.memories.now.ok.0))

pub returns-else-at-len : goal.returns-else-at-len
returns-else-at-len c = sym (changed_past (number c.args.spaces.now.memories c.args.segment.now.memory) (λ memory. record memory { bytes = written (constant_value c.args.globals.now c.args.spaces.now c.args.segment.now.offset) c.args.segment.now.bytes memory.bytes }) c.args.memories.now.items (omega (arith, c.if-at-len.false, c.len.ensures, c.number-at.ensures, c.args.memories.now.ok.0)))

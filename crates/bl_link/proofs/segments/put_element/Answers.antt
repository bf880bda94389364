use Rattle.std.proofs.Common.{◌∙◌, sym, ap, arith, map, Some}
use Rattle.bl_link.specs.Links.{constant_value}
use Rattle.bl_link.specs.IndexSpaces.{number, written}
use Rattle.bl_link.proofs.SegmentLemmas.{changed_past}
use Rattle.bl_link.proofs.SlotLemmas.{slots_at}
use Rattle.bl_link.proofs.segments.put_element.Goals as goal

pub returns-then-at-len : goal.returns-then-at-len
returns-then-at-len c = slots_at c.args.tables.now.items (number c.args.spaces.now.tables c.args.segment.now.table) (constant_value c.args.globals.now c.args.spaces.now c.args.segment.now.offset)
    (map (λ function. Some (number c.args.spaces.now.functions function)) c.args.segment.now.functions) c.number-at.result c.constant_value-place.result
    (map (λ function. Some (number c.args.spaces.now.functions function)) c.as_slice-then-at-len.result.now) c.index_mut.result.now c.write_table.new.table c.index_mut.result.now
    c.number-at.ensures (c.constant_value-place.ensures ∙ ap (constant_value c.args.globals.now c.args.spaces.now) c.as_slice.ensures) (ap (map (λ function. Some (number c.args.spaces.now.functions function))) c.as_slice-then-at-len.ensures)
    c.index_mut.ensures.value c.write_table.ensures (omega (arith, c.if-at-len.true, c.len.ensures, c.args.tables.now.ok.0))

pub returns-else-at-len : goal.returns-else-at-len
returns-else-at-len c = sym (changed_past (number c.args.spaces.now.tables c.args.segment.now.table) (written (constant_value c.args.globals.now c.args.spaces.now c.args.segment.now.offset) (map (λ function. Some (number c.args.spaces.now.functions function)) c.args.segment.now.functions)) c.args.tables.now.items (omega (arith, c.if-at-len.false, c.len.ensures, c.number-at.ensures, c.args.tables.now.ok.0)))

use Rattle.std.proofs.Common.{◌∙◌, subst, sym}
use Rattle.bl_wasm.specs.Values.{vec}
use Rattle.bl_code.specs.ReaderAnswers.{Refuses}
use Rattle.bl_labels.specs.Entries.{entry}
use Rattle.bl_labels.proofs.SectionForms.{no_byte, no_vec, not_whole, whole_read}
use Rattle.bl_labels.proofs.section.read_section.Goals as goal

pub returns-in_default : goal.returns-in_default
returns-in_default c = no_byte c.args.bytes.now c.in_default.ensures

pub returns-then-is_whole : goal.returns-then-is_whole
returns-then-is_whole c =
    whole_read c.args.bytes.now c.in-Ok.first c.in-Ok-read_vec.end c.in-Ok.version c.in-Ok-read_vec.entries c.as_slice.result.now
    c.in-Ok.ensures c.in-Ok-read_vec.ensures c.as_slice.ensures (sym c.is_whole.ensures ∙ c.if-is_whole.true)

pub returns-else-is_whole : goal.returns-else-is_whole
returns-else-is_whole c =
    not_whole c.args.bytes.now c.in-Ok.first c.in-Ok-read_vec.end c.in-Ok.version c.in-Ok-read_vec.entries c.as_slice.result.now
    c.in-Ok.ensures c.in-Ok-read_vec.ensures c.as_slice.ensures (sym c.is_whole.ensures ∙ c.if-is_whole.false)

pub returns-in-Err-Malformed : goal.returns-in-Err-Malformed
returns-in-Err-Malformed c = no_vec c.args.bytes.now c.in-Ok.first c.in-Ok.version c.in-Ok.ensures
    (subst (Refuses (vec entry) c.args.bytes.now c.in-Ok.first) c.in-Err-Malformed.field-0-is c.in-Err-Malformed.ensures)

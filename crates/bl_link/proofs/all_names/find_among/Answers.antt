use Rattle.std.proofs.Common.{◌∙◌, ap, sym, ◌+◌, drop}
use Rattle.std.specs.Option.{option_or}
use Rattle.bl_wasm.specs.Exports.{value_named}
use Rattle.bl_link.specs.AllNames.{of_parts}
use Rattle.bl_link.proofs.QualifiedNames.{found_from, or_other}
use Rattle.bl_link.proofs.all_names.find_among.Goals as goal

pub returns-in-Some : goal.returns-in-Some
returns-in-Some c =
    let later = value_named c.args.name.now (of_parts (drop (c.loop-part.part-index + 1) c.args.parts.now)) in
    ap (λ found. option_or found later) c.in-Some.ensures
    ∙ sym (found_from c.args.name.now c.args.parts.now c.loop-part.part-index c.part-item.result c.loop-part-test.true c.part-item.is)
    ∙ c.loop-part.invariant

pub loop-part-preserved : goal.loop-part-preserved
loop-part-preserved c =
    let later = value_named c.args.name.now (of_parts (drop (c.loop-part.part-index + 1) c.args.parts.now)) in
    sym (or_other c.find.result later c.in_default.not-Some)
    ∙ ap (λ found. option_or found later) c.find.ensures
    ∙ sym (found_from c.args.name.now c.args.parts.now c.loop-part.part-index c.part-item.result c.loop-part-test.true c.part-item.is)
    ∙ c.loop-part.invariant

use Rattle.std.proofs.Common.{◌∙◌, ap, sym}
use Rattle.bl_wasm.specs.Exports.{value_named}
use Rattle.bl_link.specs.AllNames.{of_part}
use Rattle.bl_link.specs.ExportNames.{qualified}
use Rattle.bl_link.proofs.QualifiedNames.{other_named, own_named}
use Rattle.bl_link.proofs.all_names.PartNames.find.Goals as goal

pub returns-in-Some : goal.returns-in-Some
returns-in-Some c =
    let own = c.in-Some.own.now in
    let one = c.args.self.now in
    c.get.ensures ∙ sym (own_named one.part own one.exports)
    ∙ ap (λ name. value_named name (of_part one)) (sym (c.in-Some.ensures ∙ ap (λ part. qualified part own) c.as_slice.ensures))

pub returns-in-None : goal.returns-in-None
returns-in-None c =
    let one = c.args.self.now in
    sym (other_named one.part c.args.name.now one.exports (λ these e. c.in-None.ensures these (e ∙ ap (λ part. qualified part these) (sym c.as_slice.ensures))))

use Rattle.std.proofs.Common.{List, subst}
use Rattle.bl_program.specs.declared.definitions.ExportDef.{ExportDef}
use Rattle.bl_format.specs.Grammar.{each}
use Rattle.bl_format.specs.Image.{export}
use Rattle.bl_format.specs.WriterAnswers.{HasLength}
use Rattle.bl_format.proofs.LengthLemmas.{two}
use Rattle.bl_format.proofs.image.length_of_exports.Goals as goal

pub returns : goal.returns
returns c =
    let these = subst (λ (xs : List ExportDef). HasLength (each export xs) c.length_of_each.result) c.as_slice.ensures c.length_of_each.ensures in
    two c.length_of_count-count.ensures these c.saturating_add.ensures

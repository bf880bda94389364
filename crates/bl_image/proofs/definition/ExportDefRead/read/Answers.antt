use Rattle.std.proofs.Common.{refl, ℕ, List}
use Rattle.bl_program.specs.declared.definitions.ExportDef.{ExportDef}
use Rattle.bl_format.specs.Image.{export}
use Rattle.bl_image.proofs.ReaderLemmas.{parts_passes, parts_read}
use Rattle.bl_image.proofs.definition.ExportDefRead.read.Goals as goal

-- the parts, one after another, and what they make up
abbrev parts : ExportDef → List ℕ × ℕ
parts one = (one.name, one.function)

abbrev whole : List ℕ × ℕ → ExportDef
whole p = record { name = p.0; function = p.1 }

pub returns-in_err-name : goal.returns-in_err-name
returns-in_err-name c = parts_passes export parts whole c.args.bytes.now c.args.at c.from_residual.result _ c.from_residual.ensures.1 c.in_err-name.ensures

pub returns : goal.returns
returns c = let read = c.in_ok-name in parts_read export parts whole c.args.bytes.now c.args.at read.place (record { name = read.name; function = read.function }) (λ y. refl) read.ensures

use Rattle.std.proofs.Common.{refl, ℕ}
use Rattle.bl_base.specs.declared.names.ValueType.{ValueType}
use Rattle.bl_base.specs.declared.names.Label.{Label}
use Rattle.bl_program.specs.declared.definitions.GlobalDef.{GlobalDef}
use Rattle.bl_format.specs.Image.{global}
use Rattle.bl_image.proofs.ReaderLemmas.{parts_fails, parts_read}
use Rattle.bl_image.proofs.definition.GlobalDefFind.find.Goals as goal

-- the parts, one after another, and what they make up
abbrev parts : GlobalDef → ValueType × (Label × ℕ)
parts one = (one.kind, (one.label, one.first))

abbrev whole : ValueType × (Label × ℕ) → GlobalDef
whole p = record { kind = p.0; label = p.1.0; first = p.1.1 }

pub returns-in_err-kind : goal.returns-in_err-kind
returns-in_err-kind c = parts_fails global parts whole c.args.bytes.now c.args.at c.from_residual.result _ c.from_residual.ensures.1 c.in_err-kind.ensures

pub returns : goal.returns
returns c = let read = c.in_ok-kind in parts_read global parts whole c.args.bytes.now c.args.at read.place (record { kind = read.kind; label = read.label; first = read.first }) (λ y. refl) read.ensures

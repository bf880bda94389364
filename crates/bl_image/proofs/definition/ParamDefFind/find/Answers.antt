use Rattle.std.proofs.Common.{refl}
use Rattle.bl_base.specs.declared.names.ValueType.{ValueType}
use Rattle.bl_base.specs.declared.names.Label.{Label}
use Rattle.bl_program.specs.declared.definitions.ParamDef.{ParamDef}
use Rattle.bl_format.specs.Image.{param}
use Rattle.bl_image.proofs.ReaderLemmas.{parts_fails, parts_read}
use Rattle.bl_image.proofs.definition.ParamDefFind.find.Goals as goal

-- the parts, one after another, and what they make up
abbrev parts : ParamDef → ValueType × Label
parts one = (one.kind, one.label)

abbrev whole : ValueType × Label → ParamDef
whole p = record { kind = p.0; label = p.1 }

pub returns-in_err-kind : goal.returns-in_err-kind
returns-in_err-kind c = parts_fails param parts whole c.args.bytes.now c.args.at c.from_residual.result _ c.from_residual.ensures.1 c.in_err-kind.ensures

pub returns : goal.returns
returns c = let read = c.in_ok-kind in parts_read param parts whole c.args.bytes.now c.args.at read.place (record { kind = read.kind; label = read.label }) (λ y. refl) read.ensures

use Rattle.std.proofs.Common.{refl, ℕ, List}
use Rattle.bl_base.specs.declared.names.ValueType.{ValueType}
use Rattle.bl_program.specs.declared.definitions.ParamDef.{ParamDef}
use Rattle.bl_program.specs.declared.definitions.FunctionDef.{FunctionDef}
use Rattle.bl_format.specs.Image.{function}
use Rattle.bl_image.proofs.ReaderLemmas.{parts_passes, parts_read}
use Rattle.bl_image.proofs.definition.FunctionDefRead.read.Goals as goal

-- the parts, one after another, and what they make up
abbrev parts : FunctionDef → List ParamDef × (List ValueType × (ℕ × ℕ))
parts one = (one.params, (one.results, (one.vars, one.length)))

abbrev whole : List ParamDef × (List ValueType × (ℕ × ℕ)) → FunctionDef
whole p = record { params = p.0; results = p.1.0; vars = p.1.1.0; length = p.1.1.1 }

pub returns-in_err-params : goal.returns-in_err-params
returns-in_err-params c = parts_passes function parts whole c.args.bytes.now c.args.at c.from_residual.result _ c.from_residual.ensures.1 c.in_err-params.ensures

pub returns : goal.returns
returns c = let read = c.in_ok-params in parts_read function parts whole c.args.bytes.now c.args.at read.place (record { params = read.params; results = read.results; vars = read.vars; length = read.length }) (λ y. refl) read.ensures

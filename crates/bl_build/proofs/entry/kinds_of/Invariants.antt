use Rattle.std.proofs.Common.{◌≡◌, ◌++◌, map, drop}
use Rattle.bl_program.specs.declared.definitions.ParamDef.{ParamDef}
use Rattle.bl_build.specs.EntryStages.{kinds_of}
use Rattle.bl_build.proofs.entry.kinds_of.Given as goal

abbrev pub invariant-loop-param : goal.invariant-loop-param
invariant-loop-param l = l.kinds.items ++ map (λ (param : ParamDef). param.kind) (drop l.param-index l.defined.params) ≡ kinds_of l.defined

use Rattle.std.proofs.Common.{◌≡◌, ◌++◌, map, drop}
use Rattle.bl_program.specs.declared.definitions.ParamDef.{ParamDef}
use Rattle.tests_starts.proofs.starts.kinds_of.Given as goal

abbrev pub invariant-loop-param : goal.invariant-loop-param
invariant-loop-param l = l.kinds.items ++ map (λ (p : ParamDef). p.kind) (drop l.param-index l.params) ≡ map (λ (p : ParamDef). p.kind) l.params

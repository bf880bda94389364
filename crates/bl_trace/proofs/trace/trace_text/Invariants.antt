use Rattle.std.proofs.Common.{◌≡◌, ◌++◌, ◌∷◌, [], take}
use Rattle.std.specs.List.{flat_map}
use Rattle.bl_trace.specs.Traces.{directive_text}
use Rattle.bl_trace.proofs.trace.trace_text.Given as goal

abbrev pub invariant-loop-directive : goal.invariant-loop-directive
invariant-loop-directive l = l.text.items ≡ flat_map (λ directive. directive_text directive ++ 10 ∷ []) (take l.directive-index l.directives)

use Rattle.std.proofs.Common.{◌≡◌, drop, length}
use Rattle.bl_base.specs.declared.quantity.Quantity.TheVariants.{Results}
use Rattle.bl_wasm.specs.Limits.{above, first_in}
use Rattle.bl_decode.proofs.limits.first_results.Given as goal

abbrev pub invariant-loop-kind : goal.invariant-loop-kind
invariant-loop-kind l = first_in (λ type. above Results (length type.results)) (drop l.kind-index l.types) ≡ first_in (λ type. above Results (length type.results)) l.types

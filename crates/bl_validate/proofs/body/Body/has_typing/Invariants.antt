use Rattle.std.proofs.Common.{◌≡◌, ◌↔◌, [], drop}
use Rattle.bl_wasm.proofs.BodyTypings.{Goes}
use Rattle.bl_validate.specs.Represents.{Represents}
use Rattle.bl_validate.specs.Scopes.{seen}
use Rattle.bl_validate.proofs.body.Body.has_typing.Given as goal

abbrev pub invariant-loop-item : goal.invariant-loop-item
invariant-loop-item l = Goes (seen l.self) (λ open_ones s. (open_ones ≡ []) × (s ≡ [])) l.items ↔ Goes (seen l.self) (λ open_ones s. Represents l.stacks open_ones s) (drop l.item-index l.items)

use Rattle.std.proofs.Common.{take}
use Rattle.std.specs.List.{All}
use Rattle.bl_wasm.specs.Linked.{HasImmediates}
use Rattle.bl_link.proofs.widths.read_bodies.Given as goal

abbrev pub invariant-loop-code : goal.invariant-loop-code
invariant-loop-code l = All (λ x. All HasImmediates x.items) (take l.code-index l.bodies)

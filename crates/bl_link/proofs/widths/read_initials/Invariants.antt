use Rattle.std.proofs.Common.{take}
use Rattle.std.specs.List.{All}
use Rattle.bl_wasm.specs.Linked.{HasImmediates}
use Rattle.bl_link.proofs.widths.read_initials.Given as goal

abbrev pub invariant-loop-global : goal.invariant-loop-global
invariant-loop-global l = All (λ x. All HasImmediates x.initial) (take l.global-index l.globals)

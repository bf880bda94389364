use Rattle.std.proofs.Common.{ℕ, ◌<◌}
use Rattle.bl_wasm.specs.Validity.{HasTyping}
use Rattle.bl_validate.proofs.verdict.first_without_typing.Given as goal

abbrev pub invariant-loop-number : goal.invariant-loop-number
invariant-loop-number l = (k : ℕ) → k < l.number → HasTyping l.tree k

-- Options as numbers.
use Rattle.std.proofs.Common.{◌≡◌, ◌+◌, ◌-◌, ◌<◌, ℕ, zero, suc, Some, ap, arith}
use Rattle.bl_flow.specs.Codes.{decoded}

pub decoded_some : (code : ℕ) → 0 < code → Some (code - 1) ≡ decoded code
decoded_some zero lt = absurd (omega arith)
decoded_some (suc k) lt = ap (λ x. Some x) (omega arith)

pub decoded_next : (k : ℕ) → decoded (k + 1) ≡ Some k
decoded_next k = let e : k + 1 ≡ suc k = omega arith in ap decoded e

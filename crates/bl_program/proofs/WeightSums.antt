-- The weight of all sites, summed one by one.
use Rattle.std.proofs.Common.{◌≡◌, ℕ, ◌+◌, ◌^◌, ◌<◌, ◌≤◌, length, min, Some, true, refl, ap, subst, arith}
use Rattle.std.specs.Prelude.{if◌then◌else◌, unwrap_or}
use Rattle.bl_base.specs.Sums.{sum_below}
use Rattle.bl_base.proofs.Sums.{sum_term}
use Rattle.bl_program.specs.Rules.{IsWellFormed}
use Rattle.bl_program.specs.Sites.{site_weight}
use Rattle.bl_program.specs.declared.definitions.ProgramParts.{ProgramParts as Program}
use Rattle.bl_program.proofs.Totals.{weight_next}

-- the sum over the positions before one
abbrev pub weight_below : Program → ℕ → ℕ
weight_below program at = sum_below at (λ s. if true then unwrap_or (site_weight program s) 0 else 0)

-- one site more
pub weight_more : (program parts : Program) (i total r : ℕ) → parts ≡ program → IsWellFormed program → i < length parts.commands → total ≡ weight_below program i → site_weight program i ≡ Some r
    → (total + r ≡ weight_below program (i + 1)) × (total + r < 2 ^ 63)
weight_more program parts i total r same well within is one =
    let lt = subst (λ (p : Program). i < length p.commands) same within in
    let term = sum_term (length program.commands) (λ k. unwrap_or (site_weight program k) 0) i lt in
    let value : unwrap_or (site_weight program i) 0 ≡ r = ap (λ o. unwrap_or o 0) one in
    weight_next program program (λ _. true) i total r refl well lt is (below (2 ^ 63) (unwrap_or (site_weight program i) 0) _ r value term well.rule9.total)
  where
    below : (limit w all r : ℕ) → w ≡ r → w ≤ all → all < limit → r ≡ min w limit
    below limit w all r value term total = omega arith

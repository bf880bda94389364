-- Properties that are decided: each holds, or it doesn't.
use Rattle.std.proofs.Common.{◌≡◌, ◌⊎◌, inl, inr, ℕ, zero, suc, ◌<◌, Bool, true, false, List, [], ◌∷◌, Option, Some, None, refl, sym, subst, arith}
use Rattle.std.specs.Prelude.{IsSomeAnd}
use Rattle.std.specs.List.{Contains}
use Rattle.std.proofs.lemmas.Bool.{false≢true, true≢false}
use Rattle.bl_base.proofs.Sums.{last_or_before}
use Rattle.bl_base.proofs.Members.{first_in, later_in, in_cases, none_in}

abbrev pub Decided : Type 0 → Type 0
Decided P = P ⊎ (P → ⊥)

-- a decision as a test
abbrev pub holds : {P : Type 0} → Decided P → Bool
holds (inl p) = true
holds (inr none) = false

pub holds_if : {P : Type 0} (d : Decided P) → P → holds d ≡ true
holds_if (inl p) q = refl
holds_if (inr none) q = absurd (none q)

pub if_holds : {P : Type 0} (d : Decided P) → holds d ≡ true → P
if_holds (inl p) e = p
if_holds (inr none) e = absurd (false≢true e)

pub decided_true : (b : Bool) → Decided (b ≡ true)
decided_true true = inl refl
decided_true false = inr false≢true

pub decided_false : (b : Bool) → Decided (b ≡ false)
decided_false true = inr true≢false
decided_false false = inl refl

module _ {P Q : Type 0} where
  pub decided_as : (P → Q) → (Q → P) → Decided P → Decided Q
  decided_as to from (inl p) = inl (to p)
  decided_as to from (inr none) = inr (λ q. none (from q))

  pub decided_either : Decided P → Decided Q → Decided (P ⊎ Q)
  decided_either (inl p) q = inl (inl p)
  decided_either (inr none) (inl q) = inl (inr q)
  decided_either (inr none) (inr without) = inr (λ h. elim h as (λ _. ⊥) [ inl p ↦ none p | inr q ↦ without q ])

  pub decided_both : Decided P → Decided Q → Decided (P × Q)
  decided_both (inl p) (inl q) = inl (p, q)
  decided_both (inl p) (inr without) = inr (λ h. without h.1)
  decided_both (inr none) q = inr (λ h. none h.0)

pub decided_three : {P Q R : Type 0} → Decided P → Decided Q → Decided R → Decided (P × Q × R)
decided_three p q r = decided_as (λ h. (h.0, h.1.0, h.1.1)) (λ h. (h.0, (h.1, h.2))) (decided_both p (decided_both q r))

-- of the numbers below one
pub decided_below : (n : ℕ) (P : ℕ → Type 0) → ((k : ℕ) → Decided (P k)) → Decided ((k : ℕ) × (k < n) × P k)
decided_below zero P each = inr (λ h. let lt = h.1 in omega arith)
decided_below (suc n) P each =
    decided_as (λ h. elim h as (λ _. (k : ℕ) × (k < suc n) × P k) [ inl some ↦ (some.0, let lt = some.1 in omega arith, some.2) | inr p ↦ (n, omega arith, p) ])
    (λ h. elim (last_or_before n h.0 h.1) as (λ _. ((k : ℕ) × (k < n) × P k) ⊎ P n) [ inl same ↦ inr (subst P same h.2) | inr less ↦ inl (h.0, less, h.2) ])
    (decided_either (decided_below n P each) (each n))

-- of the elements of a list
pub decided_in : {A : Type 0} (P : A → Type 0) → ((x : A) → Decided (P x)) → (xs : List A) → Decided ((x : A) × Contains xs x × P x)
decided_in P each [] = inr (λ h. none_in h.0 h.1)
decided_in {A} P each (x ∷ xs) =
    decided_as (λ h. elim h as (λ _. (y : A) × Contains (x ∷ xs) y × P y) [ inl p ↦ (x, first_in x xs, p) | inr some ↦ (some.0, later_in x some.0 xs some.1, some.2) ])
    (λ h. elim (in_cases x h.0 xs h.1) as (λ _. P x ⊎ ((y : A) × Contains xs y × P y)) [ inl e ↦ inl (subst P (sym e) h.2) | inr there ↦ inr (h.0, there, h.2) ])
    (decided_either (each x) (decided_in P each xs))

-- of what an option has
pub decided_some : {A : Type 0} (P : A → Type 0) → ((x : A) → Decided (P x)) → (o : Option A) → Decided (IsSomeAnd o P)
decided_some P each None = inr (λ h. h)
decided_some P each (Some x) = each x

-- How much flows through a site: one place of a path more.
use Rattle.std.proofs.Common.{◌≡◌, ◌∙◌, ℕ, ◌+◌, ◌-◌, ◌*◌, ◌^◌, ◌<◌, ◌≤◌, List, length, take, set, sym, ap, arith, inl, inr, min, nat_eq, slice_index}
use Rattle.std.specs.List.{count_by}
use Rattle.std.proofs.lemmas.Bool.{cases_eq, eq-eqb, ne_eqb}
use Rattle.std.proofs.lemmas.List.{get_or-set_same, get_or-set_other}
use Rattle.std.proofs.lemmas.List.Sums.{count_by_more_no, count_by_more_yes}
use Rattle.std.proofs.Math.Nat.{mul-add, mul-one}

cap_twice : (o a b m : ℕ) → min (min (o + a) m + b) m ≡ min (o + (a + b)) m
cap_twice o a b m = omega arith

module _ (old now sites : List ℕ) (i amount u : ℕ) (lt : i < length sites) (there : slice_index sites i ≡ u)
    (so_far : (s : ℕ) → s < length old → slice_index now s ≡ min (slice_index old s + amount * count_by (λ t. nat_eq t s) (take i sites)) (2 ^ 64 - 1)) where
  -- a place of the list
  pub add_more : u < length now → (r : ℕ) → r ≡ min (slice_index now u + amount) (2 ^ 64 - 1)
      → (s : ℕ) → s < length old → slice_index (set now u r) s ≡ min (slice_index old s + amount * count_by (λ t. nat_eq t s) (take (i + 1) sites)) (2 ^ 64 - 1)
  add_more within r is s below =
      let c : ℕ = count_by (λ t. nat_eq t s) (take i sites) in
      elim (cases_eq s u) as (λ _. slice_index (set now u r) s ≡ min (slice_index old s + amount * count_by (λ t. nat_eq t s) (take (i + 1) sites)) (2 ^ 64 - 1)) [
        | inl e ↦
            let value : slice_index (set now u r) s ≡ r = ap (slice_index (set now u r)) e ∙ get_or-set_same now u r 0 within in
            let before : slice_index now u ≡ min (slice_index old s + amount * c) (2 ^ 64 - 1) = ap (slice_index now) (sym e) ∙ so_far s below in
            let count = count_by_more_yes (λ t. nat_eq t s) sites i 0 lt (eq-eqb (slice_index sites i) s (there ∙ sym e)) in
            let product = ap (λ k. amount * k) count ∙ mul-add amount c 1 in
            let one = mul-one amount in
            let cap = cap_twice (slice_index old s) (amount * c) amount (2 ^ 64 - 1) in
            value ∙ is ∙ ap (λ k. min (k + amount) (2 ^ 64 - 1)) before ∙ cap ∙ ap (λ k. min (slice_index old s + k) (2 ^ 64 - 1)) (omega arith)
        | inr apart ↦
            let value : slice_index (set now u r) s ≡ slice_index now s = get_or-set_other now u s r 0 apart in
            let count = count_by_more_no (λ t. nat_eq t s) sites i 0 lt (ne_eqb (slice_index sites i) s (λ e. apart (sym e ∙ there))) in
            value ∙ so_far s below ∙ ap (λ k. min (slice_index old s + amount * k) (2 ^ 64 - 1)) (sym count)
      ]

  -- a place past it
  pub add_none : length old ≤ u
      → (s : ℕ) → s < length old → slice_index now s ≡ min (slice_index old s + amount * count_by (λ t. nat_eq t s) (take (i + 1) sites)) (2 ^ 64 - 1)
  add_none past s below =
      let count = count_by_more_no (λ t. nat_eq t s) sites i 0 lt (ne_eqb (slice_index sites i) s (λ e. omega arith)) in
      so_far s below ∙ ap (λ k. min (slice_index old s + amount * k) (2 ^ 64 - 1)) (sym count)

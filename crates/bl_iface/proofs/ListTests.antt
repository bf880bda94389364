-- Tests of a list's items, one by one.
use Rattle.std.proofs.Common.{◌≡◌, ℕ, ◌+◌, ◌<◌, ◌≤◌, List, length, take, get_or, refl, subst}
use Rattle.std.specs.List.{All}
use Rattle.std.proofs.lemmas.List.{take_all}
use Rattle.std.proofs.lemmas.List.Elements.{All-more}
use Rattle.std.proofs.lemmas.Option.{slice_get_read}
use Rattle.bl_iface.specs.Answers.{IsFirstWithout}

module _ {X : Type 0} (P : X → Type 0) (xs : List X) (i : ℕ) where
  -- one item more has a property
  pub all_step : (x : X) → i < length xs → x ≡ get_or xs i x → All P (take i xs) → P x → All P (take (i + 1) xs)
  all_step x lt is so_far here = All-more P xs i x lt so_far (subst P is here)

  -- all items have it
  pub all_done : length xs ≤ i → All P (take i xs) → All P xs
  all_done le so_far = subst (All P) (take_all i xs le) so_far

  -- one hasn't
  pub first_without : (x : X) → i < length xs → x ≡ get_or xs i x → All P (take i xs) → (P x → ⊥) → IsFirstWithout P xs i
  first_without x lt is so_far without = record { item = x; stands = slice_get_read xs (length xs) i x refl lt is; without = without; before = so_far }

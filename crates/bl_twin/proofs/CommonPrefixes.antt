-- The longest common prefix of two lists.
use Rattle.std.proofs.Common.{◌≡◌, ◌∙◌, Bool, true, false, List, [], ◌∷◌, ◌++◌, length, Some, None, slice_get, refl, sym, ap, subst, arith}
use Rattle.std.proofs.lemmas.Bool.{false≢true}
use Rattle.std.proofs.lemmas.Option.{none-some, slice_get_past, same_Some}
use Rattle.std.specs.Prelude.{◌↔◌, if◌then◌else◌}
use Rattle.bl_twin.specs.TwinComparisons.{IsLongestCommonPrefix, common_by}

module _ {O : Type 0} (alike : O → O → Bool) (decides : (x y : O) → alike x y ≡ true ↔ x ≡ y) where
  same_is : (x y : O) → alike x y ≡ true → x ≡ y
  same_is x y = (decides x y).0

  is_itself : (x : O) → alike x x ≡ true
  is_itself x = (decides x x).1 refl

  abbrev grown : Bool → O → List O → List O
  grown b x front = if b then x ∷ front else []

  -- a list has itself in common with itself
  pub common_self : (xs : List O) → common_by alike xs xs ≡ xs
  common_self [] = refl
  common_self (x ∷ xs) = ap (λ b. grown b x (common_by alike xs xs)) (is_itself x) ∙ ap (λ l. x ∷ l) (common_self xs)

  -- lists that both end where their common prefix does are equal
  ends_by : (b : Bool) (x y : O) (xs ys front : List O) → (b ≡ true → x ≡ y)
      → (slice_get xs (length front) ≡ None → slice_get ys (length front) ≡ None → xs ≡ ys)
      → slice_get (x ∷ xs) (length (grown b x front)) ≡ None → slice_get (y ∷ ys) (length (grown b x front)) ≡ None → x ∷ xs ≡ y ∷ ys
  ends_by true x y xs ys front same rest e f = ap (λ z. z ∷ xs) (same refl) ∙ ap (λ l. y ∷ l) (rest e f)
  ends_by false x y xs ys front same rest e f = absurd (none-some x (sym e))

  pub ends_equal : (xs ys : List O) → slice_get xs (length (common_by alike xs ys)) ≡ None → slice_get ys (length (common_by alike xs ys)) ≡ None → xs ≡ ys
  ends_equal [] [] e f = refl
  ends_equal [] (y ∷ ys) e f = absurd (none-some y (sym f))
  ends_equal (x ∷ xs) [] e f = absurd (none-some x (sym e))
  ends_equal (x ∷ xs) (y ∷ ys) e f = ends_by (alike x y) x y xs ys (common_by alike xs ys) (same_is x y) (ends_equal xs ys) e f

  -- equal lists both end there
  pub equal_ends : (xs ys : List O) → xs ≡ ys → slice_get xs (length (common_by alike xs ys)) ≡ None
  equal_ends xs ys e =
      subst (λ l. slice_get xs (length (common_by alike xs l)) ≡ None) e (slice_get_past xs (length (common_by alike xs xs)) (omega (arith, ap length (common_self xs))))

  pub equal_ends_other : (xs ys : List O) → xs ≡ ys → slice_get ys (length (common_by alike xs ys)) ≡ None
  equal_ends_other xs ys e = subst (λ l. slice_get l (length (common_by alike xs ys)) ≡ None) e (equal_ends xs ys e)

  -- and no observation stands behind it in both
  apart_by : (b : Bool) (x y z : O) (xs ys front : List O) → alike x y ≡ b
      → (slice_get xs (length front) ≡ Some z → slice_get ys (length front) ≡ Some z → ⊥)
      → slice_get (x ∷ xs) (length (grown b x front)) ≡ Some z → slice_get (y ∷ ys) (length (grown b x front)) ≡ Some z → ⊥
  apart_by true x y z xs ys front same rest e f = rest e f
  apart_by false x y z xs ys front same rest e f =
      let is = same_Some x z e ∙ sym (same_Some y z f) in
      false≢true (sym same ∙ ap (alike x) (sym is) ∙ is_itself x)

  pub apart : (xs ys : List O) (z : O) → slice_get xs (length (common_by alike xs ys)) ≡ Some z
      → slice_get ys (length (common_by alike xs ys)) ≡ Some z → ⊥
  apart [] ys z e f = none-some z e
  apart (x ∷ xs) [] z e f = none-some z f
  apart (x ∷ xs) (y ∷ ys) z e f = apart_by (alike x y) x y z xs ys (common_by alike xs ys) refl (apart xs ys z) e f

  -- ---- the longest front

  -- two lists don't begin alike
  abbrev DontBegin : List O → List O → Type 0
  DontBegin rest other = (x : O) (tail behind : List O) → rest ≡ x ∷ tail → other ≡ x ∷ behind → ⊥

  first_same : (a b : O) (xs ys : List O) → a ∷ xs ≡ b ∷ ys → a ≡ b
  first_same a b xs ys e = same_Some a b (ap (λ l. slice_get l 0) e)

  longer : (x : O) (front xs ys : List O) → IsLongestCommonPrefix front xs ys → IsLongestCommonPrefix (x ∷ front) (x ∷ xs) (x ∷ ys)
  longer x front xs ys h = record { rest = h.rest; other = h.other; one_is = ap (λ l. x ∷ l) h.one_is; other_is = ap (λ l. x ∷ l) h.other_is; ends = h.ends }

  grows : (b : Bool) (x y : O) (xs ys front : List O) → alike x y ≡ b → IsLongestCommonPrefix front xs ys
      → IsLongestCommonPrefix (grown b x front) (x ∷ xs) (y ∷ ys)
  grows true x y xs ys front same h = subst (λ z. IsLongestCommonPrefix (x ∷ front) (x ∷ xs) (z ∷ ys)) (same_is x y same) (longer x front xs ys h)
  grows false x y xs ys front same h = record {
    rest = x ∷ xs;
    other = y ∷ ys;
    one_is = refl;
    other_is = refl;
    ends = λ z tail behind e f.
        let is = first_same x z xs tail e ∙ sym (first_same y z ys behind f) in
        false≢true (sym same ∙ ap (alike x) (sym is) ∙ is_itself x);
  }

  pub longest : (xs ys : List O) → IsLongestCommonPrefix (common_by alike xs ys) xs ys
  longest [] ys = record { rest = []; other = ys; one_is = refl; other_is = refl; ends = λ x tail behind e f. omega (arith, ap length e) }
  longest (x ∷ xs) [] = record { rest = x ∷ xs; other = []; one_is = refl; other_is = refl; ends = λ z tail behind e f. omega (arith, ap length f) }
  longest (x ∷ xs) (y ∷ ys) = grows (alike x y) x y xs ys (common_by alike xs ys) refl (longest xs ys)

  -- and no other list is
  starts_alike : (b : Bool) (x y : O) (xs ys front : List O) → alike x y ≡ b → DontBegin (x ∷ xs) (y ∷ ys) → grown b x front ≡ []
  starts_alike true x y xs ys front same ends = absurd (ends x xs ys refl (ap (λ z. z ∷ ys) (sym (same_is x y same))))
  starts_alike false x y xs ys front same ends = refl

  none_common : (xs ys : List O) → DontBegin xs ys → common_by alike xs ys ≡ []
  none_common [] ys ends = refl
  none_common (x ∷ xs) [] ends = refl
  none_common (x ∷ xs) (y ∷ ys) ends = starts_alike (alike x y) x y xs ys (common_by alike xs ys) refl ends

  common_behind : (front rest other : List O) → DontBegin rest other → common_by alike (front ++ rest) (front ++ other) ≡ front
  common_behind [] rest other ends = none_common rest other ends
  common_behind (x ∷ front) rest other ends =
      ap (λ b. grown b x (common_by alike (front ++ rest) (front ++ other))) (is_itself x) ∙ ap (λ l. x ∷ l) (common_behind front rest other ends)

  pub is_longest : (xs ys front : List O) → common_by alike xs ys ≡ front ↔ IsLongestCommonPrefix front xs ys
  is_longest xs ys front = (
    λ e. subst (λ l. IsLongestCommonPrefix l xs ys) e (longest xs ys),
    λ h. ap (λ l. common_by alike l ys) h.one_is ∙ ap (common_by alike (front ++ h.rest)) h.other_is ∙ common_behind front h.rest h.other h.ends,
  )

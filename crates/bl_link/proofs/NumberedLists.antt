-- Lists of numbers beside lists of what they number.
use Rattle.std.proofs.Common.{◌≡◌, ◌∙◌, refl, ap, subst, ℕ, zero, suc, ◌+◌, List, [], ◌∷◌, ◌++◌, length, get_or, true, Bool, Option, Some, None, slice_get, filter_map, arith, add-zero}
use Rattle.std.specs.List.{AllZip, cons_option, range_with_len, enumerate_from}
use Rattle.bl_link.specs.ImportMatches.{passes}

pub by_place : {A : Type 0} (R : A → ℕ → Type 0) (xs : List A) (ys : List ℕ) → AllZip R xs ys → (i : ℕ) (x : A) → slice_get xs i ≡ Some x → R x (get_or ys i 0)
by_place R [] [] h i x found = absurd (cc)
by_place R [] (y ∷ ys) h i x found = absurd h
by_place R (a ∷ xs) [] h i x found = absurd h
by_place R (a ∷ xs) (y ∷ ys) h zero x found = let e : a ≡ x = cc in subst (λ a. R a y) e h.0
by_place R (a ∷ xs) (y ∷ ys) h (suc i) x found = by_place R xs ys h.1 i x found

pub zip_range : {A : Type 0} (R : A → ℕ → Type 0) (xs : List A) (base : ℕ) → ((i : ℕ) (x : A) → slice_get xs i ≡ Some x → R x (base + i)) → AllZip R xs (range_with_len base (length xs))
zip_range R [] base each = tt
zip_range R (x ∷ xs) base each = (
  subst (R x) (add-zero base) (each 0 x refl),
  zip_range R xs (base + 1) (λ i y found. let e : base + suc i ≡ base + 1 + i = omega arith in subst (R y) e (each (suc i) y found)),
)

-- ---- look-ups

pub get_left : {A : Type 0} (xs ys : List A) (i : ℕ) (x : A) → slice_get xs i ≡ Some x → slice_get (xs ++ ys) i ≡ Some x
get_left [] ys i x found = absurd (cc)
get_left (a ∷ xs) ys zero x found = found
get_left (a ∷ xs) ys (suc i) x found = get_left xs ys i x found

pub get_right : {A : Type 0} (xs ys : List A) (i : ℕ) → slice_get (xs ++ ys) (length xs + i) ≡ slice_get ys i
get_right [] ys i = let e : 0 + i ≡ i = omega arith in ap (slice_get ys) e
get_right (a ∷ xs) ys i = let e : length (a ∷ xs) + i ≡ suc (length xs + i) = omega arith in ap (slice_get (a ∷ (xs ++ ys))) e ∙ get_right xs ys i

pub get_numbered : {A : Type 0} (n : ℕ) (xs : List A) (i : ℕ) (x : A) → slice_get xs i ≡ Some x → slice_get (enumerate_from n xs) i ≡ Some (n + i, x)
get_numbered n [] i x found = absurd (cc)
get_numbered n (a ∷ xs) zero x found = let e : a ≡ x = cc in let z : n ≡ n + 0 = omega arith in ap (λ a. Some (n, a)) e ∙ ap (λ n. Some (n, x)) z
get_numbered n (a ∷ xs) (suc i) x found = let e : n + 1 + i ≡ n + suc i = omega arith in get_numbered (n + 1) xs i x found ∙ ap (λ n. Some (n, x)) e

-- ---- tests

pub passes_some : {A : Type 0} (test : A → Bool) (o : Option A) → passes test o ≡ true → (x : A) × (o ≡ Some x) × (test x ≡ true)
passes_some test None h = absurd (cc h)
passes_some test (Some x) h = (x, refl, h)

-- ---- results

-- what may stand beside another, by kinds: both or neither
abbrev pub Both : {A : Type 0} → (A → ℕ → Type 0) → Option A → Option ℕ → Type 0
Both R None None = Unit {0}
Both R (Some x) (Some n) = R x n
Both R None (Some n) = ⊥
Both R (Some x) None = ⊥

pub both_cons : {A : Type 0} (R : A → ℕ → Type 0) (o : Option A) (p : Option ℕ) (xs : List A) (ys : List ℕ) → Both R o p → AllZip R xs ys → AllZip R (cons_option o xs) (cons_option p ys)
both_cons R None None xs ys b h = h
both_cons R (Some x) (Some n) xs ys b h = (b, h)
both_cons R None (Some n) xs ys b h = absurd b
both_cons R (Some x) None xs ys b h = absurd b

pub zip_filtered : {A B C : Type 0} (S : B → C → Type 0) (R : A → ℕ → Type 0) (f : B → Option A) (g : C → Option ℕ)
    → ((b : B) (c : C) → S b c → Both R (f b) (g c)) → (bs : List B) (cs : List C) → AllZip S bs cs → AllZip R (filter_map f bs) (filter_map g cs)
zip_filtered S R f g each [] [] h = tt
zip_filtered S R f g each [] (c ∷ cs) h = absurd h
zip_filtered S R f g each (b ∷ bs) [] h = absurd h
zip_filtered S R f g each (b ∷ bs) (c ∷ cs) h = both_cons R (f b) (g c) (filter_map f bs) (filter_map g cs) (each b c h.0) (zip_filtered S R f g each bs cs h.1)

-- Sets of what labels name, one element after another.
use Rattle.std.proofs.Common.{◌≡◌, ◌∙◌, refl, sym, ap, subst, ℕ, ◌^◌, ◌<◌, ◌≤◌, ◌&&◌, List, [], ◌∷◌, ◌++◌, true, false, Bool, arith, ◌⊎◌, inl, inr}
use Rattle.std.specs.Prelude.{◌||◌, nat_eq}
use Rattle.std.specs.Cmp.{nat_cmp_total}
use Rattle.std.specs.FinSet.{FinSet, contains, empty, insert, contains-from_list, contains-empty, contains-from_list_nat, contains-insert}
use Rattle.std.specs.Ordering.{eq_by_cmp, nat_cmp}
use Rattle.std.proofs.lemmas.Bool.Decides.{eqb_tells}
use Rattle.std.proofs.lemmas.List.Folds.{list_any-append}
use Rattle.bl_labels.specs.LabelSets.{HoldsNumbers, HoldsPlaces, key}
use Rattle.bl_labels.specs.LabelledPlaces.{is_listed, is_place}
use Rattle.bl_labels.specs.declared.labels.Place.{Place}

-- ---- tests of numbers

or_none : (a b : Bool) → (a || false) ≡ (b || false) → a ≡ b
or_none true true h = refl
or_none true false h = absurd (cc h)
or_none false true h = absurd (cc h)
or_none false false h = refl

or_turned : (a b : Bool) → (a || b) ≡ (b || (a || false))
or_turned true true = refl
or_turned true false = refl
or_turned false true = refl
or_turned false false = refl

-- the order's own test of numbers
same_key : (q k : ℕ) → eq_by_cmp nat_cmp q k ≡ nat_eq k q
same_key q k = or_none (eq_by_cmp nat_cmp q k) (nat_eq k q) (sym (contains-from_list nat_cmp_total (k ∷ []) q) ∙ contains-from_list_nat (k ∷ []) q)

turned : (a b : ℕ) → nat_eq a b ≡ nat_eq b a
turned a b = by_cases (eqb_tells a b) (eqb_tells b a)
  where
    by_cases : ((nat_eq a b ≡ true) × (a ≡ b)) ⊎ ((nat_eq a b ≡ false) × (a ≡ b → ⊥)) → ((nat_eq b a ≡ true) × (b ≡ a)) ⊎ ((nat_eq b a ≡ false) × (b ≡ a → ⊥)) → nat_eq a b ≡ nat_eq b a
    by_cases (inl h) (inl k) = h.0 ∙ sym k.0
    by_cases (inl h) (inr k) = absurd (k.1 (sym h.1))
    by_cases (inr h) (inl k) = absurd (h.1 (sym k.1))
    by_cases (inr h) (inr k) = h.0 ∙ sym k.0

-- the numbers of two places are one where the places are
key_is : (f i g j : ℕ) → i < 2 ^ 32 → j < 2 ^ 32 → nat_eq (key g j) (key f i) ≡ (nat_eq f g && nat_eq i j)
key_is f i g j one two = by_cases (eqb_tells (key g j) (key f i)) (eqb_tells f g) (eqb_tells i j)
  where
    by_cases : ((nat_eq (key g j) (key f i) ≡ true) × (key g j ≡ key f i)) ⊎ ((nat_eq (key g j) (key f i) ≡ false) × (key g j ≡ key f i → ⊥))
        → ((nat_eq f g ≡ true) × (f ≡ g)) ⊎ ((nat_eq f g ≡ false) × (f ≡ g → ⊥))
        → ((nat_eq i j ≡ true) × (i ≡ j)) ⊎ ((nat_eq i j ≡ false) × (i ≡ j → ⊥)) → nat_eq (key g j) (key f i) ≡ (nat_eq f g && nat_eq i j)
    by_cases (inl h) (inl k) (inl m) = rw (h.0, k.0, m.0) refl
    by_cases (inl h) (inl k) (inr m) = absurd (m.1 (omega (arith, h.1, k.1, one, two)))
    by_cases (inl h) (inr k) m = absurd (k.1 (omega (arith, h.1, one, two)))
    by_cases (inr h) (inl k) (inl m) = absurd (h.1 (omega (arith, k.1, m.1)))
    by_cases (inr h) (inl k) (inr m) = rw (h.0, k.0, m.0) refl
    by_cases (inr h) (inr k) m = rw (h.0, k.0) refl

-- ---- one element more

pub no_places : {set : FinSet nat_cmp} → set ≡ empty → HoldsPlaces set []
no_places none = record { near = λ function index below. ap (λ s. contains s (key function index)) none ∙ contains-empty nat_cmp (key function index); far = λ function index far. refl }

pub no_numbers : {set : FinSet nat_cmp} → set ≡ empty → HoldsNumbers set []
no_numbers none = record { is = λ number. ap (λ s. contains s number) none ∙ contains-empty nat_cmp number }

far_other : (i j : ℕ) → 2 ^ 32 ≤ i → j < 2 ^ 32 → nat_eq i j ≡ false
far_other i j far near = by_cases (eqb_tells i j)
  where
    by_cases : ((nat_eq i j ≡ true) × (i ≡ j)) ⊎ ((nat_eq i j ≡ false) × (i ≡ j → ⊥)) → nat_eq i j ≡ false
    by_cases (inl h) = absurd (omega (arith, h.1, far, near))
    by_cases (inr h) = h.0

and_false : (a b : Bool) → b ≡ false → (a && b) ≡ false
and_false true b h = h
and_false false b h = refl

pub place_more : (set : FinSet nat_cmp) (places : List Place) (place : Place) → place.index < 2 ^ 32 → HoldsPlaces set places → HoldsPlaces (insert set (key place.function place.index)) (places ++ place ∷ [])
place_more set places place width h = record {
  near = λ function index below.
      contains-insert nat_cmp_total set (key place.function place.index) (key function index)
      ∙ ap (λ b. b || contains set (key function index)) (same_key (key function index) (key place.function place.index) ∙ key_is function index place.function place.index below width)
      ∙ ap (λ b. (nat_eq function place.function && nat_eq index place.index) || b) (h.near function index below)
      ∙ or_turned (nat_eq function place.function && nat_eq index place.index) (is_place places function index)
      ∙ sym (list_any-append (λ (p : Place). nat_eq function p.function && nat_eq index p.index) places (place ∷ []));
  far = λ function index far.
      list_any-append (λ (p : Place). nat_eq function p.function && nat_eq index p.index) places (place ∷ [])
      ∙ ap (λ b. b || ((nat_eq function place.function && nat_eq index place.index) || false)) (h.far function index far)
      ∙ ap (λ b. false || (b || false)) (and_false (nat_eq function place.function) (nat_eq index place.index) (far_other index place.index far width));
}

pub number_more : (set : FinSet nat_cmp) (numbers : List ℕ) (number : ℕ) → HoldsNumbers set numbers → HoldsNumbers (insert set number) (numbers ++ number ∷ [])
number_more set numbers number h = record {
  is = λ other.
      contains-insert nat_cmp_total set number other
      ∙ ap (λ b. b || contains set other) (same_key other number ∙ turned number other)
      ∙ ap (λ b. nat_eq other number || b) (h.is other)
      ∙ or_turned (nat_eq other number) (is_listed numbers other)
      ∙ sym (list_any-append (nat_eq other) numbers (number ∷ []));
}

-- ---- a list with its set

pub places_none : (set : FinSet nat_cmp) (list : List Place) → set ≡ empty → list ≡ [] → HoldsPlaces set list
places_none set list none bare = subst (HoldsPlaces set) (sym bare) (no_places none)

pub numbers_none : (set : FinSet nat_cmp) (list : List ℕ) → set ≡ empty → list ≡ [] → HoldsNumbers set list
numbers_none set list none bare = subst (HoldsNumbers set) (sym bare) (no_numbers none)

pub places_with : (old new : FinSet nat_cmp) (list made : List Place) (place : Place) (number : ℕ) → place.index < 2 ^ 32 → HoldsPlaces old list → number ≡ key place.function place.index → new ≡ insert old number
    → made ≡ list ++ place ∷ [] → HoldsPlaces new made
places_with old new list made place number width held is added pushed =
    subst (HoldsPlaces new) (sym pushed) (subst (λ s. HoldsPlaces s (list ++ place ∷ [])) (sym (added ∙ ap (insert old) is)) (place_more old list place width held))

pub numbers_with : (old new : FinSet nat_cmp) (list made : List ℕ) (number : ℕ) → HoldsNumbers old list → new ≡ insert old number → made ≡ list ++ number ∷ [] → HoldsNumbers new made
numbers_with old new list made number held added pushed =
    subst (HoldsNumbers new) (sym pushed) (subst (λ s. HoldsNumbers s (list ++ number ∷ [])) (sym added) (number_more old list number held))

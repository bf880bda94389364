-- Lists that gather what fits, item by item.
use Rattle.std.proofs.Common.{◌≡◌, ◌↔◌, ◌⊎◌, inl, inr, ℕ, ◌+◌, ◌<◌, ◌≤◌, List, [], ◌∷◌, ◌++◌, length, slice_get, Some, sym, ap, subst, ◌∙◌, arith}
use Rattle.std.specs.List.{Contains}
use Rattle.std.proofs.lemmas.Bool.{cases_lt}
use Rattle.std.proofs.lemmas.List.Elements.{Contains-push_cases, Contains-append_left, Contains-push}
use Rattle.std.proofs.lemmas.Option.{slice_get_within, same_Some}
use Rattle.bl_base.proofs.Members.{none_in}
use Rattle.bl_ct.specs.Facts.{Gathers, SomeAt}

-- it fits one of the first so many items
abbrev pub Below : {A X : Type 0} → List A → (ℕ → A → X → Type 0) → ℕ → X → Type 0
Below {A = A} items Fits n x = (place : ℕ) × (place < n) × (item : A) × (slice_get items place ≡ Some item) × Fits place item x

module _ {X : Type 0} where
  -- nothing fits
  pub gathers_nothing : (Fits : X → Type 0) (xs : List X) → ((x : X) → Fits x → ⊥) → Gathers Fits xs xs
  gathers_nothing Fits xs none = record {
    each = λ x. ((λ h. inl h), (λ h. elim h as (λ _. Contains xs x) [ inl there ↦ there | inr fits ↦ absurd (none x fits) ]));
  }

  -- what fits is one that stands behind
  pub gathers_one : (Fits : X → Type 0) (old new : List X) (y : X) → new ≡ old ++ y ∷ [] → ((x : X) → Fits x ↔ (y ≡ x)) → Gathers Fits old new
  gathers_one Fits old new y is only = subst (Gathers Fits old) (sym is) (record {
    each = λ x. (
      (λ h. elim (Contains-push_cases old y x h) as (λ _. Contains old x ⊎ Fits x) [ inl there ↦ inl there | inr e ↦ inr ((only x).1 e) ]),
      (λ h. elim h as (λ _. Contains (old ++ y ∷ []) x) [
        | inl there ↦ Contains-append_left old (y ∷ []) x there
        | inr fits ↦ subst (Contains (old ++ y ∷ [])) ((only x).0 fits) (Contains-push old y)
      ]),
    );
  })

  -- the same with another word for what fits
  pub gathers_as : (Fits Other : X → Type 0) (old new : List X) → ((x : X) → Fits x ↔ Other x) → Gathers Fits old new → Gathers Other old new
  gathers_as Fits Other old new same all = record {
    each = λ x. (
      (λ h. elim ((all.each x).0 h) as (λ _. Contains old x ⊎ Other x) [ inl there ↦ inl there | inr fits ↦ inr ((same x).0 fits) ]),
      (λ h. (all.each x).1 (elim h as (λ _. Contains old x ⊎ Fits x) [ inl there ↦ inl there | inr fits ↦ inr ((same x).1 fits) ])),
    );
  }

  -- one after the other
  pub gathers_both : (One Two : X → Type 0) (a b c : List X) → Gathers One a b → Gathers Two b c → Gathers (λ x. One x ⊎ Two x) a c
  gathers_both One Two a b c one two = record {
    each = λ x. (
      (λ h. elim ((two.each x).0 h) as (λ _. Contains a x ⊎ (One x ⊎ Two x)) [
        | inl there ↦ elim ((one.each x).0 there) as (λ _. Contains a x ⊎ (One x ⊎ Two x)) [ inl before ↦ inl before | inr fits ↦ inr (inl fits) ]
        | inr fits ↦ inr (inr fits)
      ]),
      (λ h. (two.each x).1 (elim h as (λ _. Contains b x ⊎ Two x) [
        | inl before ↦ inl ((one.each x).1 (inl before))
        | inr fits ↦ elim fits as (λ _. Contains b x ⊎ Two x) [ inl first ↦ inl ((one.each x).1 (inr first)) | inr second ↦ inr second ]
      ])),
    );
  }

  -- from nothing on, a list has exactly what fits
  pub gathered : (Fits : X → Type 0) (all : List X) → Gathers Fits [] all → (x : X) → Contains all x ↔ Fits x
  gathered Fits all gathers x = (
    (λ h. elim ((gathers.each x).0 h) as (λ _. Fits x) [ inl there ↦ absurd (none_in x there) | inr fits ↦ fits ]),
    (λ fits. (gathers.each x).1 (inr fits)),
  )

module _ {A X : Type 0} (items : List A) (Fits : ℕ → A → X → Type 0) where
  pub gathers_begin : (xs : List X) → Gathers (Below items Fits 0) xs xs
  gathers_begin xs = gathers_nothing (Below items Fits 0) xs (λ x h. absurd (let lt = h.1 in omega arith))

  next_below : (n : ℕ) (item : A) → slice_get items n ≡ Some item → (x : X) → (Below items Fits n x ⊎ Fits n item x) ↔ Below items Fits (n + 1) x
  next_below n item is x = (
    (λ h. elim h as (λ _. Below items Fits (n + 1) x) [
      | inl low ↦ (low.0, let less = low.1 in omega arith, low.2, low.3, low.4)
      | inr here ↦ (n, omega arith, item, is, here)
    ]),
    (λ h. elim (cases_lt h.0 n) as (λ _. Below items Fits n x ⊎ Fits n item x) [
      | inl less ↦ inl (h.0, less, h.2, h.3, h.4)
      | inr more ↦
          let high = h.1 in
          let place : h.0 ≡ n = omega arith in
          let same : h.2 ≡ item =
          same_Some h.2 item (sym h.3 ∙ ap (slice_get items) place ∙ is) in
          inr (subst (λ k. Fits k item x) place (subst (λ i. Fits h.0 i x) same h.4))
    ]),
  )

  all_below : (n : ℕ) → length items ≤ n → (x : X) → Below items Fits n x ↔ SomeAt items Fits x
  all_below n past x = (
    (λ h. (h.0, h.2, h.3, h.4)),
    (λ h. (h.0, let lt = slice_get_within items h.0 h.1 h.2 in omega arith, h.1, h.2, h.3)),
  )

  -- one item more
  pub gathers_next : (n : ℕ) (item : A) (a b c : List X) → slice_get items n ≡ Some item → Gathers (Fits n item) b c → Gathers (Below items Fits n) a b
      → Gathers (Below items Fits (n + 1)) a c
  gathers_next n item a b c is step before =
      gathers_as (λ x. Below items Fits n x ⊎ Fits n item x) (Below items Fits (n + 1)) a c (next_below n item is)
      (gathers_both (Below items Fits n) (Fits n item) a b c before step)

  -- all items
  pub gathers_end : (n : ℕ) (a b : List X) → length items ≤ n → Gathers (Below items Fits n) a b → Gathers (SomeAt items Fits) a b
  gathers_end n a b past all = gathers_as (Below items Fits n) (SomeAt items Fits) a b (all_below n past) all

  -- the same behind what fitted before
  module _ (First : X → Type 0) where
    pub behind_begin : (a b : List X) → Gathers First a b → Gathers (λ x. First x ⊎ Below items Fits 0 x) a b
    behind_begin a b first = gathers_both First (Below items Fits 0) a b b first (gathers_begin b)

    pub behind_next : (n : ℕ) (item : A) (a b c : List X) → slice_get items n ≡ Some item → Gathers (Fits n item) b c
        → Gathers (λ x. First x ⊎ Below items Fits n x) a b → Gathers (λ x. First x ⊎ Below items Fits (n + 1) x) a c
    behind_next n item a b c is step before =
        gathers_as (λ x. (First x ⊎ Below items Fits n x) ⊎ Fits n item x) (λ x. First x ⊎ Below items Fits (n + 1) x) a c
        (λ x. let same = next_below n item is x in (
          (λ h. elim h as (λ _. First x ⊎ Below items Fits (n + 1) x) [
            | inl before ↦ elim before as (λ _. First x ⊎ Below items Fits (n + 1) x) [ inl first ↦ inl first | inr low ↦ inr (same.0 (inl low)) ]
            | inr here ↦ inr (same.0 (inr here))
          ]),
          (λ h. elim h as (λ _. (First x ⊎ Below items Fits n x) ⊎ Fits n item x) [
            | inl first ↦ inl (inl first)
            | inr low ↦ elim (same.1 low) as (λ _. (First x ⊎ Below items Fits n x) ⊎ Fits n item x) [
              | inl less ↦ inl (inr less)
              | inr here ↦ inr here
            ]
          ]),
        ))
        (gathers_both (λ x. First x ⊎ Below items Fits n x) (Fits n item) a b c before step)

    pub behind_end : (n : ℕ) (a b : List X) → length items ≤ n → Gathers (λ x. First x ⊎ Below items Fits n x) a b
        → Gathers (λ x. First x ⊎ SomeAt items Fits x) a b
    behind_end n a b past all =
        gathers_as (λ x. First x ⊎ Below items Fits n x) (λ x. First x ⊎ SomeAt items Fits x) a b
        (λ x. let same = all_below n past x in (
          (λ h. elim h as (λ _. First x ⊎ SomeAt items Fits x) [ inl first ↦ inl first | inr low ↦ inr (same.0 low) ]),
          (λ h. elim h as (λ _. First x ⊎ Below items Fits n x) [ inl first ↦ inl first | inr some ↦ inr (same.1 some) ]),
        ))
        all

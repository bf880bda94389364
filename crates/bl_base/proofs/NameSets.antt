-- Things of names of their own, read one by one beside the set of their names.
use Rattle.std.proofs.Common.{◌≡◌, ◌∙◌, sym, ap, refl, subst, ℕ, zero, suc, ◌+◌, ◌<◌, ◌++◌, ◌⊎◌, inl, inr, List, [], ◌∷◌, length, take, get_or, Bool, true, false, not, ◌||◌, Some, slice_get, arith, Bor, BTreeSet, Ordering}
use Rattle.std.specs.List.{list_any}
use Rattle.std.specs.Ordering.{nat_cmp, is_eq}
use Rattle.std.specs.Cmp.{Equal-is}
use Rattle.std.specs.Cmp.Lexicographic.{slice_cmp}
use Rattle.std.specs.BTreeSet as sorted
use Rattle.std.proofs.lemmas.Cmp.{nat_list_cmp_total, eq_by_cmp_equiv}
use Rattle.std.proofs.lemmas.Map.Lookups.{exact_bytes}
use Rattle.std.proofs.lemmas.Map.Keys.{any_passes_from_place}
use Rattle.std.proofs.lemmas.List.{take_more, get_or-take, length-take}
use Rattle.std.proofs.lemmas.List.Folds.{list_any_more, Any-from_list_any}
use Rattle.std.proofs.lemmas.Option.{slice_get_read}
use Rattle.bl_base.proofs.Lists.{pushed_get}

-- the order of the set
abbrev pub by_bytes : Bor (List ℕ) → Bor (List ℕ) → Ordering
by_bytes a b = slice_cmp nat_cmp a.now b.now

-- a name is itself
named_itself : (a : List ℕ) → is_eq (slice_cmp nat_cmp a a) ≡ true
named_itself a = (eq_by_cmp_equiv nat_list_cmp_total).refl a

-- which way a name is compared
named_back : (a b : List ℕ) → is_eq (slice_cmp nat_cmp a b) ≡ is_eq (slice_cmp nat_cmp b a)
named_back a b = (eq_by_cmp_equiv nat_list_cmp_total).symm a b

-- equal names are one
named_same : (a b : List ℕ) → is_eq (slice_cmp nat_cmp a b) ≡ true → a ≡ b
named_same a b same = exact_bytes a b ((Equal-is (slice_cmp nat_cmp a b)).0 same)

module _ {A : Type 0} (of : A → List ℕ) where
  -- no two have one name
  abbrev pub AreApart : List A → Type 0
  AreApart items = (i j : ℕ) (a b : A) → slice_get items i ≡ Some a → slice_get items j ≡ Some b → of a ≡ of b → i ≡ j

  -- whether one has the name
  abbrev pub is_named : List ℕ → A → Bool
  is_named name entry = is_eq (slice_cmp nat_cmp name (of entry))

  -- they have names of their own, and the set has those
  pub record Collects (items : List A) (names : BTreeSet (Bor (List ℕ))) : Type 0 where
    pub distinct : AreApart items
    pub has : (q : Bor (List ℕ)) → sorted.contains by_bytes names q ≡ list_any (is_named q.now) items

  -- none has the name
  unnamed : (xs : List A) (name : List ℕ) → list_any (is_named name) xs ≡ false → (i : ℕ) (a : A) → slice_get xs i ≡ Some a → of a ≡ name → ⊥
  unnamed xs name none i a found same =
      let passes : is_named name a ≡ true = rw same (named_itself name) in
      let any : list_any (is_named name) xs ≡ true = any_passes_from_place (is_named name) xs i a found passes in
      cc

  -- one more, of a new name
  distinct_push : (xs : List A) (entry : A) → AreApart xs → list_any (is_named (of entry)) xs ≡ false → AreApart (xs ++ entry ∷ [])
  distinct_push xs entry distinct none i j a b first second same =
      elim (pushed_get xs entry i a first) as (λ _. i ≡ j) [
        | inl before ↦ elim (pushed_get xs entry j b second) as (λ _. i ≡ j) [
          | inl also ↦ distinct i j a b before also same
          | inr last ↦ absurd (unnamed xs (of entry) none i a before (same ∙ ap (λ (x : A). of x) (sym last.1)))
        ]
        | inr last ↦ elim (pushed_get xs entry j b second) as (λ _. i ≡ j) [
          | inl also ↦ absurd (unnamed xs (of entry) none j b also (sym same ∙ ap (λ (x : A). of x) (sym last.1)))
          | inr both ↦ last.0 ∙ sym both.0
        ]
      ]

  -- nothing
  pub collects_none : (names : BTreeSet (Bor (List ℕ))) → sorted.IsEmpty names → Collects [] names
  collects_none names none = record {
    distinct = λ i j a b first second same. absurd (cc);
    has = λ q. rw none refl;
  }

  -- one more, of a name that the set doesn't have
  pub collects_more : (items : List A) (i : ℕ) (entry : A) (names new : BTreeSet (Bor (List ℕ))) (key : Bor (List ℕ)) → i < length items → entry ≡ get_or items i entry → key.now ≡ (of entry) → Collects (take i items) names → true ≡ not (sorted.contains by_bytes names key) → sorted.Updates by_bytes names new key true → Collects (take (i + 1) items) new
  collects_more items i entry names new key below is named so_far added updates =
      let absent : sorted.contains by_bytes names key ≡ false = grind arith in
      let none : list_any (is_named (of entry)) (take i items) ≡ false = subst (λ (n : List ℕ). list_any (is_named n) (take i items) ≡ false) named (sym (so_far.has key) ∙ absent) in
      record {
        distinct = rw (take_more items i entry below ∙ ap (λ (x : A). take i items ++ x ∷ []) (sym is)) (distinct_push (take i items) entry so_far.distinct none);
        has = λ q.
            let more : list_any (is_named q.now) (take (i + 1) items) ≡ (list_any (is_named q.now) (take i items) || is_named q.now entry) = list_any_more (is_named q.now) items i entry below ∙ ap (λ (x : A). list_any (is_named q.now) (take i items) || is_named q.now x) (sym is) in
            let back : is_eq (slice_cmp nat_cmp key.now q.now) ≡ is_named q.now entry = named_back key.now q.now ∙ ap (λ (n : List ℕ). is_eq (slice_cmp nat_cmp q.now n)) named in
            grind (arith, more, back, updates.0 q, so_far.has q);
      }

  -- one more, of a name that the set has
  pub collects_twice : (items : List A) (i : ℕ) (entry : A) (names : BTreeSet (Bor (List ℕ))) (key : Bor (List ℕ)) → i < length items → entry ≡ get_or items i entry → key.now ≡ (of entry) → Collects (take i items) names → false ≡ not (sorted.contains by_bytes names key) → AreApart items → ⊥
  collects_twice items i entry names key below is named so_far added distinct =
      let present : sorted.contains by_bytes names key ≡ true = grind arith in
      let any = Any-from_list_any (is_named key.now) (take i items) (sym (so_far.has key) ∙ present) in
      let within : any.0 < i = omega (arith, length-take i items, any.2) in
      let one : slice_get items any.0 ≡ Some any.1 = slice_get_read items (length items) any.0 any.1 refl (omega arith) (sym any.3 ∙ get_or-take i items any.0 any.1 within) in
      let two : slice_get items i ≡ Some entry = slice_get_read items (length items) i entry refl below is in
      let same : any.0 ≡ i = distinct any.0 i any.1 entry one two (sym (named_same key.now (of any.1) any.4) ∙ named) in
      absurd (omega arith)

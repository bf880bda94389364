-- Names of exported functions: a part's name, a solidus, the export's name.
use Rattle.std.proofs.Common.{◌≡◌, ◌∙◌, refl, sym, ap, ℕ, zero, suc, ◌+◌, List, [], ◌∷◌, ◌++◌, length, map, drop, get_or, Option, Some, None, slice_get, filter_map, arith, ◌⊎◌, inl, inr}
use Rattle.std.specs.List.{cons_option}
use Rattle.std.proofs.lemmas.List.{append_cancel_left}
use Rattle.std.proofs.lemmas.List.Elements.{All-head, All-tail}
use Rattle.std.proofs.Math.Nat.{suc_inj}
use Rattle.bl_base.proofs.Lists.{mapped_get}
use Rattle.bl_wasm.specs.Exports.{Pairs, AreDistinct}
use Rattle.bl_link.specs.Linkable.{NoSolidus}
use Rattle.bl_link.specs.Stores.{AreApart}

-- ---- what was filtered

pub record Came {A B : Type 0} (h : A → Option B) (xs : List A) (b : B) : Type 0 where
  pub place : ℕ
  pub source : A
  pub found : slice_get xs place ≡ Some source
  pub gave : h source ≡ Some b

later_came : {A B : Type 0} (h : A → Option B) (x : A) (xs : List A) (b : B) → Came h xs b → Came h (x ∷ xs) b
later_came h x xs b c = record { place = suc c.place; source = c.source; found = c.found; gave = c.gave }

came_by : {A B : Type 0} (h : A → Option B) (x : A) (xs : List A) (b : B) → ((i : ℕ) → slice_get (filter_map h xs) i ≡ Some b → Came h xs b)
    → (o : Option B) (i : ℕ) → h x ≡ o → slice_get (cons_option o (filter_map h xs)) i ≡ Some b → Came h (x ∷ xs) b
came_by h x xs b again None i e found = later_came h x xs b (again i found)
came_by h x xs b again (Some a) zero e found = record { place = 0; source = x; found = refl; gave = e ∙ found }
came_by h x xs b again (Some a) (suc i) e found = later_came h x xs b (again i found)

pub came : {A B : Type 0} (h : A → Option B) (xs : List A) (i : ℕ) (b : B) → slice_get (filter_map h xs) i ≡ Some b → Came h xs b
came h [] i b found = absurd (cc)
came h (x ∷ xs) i b found = came_by h x xs b (λ j f. came h xs j b f) (h x) i refl found

-- ---- distinct names

absent_cons : (these : List ℕ) (pair : List ℕ × ℕ) (pairs : Pairs) → AreDistinct pairs → ((i : ℕ) (b : List ℕ × ℕ) → slice_get pairs i ≡ Some b → pair.0 ≡ b.0 → ⊥) → AreDistinct (pair ∷ pairs)
absent_cons these pair pairs distinct absent zero zero a b first second same = refl
absent_cons these pair pairs distinct absent zero (suc j) a b first second same = let e : pair ≡ a = cc in absurd (absent j b second (ap (λ (q : List ℕ × ℕ). q.0) e ∙ same))
absent_cons these pair pairs distinct absent (suc i) zero a b first second same = let e : pair ≡ b = cc in absurd (absent i a first (ap (λ (q : List ℕ × ℕ). q.0) e ∙ sym same))
absent_cons these pair pairs distinct absent (suc i) (suc j) a b first second same = ap suc (distinct i j a b first second same)

distinct_by : {A : Type 0} (name : A → List ℕ) (h : A → Option (List ℕ × ℕ)) → ((x : A) (a : List ℕ × ℕ) → h x ≡ Some a → (y : A) (b : List ℕ × ℕ) → h y ≡ Some b → a.0 ≡ b.0 → name x ≡ name y)
    → (x : A) (xs : List A) → AreApart name (x ∷ xs) → AreDistinct (filter_map h xs) → (o : Option (List ℕ × ℕ)) → h x ≡ o → AreDistinct (cons_option o (filter_map h xs))
distinct_by name h named x xs apart again None e = again
distinct_by name h named x xs apart again (Some a) e = absent_cons [] a (filter_map h xs) again (λ i b found same.
    let c = came h xs i b found in
    let clash : 0 ≡ suc c.place = apart 0 (suc c.place) x c.source refl c.found (named x a e c.source b c.gave same) in
    omega (arith, clash))

-- names that are distinct before are distinct behind
pub distinct_filtered : {A : Type 0} (name : A → List ℕ) (h : A → Option (List ℕ × ℕ)) → ((x : A) (a : List ℕ × ℕ) → h x ≡ Some a → (y : A) (b : List ℕ × ℕ) → h y ≡ Some b → a.0 ≡ b.0 → name x ≡ name y)
    → (xs : List A) → AreApart name xs → AreDistinct (filter_map h xs)
distinct_filtered name h named [] apart = λ i j a b first second same. absurd (cc)
distinct_filtered name h named (x ∷ xs) apart =
    distinct_by name h named x xs apart (distinct_filtered name h named xs (λ i j a b first second same. suc_inj (apart (suc i) (suc j) a b first second same))) (h x) refl

-- ---- of two lists

pub record Behind {A : Type 0} (xs ys : List A) (i : ℕ) (a : A) : Type 0 where
  pub place : ℕ
  pub is : i ≡ length xs + place
  pub found : slice_get ys place ≡ Some a

pub either_part : {A : Type 0} (xs ys : List A) (i : ℕ) (a : A) → slice_get (xs ++ ys) i ≡ Some a → (slice_get xs i ≡ Some a) ⊎ Behind xs ys i a
either_part [] ys i a found = inr (record { place = i; is = omega arith; found = found })
either_part (x ∷ xs) ys zero a found = inl found
either_part (x ∷ xs) ys (suc i) a found = one_more x xs ys i a (either_part xs ys i a found)
  where
    one_more : {A : Type 0} (x : A) (xs ys : List A) (i : ℕ) (a : A) → (slice_get xs i ≡ Some a) ⊎ Behind xs ys i a → (slice_get (x ∷ xs) (suc i) ≡ Some a) ⊎ Behind (x ∷ xs) ys (suc i) a
    one_more x xs ys i a (inl h) = inl h
    one_more x xs ys i a (inr h) = inr (record { place = h.place; is = omega (arith, h.is); found = h.found })

apart_cases : {A : Type 0} (name : A → List ℕ) (xs ys : List A) → AreApart name xs → AreApart name ys → ((i j : ℕ) (a b : A) → slice_get xs i ≡ Some a → slice_get ys j ≡ Some b → name a ≡ name b → ⊥)
    → (i j : ℕ) (a b : A) → name a ≡ name b → (slice_get xs i ≡ Some a) ⊎ Behind xs ys i a → (slice_get xs j ≡ Some b) ⊎ Behind xs ys j b → i ≡ j
apart_cases name xs ys dx dy apart i j a b same (inl h) (inl k) = dx i j a b h k same
apart_cases name xs ys dx dy apart i j a b same (inl h) (inr k) = absurd (apart i k.place a b h k.found same)
apart_cases name xs ys dx dy apart i j a b same (inr h) (inl k) = absurd (apart j h.place b a k h.found (sym same))
apart_cases name xs ys dx dy apart i j a b same (inr h) (inr k) = let e : h.place ≡ k.place = dy h.place k.place a b h.found k.found same in omega (arith, e, h.is, k.is)

pub apart_append : {A : Type 0} (name : A → List ℕ) (xs ys : List A) → AreApart name xs → AreApart name ys → ((i j : ℕ) (a b : A) → slice_get xs i ≡ Some a → slice_get ys j ≡ Some b → name a ≡ name b → ⊥) → AreApart name (xs ++ ys)
apart_append name xs ys dx dy apart i j a b first second same = apart_cases name xs ys dx dy apart i j a b same (either_part xs ys i a first) (either_part xs ys j b second)

pub apart_map : {A B : Type 0} (name : A → List ℕ) (other : B → List ℕ) (f : A → B) (xs : List A) → ((x y : A) → other (f x) ≡ other (f y) → name x ≡ name y) → AreApart name xs → AreApart other (map f xs)
apart_map name other f xs each apart i j a b first second same =
    let x = mapped_get f xs i a first in
    let y = mapped_get f xs j b second in
    apart i j x.0 y.0 x.1 y.1 (each x.0 y.0 (ap other x.2 ∙ same ∙ ap other (sym y.2)))

-- ---- a solidus

-- what stands before the first solidus is determined
pub before_solidus : (a b x y : List ℕ) → NoSolidus a → NoSolidus b → a ++ 0x2F ∷ x ≡ b ++ 0x2F ∷ y → a ≡ b
before_solidus [] [] x y n m e = refl
before_solidus [] (d ∷ b) x y n m e = let h : 0x2F ≡ d = ap (λ l. get_or l 0 0) e in absurd (All-head (λ (byte : ℕ). byte ≡ 0x2F → ⊥) d b m (sym h))
before_solidus (c ∷ a) [] x y n m e = let h : c ≡ 0x2F = ap (λ l. get_or l 0 0) e in absurd (All-head (λ (byte : ℕ). byte ≡ 0x2F → ⊥) c a n h)
before_solidus (c ∷ a) (d ∷ b) x y n m e =
    let h : c ≡ d = ap (λ l. get_or l 0 0) e in
    let t : a ≡ b = before_solidus a b x y (All-tail (λ (byte : ℕ). byte ≡ 0x2F → ⊥) c a n) (All-tail (λ (byte : ℕ). byte ≡ 0x2F → ⊥) d b m) (ap (drop 1) e) in
    cc

pub behind_solidus : (name a b : List ℕ) → name ++ 0x2F ∷ a ≡ name ++ 0x2F ∷ b → a ≡ b
behind_solidus name a b e = ap (drop 1) (append_cancel_left name (0x2F ∷ a) (0x2F ∷ b) e)

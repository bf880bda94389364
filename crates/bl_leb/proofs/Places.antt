-- Spellings at a place, by the byte that stands there.
use Rattle.std.proofs.Common.{◌≡◌, ℕ, suc, ◌+◌, ◌-◌, ◌<◌, ◌≤◌, List, [], ◌∷◌, length, get_or, take, drop, ap, sym, ◌∙◌, refl, subst, arith, slice_range, add-one, drop-cons, length-drop, length-append, append_assoc, ◌++◌, ◌⊎◌, inl, inr}
use Rattle.std.proofs.lemmas.List.{length-take-le, drop_at, take_at}
use Rattle.std.proofs.lemmas.List.Folds.{drop_split}
use Rattle.bl_leb.specs.Spellings.{IsSpelledAt}

-- no bytes
take_none : (k : ℕ) (xs : List ℕ) → k ≡ 0 → take k xs ≡ []
take_none k xs e = rw e refl

-- the first byte and one less of the rest
take_one_more : (k m n : ℕ) (xs : List ℕ) → k ≡ suc m → take k (n ∷ xs) ≡ n ∷ take m xs
take_one_more k m n xs e = rw e refl

-- nothing stands between a place and itself
pub range_none : (bytes : List ℕ) (i : ℕ) → slice_range bytes i i ≡ []
range_none bytes i = take_none (i - i) (drop i bytes) (omega arith)

-- the first byte, and those from the next place on
pub range_first : (bytes : List ℕ) (i j n : ℕ) → i < j → i < length bytes → n ≡ get_or bytes i n → slice_range bytes i j ≡ n ∷ slice_range bytes (i + 1) j
range_first bytes i j n less inside is =
    let first : drop i bytes ≡ n ∷ drop (i + 1) bytes = rw add-one (drop-cons bytes i n inside ∙ ap (λ x. x ∷ drop (suc i) bytes) (sym is)) in
    ap (λ xs. take (j - i) xs) first ∙ take_one_more (j - i) (j - (i + 1)) n (drop (i + 1) bytes) (omega arith)

-- a spelling of one byte
pub spelled_one : {A : Type 0} (Spells : List ℕ → A → Type 0) (bytes : List ℕ) (i n : ℕ) (v : A) → i < length bytes → n ≡ get_or bytes i n → Spells (n ∷ []) v → IsSpelledAt Spells bytes i (i + 1) v
spelled_one Spells bytes i n v inside is h =
    let first = range_first bytes i (i + 1) n (omega arith) inside is in
    let whole = first ∙ ap (λ xs. n ∷ xs) (range_none bytes (i + 1)) in
    record { forward = omega arith; inside = omega arith; spelled = subst (λ (xs : List ℕ). Spells xs v) (sym whole) h }

-- a spelling of more
pub spelled_more : {A B : Type 0} (Spells : List ℕ → A → Type 0) (Tail : List ℕ → B → Type 0) (bytes : List ℕ) (i j n : ℕ) (v : A) (m : B) → i < length bytes → n ≡ get_or bytes i n → IsSpelledAt Tail bytes (i + 1) j m → ((tail : List ℕ) → Tail tail m → Spells (n ∷ tail) v) → IsSpelledAt Spells bytes i j v
spelled_more Spells Tail bytes i j n v m inside is tail more =
    let forward = tail.forward in
    let first = range_first bytes i j n (omega arith) inside is in
    record { forward = omega arith; inside = tail.inside; spelled = subst (λ (xs : List ℕ). Spells xs v) (sym first) (more (slice_range bytes (i + 1) j) tail.spelled) }

-- what is spelled at a place begins with the byte there
pub begins : {A : Type 0} (Spells : List ℕ → A → Type 0) (bytes : List ℕ) (i j n : ℕ) (v : A) → i < length bytes → n ≡ get_or bytes i n → ((w : A) → Spells [] w → ⊥) → IsSpelledAt Spells bytes i j v → (i < j) × Spells (n ∷ slice_range bytes (i + 1) j) v
begins Spells bytes i j n v inside is never h =
    let forward = h.forward in
    let cases : (i ≡ j) ⊎ (i < j) = grind arith in
    elim cases [
      | inl same ↦ absurd (never v (subst (λ (xs : List ℕ). Spells xs v) (ap (λ k. slice_range bytes i k) (sym same) ∙ range_none bytes i) h.spelled))
      | inr less ↦ (less, subst (λ (xs : List ℕ). Spells xs v) (range_first bytes i j n less inside is) h.spelled)
    ]

-- as many bytes as there are places
pub length_range : (bytes : List ℕ) (i j : ℕ) → i ≤ j → j ≤ length bytes → length (slice_range bytes i j) ≡ j - i
length_range bytes i j less inside = length-take-le (j - i) (drop i bytes) (omega (arith, length-drop i bytes))

-- where spellings are prefix-free, one ends at each place
pub one_place : {A : Type 0} (Spells : List ℕ → A → Type 0) (bytes : List ℕ) (i j k : ℕ) (v w : A) → ((a b x y : List ℕ) → Spells a v → Spells b w → a ++ x ≡ b ++ y → a ≡ b) → IsSpelledAt Spells bytes i j v → IsSpelledAt Spells bytes i k w → (j ≡ k) × (slice_range bytes i j ≡ slice_range bytes i k)
one_place Spells bytes i j k v w one p q =
    let f = p.forward in
    let g = q.forward in
    let m = p.inside in
    let n = q.inside in
    let same = one (slice_range bytes i j) (slice_range bytes i k) (drop j bytes) (drop k bytes) p.spelled q.spelled (sym (drop_split bytes i j f) ∙ drop_split bytes i k g) in
    let size = length_range bytes i j f m in
    let other = length_range bytes i k g n in
    let lengths = ap length same in
    (omega arith, same)

-- what is spelled is spelled where it stands, whatever is around it
pub spelled_between : {A : Type 0} (Spells : List ℕ → A → Type 0) (before bytes after : List ℕ) (v : A) → Spells bytes v → IsSpelledAt Spells (before ++ bytes ++ after) (length before) (length before + length bytes) v
spelled_between Spells before bytes after v h =
    let rest : drop (length before) (before ++ bytes ++ after) ≡ bytes ++ after = rw append_assoc (drop_at before (bytes ++ after) (length before) refl) in
    let size : length before + length bytes - length before ≡ length bytes = omega arith in
    let whole : slice_range (before ++ bytes ++ after) (length before) (length before + length bytes) ≡ bytes = ap (λ xs. take (length before + length bytes - length before) xs) rest ∙ take_at bytes after (length before + length bytes - length before) (sym size) in
    record {
      forward = omega arith;
      inside = omega (arith, length-append {A = ℕ});
      spelled = subst (λ (xs : List ℕ). Spells xs v) (sym whole) h;
    }

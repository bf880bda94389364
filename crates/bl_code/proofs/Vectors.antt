-- Spellings of a format one after another.
use Rattle.std.proofs.Common.{◌≡◌, ℕ, ◌+◌, ◌<◌, ◌≤◌, List, [], ◌∷◌, ◌++◌, length, drop, append_assoc, append-nil, ap, ap₂, sym, ◌∙◌, refl, arith, ◌⊎◌, inl, inr, length-append}
use Rattle.bl_base.proofs.Lists.{rest_same}
use Rattle.bl_leb.specs.Grammar.{Spellings, given}
use Rattle.bl_wasm.specs.Values.{each}
use Rattle.bl_code.specs.ReaderAnswers.{IsAt, NoneAt, Refuses}
use Rattle.bl_code.specs.Unique.{PrefixFree}
use Rattle.bl_code.specs.declared.error.CodeError.{CodeError}
use Rattle.bl_code.specs.declared.error.CodeError.TheVariants.{Malformed, Memory}
use Rattle.bl_code.proofs.Places.{stands, is_at, at_front}

-- none
pub each_none : {A : Type 0} (B : A → Spellings) (bytes : List ℕ) (i : ℕ) → i ≤ length bytes → IsAt (each B) bytes i i []
each_none B bytes i inside = is_at (each B) bytes i i [] (record { forward = omega arith; inside = inside; front = []; whole = refl; spelled = refl })

-- one more
pub more : {A : Type 0} (B : A → Spellings) (xs : List A) (x : A) (a b : List ℕ) → each B xs a → B x b → each B (xs ++ x ∷ []) (a ++ b)
more B [] x a b p q = record { front = b; rest = []; whole = ap (λ t. t ++ b) p ∙ sym (append-nil b); first = q; second = refl }
more B (y ∷ xs) x a b p q = record {
  front = p.front;
  rest = p.rest ++ b;
  whole = ap (λ t. t ++ b) p.whole ∙ append_assoc p.front p.rest b;
  first = p.first;
  second = more B xs x p.rest b p.second q;
}

pub each_more : {A : Type 0} (B : A → Spellings) (bytes : List ℕ) (i j k : ℕ) (xs : List A) (x : A) → IsAt (each B) bytes i j xs → IsAt B bytes j k x → IsAt (each B) bytes i k (xs ++ x ∷ [])
each_more B bytes i j k xs x front next =
    let p = stands (each B) bytes i j xs front in
    let q = stands B bytes j k x next in
    let f = p.forward in
    let g = q.forward in
    is_at (each B) bytes i k (xs ++ x ∷ []) (record {
      forward = omega arith;
      inside = q.inside;
      front = p.front ++ q.front;
      whole = p.whole ∙ ap (λ t. p.front ++ t) q.whole ∙ sym (append_assoc p.front q.front (drop k bytes));
      spelled = more B xs x p.front q.front p.spelled q.spelled;
    })

-- one list begins with the other, or the other goes on behind it with one that stands there
abbrev pub Parting : {A : Type 0} → (A → Spellings) → List A → List A → List ℕ → Type 0
Parting {A} B xs ys u = ((r : List A) × (xs ≡ ys ++ r)) ⊎ ((y : A) × (r : List A) × (s : List ℕ) × (t : List ℕ) × (ys ≡ xs ++ y ∷ r) × B y s × (u ≡ s ++ t))

-- and so behind one more at the front
longer : {A : Type 0} (B : A → Spellings) (x y : A) (xs ys : List A) (u : List ℕ) → x ≡ y → Parting B xs ys u → Parting B (x ∷ xs) (y ∷ ys) u
longer B x y xs ys u e (inl h) = inl (h.0, ap₂ (λ z zs. z ∷ zs) e h.1)
longer B x y xs ys u e (inr h) = inr (h.0, h.1, h.2, h.3, ap₂ (λ z zs. z ∷ zs) (sym e) h.4, h.5, h.6)

-- lists whose spellings begin the same bytes
pub parting : {A : Type 0} {B : A → Spellings} → PrefixFree B → (xs ys : List A) (a b u v : List ℕ) → each B xs a → each B ys b → a ++ u ≡ b ++ v → Parting B xs ys u
parting one [] [] a b u v p q e = inl ([], refl)
parting one [] (y ∷ ys) a b u v p q e =
    inr (y, ys, q.front, q.rest ++ v, refl, q.first, ap (λ t. t ++ u) (sym p) ∙ e ∙ ap (λ t. t ++ v) q.whole ∙ append_assoc q.front q.rest v)
parting one (x ∷ xs) [] a b u v p q e = inl (x ∷ xs, refl)
parting {B} one (x ∷ xs) (y ∷ ys) a b u v p q e =
    let whole : p.front ++ (p.rest ++ u) ≡ q.front ++ (q.rest ++ v)
    = sym (append_assoc p.front p.rest u) ∙ ap (λ t. t ++ u) (sym p.whole) ∙ e ∙ ap (λ t. t ++ v) q.whole ∙ append_assoc q.front q.rest v in
    let fronts = (one.same x y).both p.front q.front (p.rest ++ u) (q.rest ++ v) p.first q.first whole in
    longer B x y xs ys u fronts.1 (parting one xs ys p.rest q.rest u v p.second q.second (rest_same p.front q.front (p.rest ++ u) (q.rest ++ v) fronts.0 whole))

-- where none stands behind some of them, no more of them stand
pub none_more : {A : Type 0} {B : A → Spellings} (bytes : List ℕ) (i j : ℕ) (xs : List A) (n : ℕ) → PrefixFree B → IsAt (each B) bytes i j xs → length xs < n → NoneAt B bytes j → NoneAt (λ ys. given (length ys ≡ n) (each B ys)) bytes i
none_more {B} bytes i j xs n one front less none ys k h =
    let p = stands (each B) bytes i j xs front in
    let q = stands (λ zs. given (length zs ≡ n) (each B zs)) bytes i k ys h in
    let inside = p.inside in
    let long = q.spelled.0 in
    by_part inside long (parting one xs ys p.front q.front (drop j bytes) (drop k bytes) p.spelled q.spelled.1 (sym p.whole ∙ q.whole))
  where
    by_part : j ≤ length bytes → length ys ≡ n → Parting B xs ys (drop j bytes) → ⊥
    by_part inside long (inl h) = omega (arith, ap length h.1, length-append ys h.0)
    by_part inside long (inr h) = none h.0 (j + length h.2) (is_at B bytes j (j + length h.2) h.0 (at_front bytes j h.2 h.3 inside h.5 h.6))

pub err_more : {A : Type 0} (B : A → Spellings) (bytes : List ℕ) (i j : ℕ) (xs : List A) (n : ℕ) (e : CodeError) → PrefixFree B → IsAt (each B) bytes i j xs → length xs < n → Refuses B bytes j e → Refuses (λ ys. given (length ys ≡ n) (each B ys)) bytes i e
err_more B bytes i j xs n Malformed one front less h = none_more bytes i j xs n one front less h
err_more B bytes i j xs n Memory one front less h = tt

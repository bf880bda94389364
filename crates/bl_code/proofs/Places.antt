-- Spellings at a place, by the combinators of the grammar.
use Rattle.std.proofs.Common.{◌≡◌, ℕ, ◌+◌, ◌-◌, ◌≤◌, List, [], ◌∷◌, ◌++◌, length, take, drop, append_assoc, ap, sym, ◌∙◌, refl, subst, arith, slice_range, length-append, length-drop, Result, Ok, Err}
use Rattle.std.proofs.lemmas.List.{take_at, drop_at, drop-drop}
use Rattle.std.specs.Result.{IsErrAnd}
use Rattle.std.proofs.lemmas.Result.{err_from_is_err_and}
use Rattle.std.proofs.lemmas.List.Folds.{drop_split}
use Rattle.bl_base.proofs.Lists.{rest_same}
use Rattle.bl_leb.specs.Grammar.{Spellings, ◌⨾◌, byte, given}
use Rattle.bl_code.specs.ReaderAnswers.{IsAt, NoneAt, Refuses, Reads, Finds, behind}
use Rattle.bl_code.specs.Unique.{Same, PrefixFree}
use Rattle.bl_code.specs.declared.error.CodeError.{CodeError}
use Rattle.bl_code.specs.declared.error.CodeError.TheVariants.{Malformed, Memory}
use Rattle.bl_code.specs.declared.error.Malformed.{Malformed as NotSpelled}
use Rattle.bl_code.proofs.Unique.{byte_same}

-- the bytes from a place to another are such a spelling
pub record Stands (S : Spellings) (bytes : List ℕ) (start end : ℕ) : Type 0 where
  pub forward : start ≤ end
  pub inside : end ≤ length bytes
  pub front : List ℕ
  pub whole : drop start bytes ≡ front ++ drop end bytes
  pub spelled : S front

pub stands : {A : Type 0} (B : A → Spellings) (bytes : List ℕ) (i j : ℕ) (x : A) → IsAt B bytes i j x → Stands (B x) bytes i j
stands B bytes i j x h =
    let f = h.forward in
    record { forward = f; inside = h.inside; front = slice_range bytes i j; whole = drop_split bytes i j f; spelled = h.spelled }

pub is_at : {A : Type 0} (B : A → Spellings) (bytes : List ℕ) (i j : ℕ) (x : A) → Stands (B x) bytes i j → IsAt B bytes i j x
is_at B bytes i j x h =
    let f = h.forward in
    let g = h.inside in
    let long : length h.front ≡ j - i = omega (arith, length-drop i bytes, length-drop j bytes, ap length h.whole, length-append h.front (drop j bytes)) in
    let same : slice_range bytes i j ≡ h.front = ap (take (j - i)) h.whole ∙ take_at h.front (drop j bytes) (j - i) long in
    record { forward = f; inside = g; spelled = subst (λ (t : List ℕ). B x t) (sym same) h.spelled }

-- one behind the other
pub join : {F S : Spellings} (bytes : List ℕ) (i j k : ℕ) → Stands F bytes i j → Stands S bytes j k → Stands (F ⨾ S) bytes i k
join bytes i j k p q =
    let f = p.forward in
    let g = q.forward in
    record {
      forward = omega arith;
      inside = q.inside;
      front = p.front ++ q.front;
      whole = p.whole ∙ ap (λ t. p.front ++ t) q.whole ∙ sym (append_assoc p.front q.front (drop k bytes));
      spelled = record { front = p.front; rest = q.front; whole = refl; first = p.spelled; second = q.spelled };
    }

-- where the first one ends, the second one begins
pub part : {F S : Spellings} (bytes : List ℕ) (i k : ℕ) → Stands (F ⨾ S) bytes i k → (j : ℕ) × Stands F bytes i j × Stands S bytes j k
part bytes i k h =
    let s = h.spelled in
    let a = s.front in
    let b = s.rest in
    let f = h.forward in
    let g = h.inside in
    let whole : drop i bytes ≡ a ++ (b ++ drop k bytes) = h.whole ∙ ap (λ t. t ++ drop k bytes) s.whole ∙ append_assoc a b (drop k bytes) in
    let behind : drop (i + length a) bytes ≡ b ++ drop k bytes = sym (drop-drop (length a) i bytes) ∙ ap (drop (length a)) whole ∙ drop_at a (b ++ drop k bytes) (length a) refl in
    let long : length bytes - i ≡ length a + (length b + (length bytes - k)) = omega (arith, length-drop i bytes, length-drop k bytes, ap length whole, length-append a (b ++ drop k bytes), length-append b (drop k bytes)) in (
      i + length a,
      record { forward = omega arith; inside = omega arith; front = a; whole = whole ∙ ap (λ t. a ++ t) (sym behind); spelled = s.first },
      record { forward = omega arith; inside = g; front = b; whole = behind; spelled = s.second },
    )

-- what spells the one spells the other
pub as_other : {S T : Spellings} (bytes : List ℕ) (i j : ℕ) → ((t : List ℕ) → S t → T t) → Stands S bytes i j → Stands T bytes i j
as_other bytes i j f h = record { forward = h.forward; inside = h.inside; front = h.front; whole = h.whole; spelled = f h.front h.spelled }

-- at a place one spelling ends at one place
pub same_at : {S T : Spellings} {P : Type 0} (bytes : List ℕ) (i j k : ℕ) → Same S T P → Stands S bytes i j → Stands T bytes i k → (j ≡ k) × P
same_at bytes i j k one p q =
    let same = one.both p.front q.front (drop j bytes) (drop k bytes) p.spelled q.spelled (sym p.whole ∙ q.whole) in
    let rest = rest_same p.front q.front (drop j bytes) (drop k bytes) same.0 (sym p.whole ∙ q.whole) in
    let f = p.inside in
    let g = q.inside in
    (omega (arith, length-drop j bytes, length-drop k bytes, ap length rest), same.1)

pub one_at : {A : Type 0} {B : A → Spellings} (bytes : List ℕ) (i j k : ℕ) (x y : A) → PrefixFree B → IsAt B bytes i j x → IsAt B bytes i k y → (j ≡ k) × (x ≡ y)
one_at {B} bytes i j k x y one p q = same_at bytes i j k (one.same x y) (stands B bytes i j x p) (stands B bytes i k y q)

-- nothing is spelled where what it begins with isn't
pub none_first : {A T : Type 0} {F : A → Spellings} {S : T → Spellings} (f : T → A) (bytes : List ℕ) (i : ℕ) → NoneAt F bytes i → NoneAt (λ x. F (f x) ⨾ S x) bytes i
none_first {F} {S} f bytes i none x k h =
    let two = part bytes i k (stands (λ y. F (f y) ⨾ S y) bytes i k x h) in
    none (f x) two.0 (is_at F bytes i two.0 (f x) two.1)

-- nor where what it goes on with isn't
pub none_second : {A C T : Type 0} {F : A → Spellings} {S : C → Spellings} (f : T → A) (g : T → C) (bytes : List ℕ) (i j : ℕ) (a : A) → PrefixFree F → IsAt F bytes i j a → NoneAt S bytes j → NoneAt (λ x. F (f x) ⨾ S (g x)) bytes i
none_second {F} {S} f g bytes i j a one first none x k h =
    let two = part bytes i k (stands (λ y. F (f y) ⨾ S (g y)) bytes i k x h) in
    let same = one_at bytes i j two.0 a (f x) one first (is_at F bytes i two.0 (f x) two.1) in
    none (g x) k (is_at S bytes j k (g x) (subst (λ (m : ℕ). Stands (S (g x)) bytes m k) (sym same.0) two.2))

-- what isn't spelled where it is given isn't where something more is given
pub none_along : {A T : Type 0} {F : A → Spellings} {S : T → Spellings} (f : T → A) (bytes : List ℕ) (i : ℕ) → ((x : T) (t : List ℕ) → S x t → F (f x) t) → NoneAt F bytes i → NoneAt S bytes i
none_along {F} {S} f bytes i along none x k h = none (f x) k (is_at F bytes i k (f x) (as_other bytes i k (along x) (stands S bytes i k x h)))

-- nor does anything go on behind the first part
pub none_after : {A T : Type 0} {F : A → Spellings} {S : T → Spellings} (f : T → A) (bytes : List ℕ) (i j : ℕ) (a : A) → PrefixFree F → IsAt F bytes i j a → NoneAt (λ x. given (f x ≡ a) (S x)) bytes j → NoneAt (λ x. F (f x) ⨾ S x) bytes i
none_after {F} {S} f bytes i j a one first none x k h =
    let two = part bytes i k (stands (λ y. F (f y) ⨾ S y) bytes i k x h) in
    let same = one_at bytes i j two.0 a (f x) one first (is_at F bytes i two.0 (f x) two.1) in
    let moved = subst (λ (m : ℕ). Stands (S x) bytes m k) (sym same.0) two.2 in
    none x k (is_at (λ y. given (f y ≡ a) (S y)) bytes j k x (as_other bytes j k (λ t s. (sym same.1, s)) moved))

-- why nothing is read is why the first part isn't
pub err_first : {A T : Type 0} (F : A → Spellings) (S : T → Spellings) (f : T → A) (bytes : List ℕ) (i : ℕ) (e : CodeError) → Refuses F bytes i e → Refuses (λ x. F (f x) ⨾ S x) bytes i e
err_first F S f bytes i Malformed h = none_first {F = F} {S = S} f bytes i h
err_first F S f bytes i Memory h = tt

-- or why the second part isn't
pub err_second : {A C T : Type 0} (F : A → Spellings) (S : C → Spellings) (f : T → A) (g : T → C) (bytes : List ℕ) (i j : ℕ) (a : A) (e : CodeError) → PrefixFree F → IsAt F bytes i j a → Refuses S bytes j e → Refuses (λ x. F (f x) ⨾ S (g x)) bytes i e
err_second F S f g bytes i j a Malformed one first h = none_second {F = F} {S = S} f g bytes i j a one first h
err_second F S f g bytes i j a Memory one first h = tt

-- why what is given less isn't read is why it isn't where more is given
pub err_along : {A T : Type 0} (F : A → Spellings) (S : T → Spellings) (f : T → A) (bytes : List ℕ) (i : ℕ) (e : CodeError) → ((x : T) (t : List ℕ) → S x t → F (f x) t) → Refuses F bytes i e → Refuses S bytes i e
err_along F S f bytes i Malformed along h = none_along {F = F} {S = S} f bytes i along h
err_along F S f bytes i Memory along h = tt

-- a reader of what goes on behind the first part reads the whole
pub reads_after : {A T : Type 0} (F : A → Spellings) (S : T → Spellings) (f : T → A) (bytes : List ℕ) (i j : ℕ) (a : A) (r : Result (T × ℕ) CodeError) → PrefixFree F → IsAt F bytes i j a → Reads (λ x. given (f x ≡ a) (S x)) bytes j r → Reads (λ x. F (f x) ⨾ S x) bytes i r
reads_after {A} F S f bytes i j a (Ok found) one first h =
    let x = found.0 in
    let k = found.1 in
    let rest = stands (λ y. given (f y ≡ a) (S y)) bytes j k x h in
    let is : f x ≡ a = rest.spelled.0 in
    let front : Stands (F (f x)) bytes i j = subst (λ (b : A). Stands (F b) bytes i j) (sym is) (stands F bytes i j a first) in
    is_at (λ y. F (f y) ⨾ S y) bytes i k x (join bytes i j k front (as_other bytes j k (λ t s. s.1) rest))
reads_after F S f bytes i j a (Err Malformed) one first h = none_after {F = F} {S = S} f bytes i j a one first h
reads_after F S f bytes i j a (Err Memory) one first h = tt

-- what stands at the front of the bytes that are left
pub at_front : {S : Spellings} (bytes : List ℕ) (j : ℕ) (s t : List ℕ) → j ≤ length bytes → S s → drop j bytes ≡ s ++ t → Stands S bytes j (j + length s)
at_front bytes j s t inside spelled whole =
    let behind : drop (j + length s) bytes ≡ t = sym (drop-drop (length s) j bytes) ∙ ap (drop (length s)) whole ∙ drop_at s t (length s) refl in
    let long : length bytes - j ≡ length s + length t = omega (arith, length-drop j bytes, ap length whole, length-append s t) in
    record { forward = omega arith; inside = omega arith; front = s; whole = whole ∙ ap (λ r. s ++ r) (sym behind); spelled = spelled }

-- a `?` hands on why a part wasn't read
pub passes : {A : Type 0} (B : A → Spellings) (bytes : List ℕ) (i : ℕ) (r : Result (A × ℕ) CodeError) (e : CodeError) → IsErrAnd r (λ y. y ≡ e) → Refuses B bytes i e → Reads B bytes i r
passes B bytes i r e gives h = let p = err_from_is_err_and r gives in rw (p.1, p.2) h

-- and where there is but one reason
pub passes_none : {A : Type 0} (B : A → Spellings) (bytes : List ℕ) (i : ℕ) (r : Result (A × ℕ) NotSpelled) (e : NotSpelled) → IsErrAnd r (λ y. y ≡ e) → NoneAt B bytes i → Finds B bytes i r
passes_none B bytes i r e gives none = let p = err_from_is_err_and r gives in rw p.1 none

-- a first byte, and what is left behind it
by_head : (S : Spellings) (f : List ℕ) → (S [] → ⊥) → S f → (m : ℕ) × (byte m ⨾ (λ t. S (m ∷ t))) f
by_head S [] never s = absurd (never s)
by_head S (m ∷ t) never s = (m, record { front = m ∷ []; rest = t; whole = refl; first = refl; second = s })

pub by_first : (S : Spellings) (bytes : List ℕ) (i k : ℕ) → (S [] → ⊥) → Stands S bytes i k → (m : ℕ) × (j : ℕ) × Stands (byte m) bytes i j × Stands (λ t. S (m ∷ t)) bytes j k
by_first S bytes i k never h =
    let head = by_head S h.front never h.spelled in
    let m = head.0 in
    let split : Stands (byte m ⨾ (λ t. S (m ∷ t))) bytes i k = record { forward = h.forward; inside = h.inside; front = h.front; whole = h.whole; spelled = head.1 } in
    let two = part bytes i k split in
    (m, two.0, two.1, two.2)

-- where no byte is, nothing of a byte or more is
pub err_byte : {A : Type 0} (B : A → Spellings) (bytes : List ℕ) (i : ℕ) (e : CodeError) → ((x : A) → B x [] → ⊥) → Refuses byte bytes i e → Refuses B bytes i e
err_byte B bytes i Malformed never h = λ x k p.
    let two = by_first (B x) bytes i k (never x) (stands B bytes i k x p) in
    h two.0 two.1 (is_at byte bytes i two.1 two.0 two.2)
err_byte B bytes i Memory never h = tt

-- nothing is spelled where what it goes on with behind its first byte isn't
pub none_behind : {A : Type 0} (B : A → Spellings) (bytes : List ℕ) (i j n : ℕ) → ((x : A) → B x [] → ⊥) → IsAt byte bytes i j n → NoneAt (behind B n) bytes j → NoneAt B bytes i
none_behind B bytes i j n never first none x k p =
    let two = by_first (B x) bytes i k (never x) (stands B bytes i k x p) in
    let same = same_at bytes i j two.1 (byte_same n two.0) (stands byte bytes i j n first) two.2 in
    let here = subst (λ (l : ℕ). Stands (λ t. B x (two.0 ∷ t)) bytes l k) (sym same.0) two.3 in
    none x k (is_at (behind B n) bytes j k x (as_other bytes j k (λ t s. subst (λ (m : ℕ). B x (m ∷ t)) (sym same.1) s) here))

-- a reader of what is left behind the first byte reads the whole
pub reads_behind : {A : Type 0} (B : A → Spellings) (bytes : List ℕ) (i j n : ℕ) (r : Result (A × ℕ) CodeError) → ((x : A) → B x [] → ⊥) → IsAt byte bytes i j n → Reads (behind B n) bytes j r → Reads B bytes i r
reads_behind {A} B bytes i j n (Ok found) never first h =
    let p = stands byte bytes i j n first in
    let x = found.0 in
    let k = found.1 in
    let q = stands (behind B n) bytes j k x h in
    let both : Stands (byte n ⨾ behind B n x) bytes i k = join bytes i j k p q in
    is_at B bytes i k x (as_other bytes i k (λ t s. joined x t s) both)
  where
    joined : (x : A) (t : List ℕ) → (byte n ⨾ behind B n x) t → B x t
    joined x t s = subst (B x) (sym (s.whole ∙ ap (λ f. f ++ s.rest) s.first)) s.second
reads_behind B bytes i j n (Err Malformed) never first h = none_behind B bytes i j n never first h
reads_behind B bytes i j n (Err Memory) never first h = tt

-- a reader of what is left behind the first byte finds the whole
pub finds_behind : {A : Type 0} (B : A → Spellings) (bytes : List ℕ) (i j n : ℕ) (r : Result (A × ℕ) NotSpelled) → ((x : A) → B x [] → ⊥) → IsAt byte bytes i j n → Finds (behind B n) bytes j r → Finds B bytes i r
finds_behind B bytes i j n (Ok found) never first h = reads_behind B bytes i j n (Ok found) never first h
finds_behind B bytes i j n (Err e) never first h = none_behind B bytes i j n never first h

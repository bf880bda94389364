-- What begins bytes, by the combinators of the grammar.
use Rattle.std.proofs.Common.{◌≡◌, ℕ, ◌≤◌, List, ◌++◌, length, drop, append_assoc, ap, ap₂, sym, ◌∙◌, refl, subst, Result, Ok, Err}
use Rattle.std.specs.Result.{IsErrAnd}
use Rattle.std.proofs.lemmas.Result.{err_from_is_err_and}
use Rattle.bl_leb.specs.Grammar.{Spellings, ◌⨾◌, byte, given}
use Rattle.bl_image.specs.ReaderAnswers.{Begins, NoneBegins, Refuses, Reads, Finds}
use Rattle.bl_image.specs.declared.error.Malformed.{Malformed}
use Rattle.bl_image.specs.declared.error.ReadError.{ReadError}
use Rattle.bl_image.specs.declared.error.ReadError.TheVariants.{NotAnImage, Memory}

-- what is spelled by the one is spelled by the other
pub begins_via : {A X : Type 0} (F : A → Spellings) (B : X → Spellings) (s r : List ℕ) (a : A) (x : X) → ((t : List ℕ) → F a t → B x t) → ((y : X) (t : List ℕ) → B y t → (b : A) × F b t × (b ≡ a → y ≡ x)) → Begins F s a r → Begins B s x r
begins_via F B s r a x to from p = record {
  front = p.front;
  whole = p.whole;
  spelled = to p.front p.spelled;
  only = λ y other more h e.
      let back = from y other h in
      let same = p.only back.0 other more back.1 e in
      (back.2 same.0, same.1);
}

pub none_via : {A X : Type 0} (F : A → Spellings) (B : X → Spellings) (s : List ℕ) → ((y : X) (t : List ℕ) → B y t → (b : A) × F b t) → NoneBegins F s → NoneBegins B s
none_via F B s from p = record { none = λ y other more h e. let back = from y other h in p.none back.0 other more back.1 e }

-- by another thing that it is made into and back
pub begins_from : {A X : Type 0} (F : A → Spellings) (from : X → A) (to : A → X) (s r : List ℕ) (x : X) → ((y : X) → to (from y) ≡ y) → Begins F s (from x) r → Begins (λ y. F (from y)) s x r
begins_from F from to s r x back p = begins_via F (λ y. F (from y)) s r (from x) x (λ t h. h) (λ y t h. (from y, h, λ e. sym (back y) ∙ ap to e ∙ back x)) p

-- where a condition holds
pub begins_given : {A : Type 0} (B : A → Spellings) (P : A → Type 0) (s r : List ℕ) (x : A) → P x → Begins B s x r → Begins (λ y. given (P y) (B y)) s x r
begins_given B P s r x holds p = begins_via B (λ y. given (P y) (B y)) s r x x (λ t h. (holds, h)) (λ y t h. (y, h.1, λ e. e)) p

pub none_given : {A : Type 0} (B : A → Spellings) (P : A → Type 0) (s : List ℕ) → NoneBegins B s → NoneBegins (λ y. given (P y) (B y)) s
none_given B P s p = none_via B (λ y. given (P y) (B y)) s (λ y t h. (y, h.1)) p

-- where it doesn't hold of what begins the bytes
pub none_unless : {A : Type 0} (B : A → Spellings) (P : A → Type 0) (s r : List ℕ) (x : A) → (P x → ⊥) → Begins B s x r → NoneBegins (λ y. given (P y) (B y)) s
none_unless B P s r x never p = record { none = λ y other more h e. never (subst P (p.only y other more h.1 e).0 h.0) }

-- the rest of a whole behind its first part
regrouped : (s other more front rest : List ℕ) → s ≡ other ++ more → other ≡ front ++ rest → s ≡ front ++ (rest ++ more)
regrouped s other more front rest e whole = e ∙ ap (λ t. t ++ more) whole ∙ append_assoc front rest more

-- the first part, and behind it what goes with it
pub begins_after : {A X : Type 0} (F : A → Spellings) (f : X → A) (S : X → Spellings) (s m r : List ℕ) (a : A) (x : X) → Begins F s a m → Begins (λ y. given (f y ≡ a) (S y)) m x r → Begins (λ y. F (f y) ⨾ S y) s x r
begins_after F f S s m r a x p q = record {
  front = p.front ++ q.front;
  whole = p.whole ∙ ap (λ t. p.front ++ t) q.whole ∙ sym (append_assoc p.front q.front r);
  spelled = record { front = p.front; rest = q.front; whole = refl; first = subst (λ b. F b p.front) (sym q.spelled.0) p.spelled; second = q.spelled.1 };
  only = λ y other more h e.
      let first = p.only (f y) h.front (h.rest ++ more) h.first (regrouped s other more h.front h.rest e h.whole) in
      q.only y h.rest more (first.0, h.second) (sym first.1);
}

pub none_head : {A X : Type 0} (F : A → Spellings) (f : X → A) (S : X → Spellings) (s : List ℕ) → NoneBegins F s → NoneBegins (λ y. F (f y) ⨾ S y) s
none_head F f S s p = record { none = λ y other more h e. p.none (f y) h.front (h.rest ++ more) h.first (regrouped s other more h.front h.rest e h.whole) }

pub none_after : {A X : Type 0} (F : A → Spellings) (f : X → A) (S : X → Spellings) (s m : List ℕ) (a : A) → Begins F s a m → NoneBegins (λ y. given (f y ≡ a) (S y)) m → NoneBegins (λ y. F (f y) ⨾ S y) s
none_after F f S s m a p q = record {
  none = λ y other more h e.
      let first = p.only (f y) h.front (h.rest ++ more) h.first (regrouped s other more h.front h.rest e h.whole) in
      q.none y h.rest more (first.0, h.second) (sym first.1);
}

-- two parts, of which the second may depend on the first
pub begins_both : {A C : Type 0} (F : A → Spellings) (G : A → C → Spellings) (s m r : List ℕ) (x : A) (y : C) → Begins F s x m → Begins (G x) m y r → Begins (λ (both : A × C). F both.0 ⨾ G both.0 both.1) s (x, y) r
begins_both {A} {C} F G s m r x y p q =
    begins_after F (λ (both : A × C). both.0) (λ both. G both.0 both.1) s m r x (x, y) p
    (begins_via (G x) (λ (both : A × C). given (both.0 ≡ x) (G both.0 both.1)) m r y (x, y) (λ t h. (refl, h)) (λ both t h. (both.1, subst (λ a. G a both.1 t) h.0 h.1, λ e. ap₂ (λ a b. (a, b)) h.0 e)) q)

pub none_second : {A C : Type 0} (F : A → Spellings) (G : A → C → Spellings) (s m : List ℕ) (x : A) → Begins F s x m → NoneBegins (G x) m → NoneBegins (λ (both : A × C). F both.0 ⨾ G both.0 both.1) s
none_second {A} {C} F G s m x p q =
    none_after F (λ (both : A × C). both.0) (λ both. G both.0 both.1) s m x p (none_via (G x) (λ (both : A × C). given (both.0 ≡ x) (G both.0 both.1)) m (λ both t h. (both.1, subst (λ a. G a both.1 t) h.0 h.1)) q)

-- a case of several: all things of that code are made by `to`
pub begins_case : {A X : Type 0} (code : X → ℕ) (S : X → Spellings) (to : A → X) (n : ℕ) (s r : List ℕ) (a : A) → code (to a) ≡ n → ((y : X) → code y ≡ n → (b : A) × (y ≡ to b)) → Begins (λ b. S (to b)) s a r → Begins (λ y. given (code y ≡ n) (S y)) s (to a) r
begins_case code S to n s r a is cover p =
    begins_via (λ b. S (to b)) (λ y. given (code y ≡ n) (S y)) s r a (to a) (λ t h. (is, h))
    (λ y t h. let back = cover y h.0 in (back.0, subst (λ z. S z t) back.1 h.1, λ e. back.1 ∙ ap to e)) p

pub none_case : {A X : Type 0} (code : X → ℕ) (S : X → Spellings) (to : A → X) (n : ℕ) (s : List ℕ) → ((y : X) → code y ≡ n → (b : A) × (y ≡ to b)) → NoneBegins (λ b. S (to b)) s → NoneBegins (λ y. given (code y ≡ n) (S y)) s
none_case code S to n s cover p =
    none_via (λ b. S (to b)) (λ y. given (code y ≡ n) (S y)) s (λ y t h. let back = cover y h.0 in (back.0, subst (λ z. S z t) back.1 h.1)) p

-- the code of a case, and what goes with it
pub begins_coded : {A X : Type 0} (code : X → ℕ) (S : X → Spellings) (to : A → X) (n : ℕ) (s m r : List ℕ) (a : A) → code (to a) ≡ n → ((y : X) → code y ≡ n → (b : A) × (y ≡ to b)) → Begins byte s n m → Begins (λ b. S (to b)) m a r → Begins (λ y. byte (code y) ⨾ S y) s (to a) r
begins_coded code S to n s m r a is cover p q = begins_after byte code S s m r n (to a) p (begins_case code S to n m r a is cover q)

-- a `?` hands on why a part wasn't read
pub passes : {A X : Type 0} (F : A → Spellings) (B : X → Spellings) (bytes : List ℕ) (i j : ℕ) (r : Result (X × ℕ) ReadError) (e : ReadError) → IsErrAnd r (λ y. y ≡ e) → (NoneBegins F (drop i bytes) → NoneBegins B (drop j bytes)) → Refuses F bytes i e → Reads B bytes j r
passes F B bytes i j r e gives along h = let p = err_from_is_err_and r gives in rw (p.1, p.2) (refused e h)
  where
    refused : (k : ReadError) → Refuses F bytes i k → Refuses B bytes j k
    refused NotAnImage h = along h
    refused Memory h = tt

-- the same of a reader that takes no memory
pub fails : {A X : Type 0} (F : A → Spellings) (B : X → Spellings) (bytes : List ℕ) (i j : ℕ) (r : Result (X × ℕ) Malformed) (e : Malformed) → IsErrAnd r (λ y. y ≡ e) → (NoneBegins F (drop i bytes) → NoneBegins B (drop j bytes)) → NoneBegins F (drop i bytes) → Finds B bytes j r
fails F B bytes i j r e gives along none = let p = err_from_is_err_and r gives in rw p.1 (along none)

-- a thing that is read by its parts, and made up of them
pub parts_passes : {A X : Type 0} (B : X → Spellings) (parts : X → A) (whole : A → X) (bytes : List ℕ) (i : ℕ) (r : Result (X × ℕ) ReadError) (e : ReadError) → IsErrAnd r (λ y. y ≡ e) → Refuses (λ p. B (whole p)) bytes i e → Reads (λ y. B (whole (parts y))) bytes i r
parts_passes B parts whole bytes i r e gives h = passes (λ p. B (whole p)) (λ y. B (whole (parts y))) bytes i i r e gives (none_via (λ p. B (whole p)) (λ y. B (whole (parts y))) (drop i bytes) (λ y t h. (parts y, h))) h

pub parts_fails : {A X : Type 0} (B : X → Spellings) (parts : X → A) (whole : A → X) (bytes : List ℕ) (i : ℕ) (r : Result (X × ℕ) Malformed) (e : Malformed) → IsErrAnd r (λ y. y ≡ e) → NoneBegins (λ p. B (whole p)) (drop i bytes) → Finds (λ y. B (whole (parts y))) bytes i r
parts_fails B parts whole bytes i r e gives none = fails (λ p. B (whole p)) (λ y. B (whole (parts y))) bytes i i r e gives (none_via (λ p. B (whole p)) (λ y. B (whole (parts y))) (drop i bytes) (λ y t h. (parts y, h))) none

pub parts_read : {A X : Type 0} (B : X → Spellings) (parts : X → A) (whole : A → X) (bytes : List ℕ) (i j : ℕ) (x : X) → ((y : X) → whole (parts y) ≡ y) → (j ≤ length bytes) × Begins (λ p. B (whole p)) (drop i bytes) (parts x) (drop j bytes) → (j ≤ length bytes) × Begins (λ y. B (whole (parts y))) (drop i bytes) x (drop j bytes)
parts_read B parts whole bytes i j x back h = (h.0, begins_from (λ p. B (whole p)) parts whole (drop i bytes) (drop j bytes) x back h.1)

-- a tail call: what it read, or why it read nothing
pub reads_as : {A : Type 0} (F B : A → Spellings) (bytes : List ℕ) (i j : ℕ) (r : Result (A × ℕ) ReadError) → ((x : A) (m : List ℕ) → Begins F (drop i bytes) x m → Begins B (drop j bytes) x m) → (NoneBegins F (drop i bytes) → NoneBegins B (drop j bytes)) → Reads F bytes i r → Reads B bytes j r
reads_as F B bytes i j (Ok found) some none h = (h.0, some found.0 (drop found.1 bytes) h.1)
reads_as F B bytes i j (Err NotAnImage) some none h = none h
reads_as F B bytes i j (Err Memory) some none h = tt

pub reads_after : {A X : Type 0} (F : A → Spellings) (f : X → A) (S : X → Spellings) (bytes : List ℕ) (i j : ℕ) (a : A) (r : Result (X × ℕ) ReadError) → Begins F (drop i bytes) a (drop j bytes) → Reads (λ y. given (f y ≡ a) (S y)) bytes j r → Reads (λ y. F (f y) ⨾ S y) bytes i r
reads_after F f S bytes i j a r p h =
    reads_as (λ y. given (f y ≡ a) (S y)) (λ y. F (f y) ⨾ S y) bytes j i r
    (λ x m q. begins_after F f S (drop i bytes) (drop j bytes) m a x p q) (λ q. none_after F f S (drop i bytes) (drop j bytes) a p q) h

pub finds_as : {A : Type 0} (F B : A → Spellings) (bytes : List ℕ) (i j : ℕ) (r : Result (A × ℕ) Malformed) → ((x : A) (m : List ℕ) → Begins F (drop i bytes) x m → Begins B (drop j bytes) x m) → (NoneBegins F (drop i bytes) → NoneBegins B (drop j bytes)) → Finds F bytes i r → Finds B bytes j r
finds_as F B bytes i j (Ok found) some none h = (h.0, some found.0 (drop found.1 bytes) h.1)
finds_as F B bytes i j (Err e) some none h = none h

pub finds_after : {A X : Type 0} (F : A → Spellings) (f : X → A) (S : X → Spellings) (bytes : List ℕ) (i j : ℕ) (a : A) (r : Result (X × ℕ) Malformed) → Begins F (drop i bytes) a (drop j bytes) → Finds (λ y. given (f y ≡ a) (S y)) bytes j r → Finds (λ y. F (f y) ⨾ S y) bytes i r
finds_after F f S bytes i j a r p h =
    finds_as (λ y. given (f y ≡ a) (S y)) (λ y. F (f y) ⨾ S y) bytes j i r
    (λ x m q. begins_after F f S (drop i bytes) (drop j bytes) m a x p q) (λ q. none_after F f S (drop i bytes) (drop j bytes) a p q) h

-- What is spelled in one way and spells one thing, by the combinators of the grammar.
use Rattle.std.proofs.Common.{◌≡◌, ℕ, suc, ◌+◌, ◌^◌, ◌<◌, List, [], ◌∷◌, ◌++◌, length, drop, get_or, append_assoc, ap, ap₂, sym, ◌∙◌, refl, subst, arith}
use Rattle.bl_base.proofs.Lists.{front_same, rest_same}
use Rattle.bl_leb.proofs.Unsigned.{one_end, one_value, one_shortest}
use Rattle.bl_leb.specs.Numbers.{IsUnsigned}
use Rattle.bl_leb.specs.Grammar.{Spellings, ◌⨾◌, nothing, exactly, byte, given}
use Rattle.bl_format.specs.Grammar.{each, each_after, u32, u64, vec, gap, rising}

-- where two spellings begin the same bytes they are of one thing, and the same rest stands behind them; and one thing has one
-- spelling
pub record IsUnique {A : Type 0} (B : A → Spellings) : Type 0 where
  pub thing : (x y : A) (a b u v : List ℕ) → B x a → B y b → a ++ u ≡ b ++ v → (x ≡ y) × (u ≡ v)
  pub bytes : (x : A) (a b : List ℕ) → B x a → B x b → a ≡ b

-- the rests of two wholes behind their first parts
pub parted : (a b u v : List ℕ) (front rest other more : List ℕ) → a ++ u ≡ b ++ v → a ≡ front ++ rest → b ≡ other ++ more → front ++ (rest ++ u) ≡ other ++ (more ++ v)
parted a b u v front rest other more e one two =
    sym (append_assoc front rest u) ∙ ap (λ t. t ++ u) (sym one) ∙ e ∙ ap (λ t. t ++ v) two ∙ append_assoc other more v

-- by what is spelled of another thing
pub unique_via : {A X : Type 0} (F : A → Spellings) (B : X → Spellings) (from : X → A) → IsUnique F → ((y : X) (t : List ℕ) → B y t → F (from y) t) → ((x y : X) (a b : List ℕ) → B x a → B y b → from x ≡ from y → x ≡ y) → IsUnique B
unique_via F B from p spelled same = record {
  thing = λ x y a b u v h k e. let r = p.thing (from x) (from y) a b u v (spelled x a h) (spelled y b k) e in (same x y a b h k r.0, r.1);
  bytes = λ x a b h k. p.bytes (from x) a b (spelled x a h) (spelled x b k);
}

-- by another thing that it is made into and back
pub unique_from : {A X : Type 0} {F : A → Spellings} → IsUnique F → (from : X → A) (to : A → X) → ((y : X) → to (from y) ≡ y) → IsUnique (λ y. F (from y))
unique_from {A} {X} {F} p from to back = unique_via F (λ y. F (from y)) from p (λ y t h. h) (λ x y a b h k e. sym (back x) ∙ ap to e ∙ back y)

-- where a condition holds
pub unique_given : {A : Type 0} (B : A → Spellings) (P : A → Type 0) → IsUnique B → IsUnique (λ y. given (P y) (B y))
unique_given B P p = unique_via B (λ y. given (P y) (B y)) (λ y. y) p (λ y t h. h.1) (λ x y a b h k e. e)

-- a part, and behind it what goes with it
pub unique_after : {A X : Type 0} (F : A → Spellings) (f : X → A) (S : X → Spellings) → IsUnique F → ((x : X) → IsUnique (λ y. given (f y ≡ f x) (S y))) → IsUnique (λ y. F (f y) ⨾ S y)
unique_after F f S p q = record {
  thing = λ x y a b u v h k e.
      let first = p.thing (f x) (f y) h.front k.front (h.rest ++ u) (k.rest ++ v) h.first k.first (parted a b u v h.front h.rest k.front k.rest e h.whole k.whole) in
      (q x).thing x y h.rest k.rest u v (refl, h.second) (sym first.0, k.second) first.1;
  bytes = λ x a b h k.
      h.whole ∙ ap₂ (λ s t. s ++ t) (p.bytes (f x) h.front k.front h.first k.first) ((q x).bytes x h.rest k.rest (refl, h.second) (refl, k.second)) ∙ sym k.whole;
}

-- two parts, of which the second may depend on the first
pub unique_both : {A C : Type 0} (F : A → Spellings) (G : A → C → Spellings) → IsUnique F → ((x : A) → IsUnique (G x)) → IsUnique (λ (both : A × C). F both.0 ⨾ G both.0 both.1)
unique_both {A} {C} F G p q =
    unique_after F (λ (both : A × C). both.0) (λ both. G both.0 both.1) p
    (λ x. unique_via (G x.0) (λ (both : A × C). given (both.0 ≡ x.0) (G both.0 both.1)) (λ both. both.1) (q x.0)
    (λ y t h. subst (λ a. G a y.1 t) h.0 h.1) (λ y z a b h k e. ap₂ (λ s t. (s, t)) (h.0 ∙ sym k.0) e))

pub unique_pair : {A C : Type 0} {F : A → Spellings} {G : C → Spellings} → IsUnique F → IsUnique G → IsUnique (λ (both : A × C). F both.0 ⨾ G both.1)
unique_pair {A} {C} {F} {G} p q = unique_both F (λ x. G) p (λ x. q)

-- a case of several: all things of that code are made by `to`
pub unique_case : {A X : Type 0} (code : X → ℕ) (S : X → Spellings) (to : A → X) (n : ℕ) → ((y : X) → code y ≡ n → (b : A) × (y ≡ to b)) → IsUnique (λ b. S (to b)) → IsUnique (λ y. given (code y ≡ n) (S y))
unique_case code S to n cover p = record {
  thing = λ x y a b u v h k e.
      let one = cover x h.0 in
      let other = cover y k.0 in
      let r = p.thing one.0 other.0 a b u v (subst (λ z. S z a) one.1 h.1) (subst (λ z. S z b) other.1 k.1) e in
      (one.1 ∙ ap to r.0 ∙ sym other.1, r.1);
  bytes = λ x a b h k. let one = cover x h.0 in p.bytes one.0 a b (subst (λ z. S z a) one.1 h.1) (subst (λ z. S z b) one.1 k.1);
}

-- no bytes
pub unique_nothing : {A : Type 0} → ((x y : A) → x ≡ y) → IsUnique (λ (x : A). nothing)
unique_nothing one = record {
  thing = λ x y a b u v h k e. (one x y, ap (λ t. t ++ u) (sym h) ∙ e ∙ ap (λ t. t ++ v) k);
  bytes = λ x a b h k. h ∙ sym k;
}

-- a byte, and a code
pub unique_byte : IsUnique byte
unique_byte = record {
  thing = λ x y a b u v h k e.
      let whole : x ∷ u ≡ y ∷ v = ap (λ t. t ++ u) (sym h) ∙ e ∙ ap (λ t. t ++ v) k in
      (ap (λ t. get_or t 0 0) whole, ap (drop 1) whole);
  bytes = λ x a b h k. h ∙ sym k;
}

pub unique_code : {X : Type 0} (code : X → ℕ) → ((x y : X) → code x ≡ code y → x ≡ y) → IsUnique (λ y. byte (code y))
unique_code code same = unique_via byte (λ y. byte (code y)) code unique_byte (λ y t h. h) (λ x y a b h k e. same x y e)

-- so many bytes as they stand
pub unique_exactly : (n : ℕ) → IsUnique (λ these. given (length these ≡ n) (exactly these))
unique_exactly n = record {
  thing = λ x y a b u v h k e.
      let same = front_same a b u v (ap length h.1 ∙ h.0 ∙ sym k.0 ∙ sym (ap length k.1)) e in
      (sym h.1 ∙ same ∙ k.1, rest_same a b u v same e);
  bytes = λ x a b h k. h.1 ∙ sym k.1;
}

-- numbers
pub unique_u64 : IsUnique u64
unique_u64 = record {
  thing = λ x y a b u v h k e.
      let same = one_end 64 64 a b u v x y h.spelled k.spelled e in
      (one_value 64 b x y (subst (λ (t : List ℕ). IsUnsigned 64 t x) same h.spelled) k.spelled, rest_same a b u v same e);
  bytes = λ x a b h k. one_shortest 64 a b x h k;
}

pub unique_u32 : IsUnique u32
unique_u32 = unique_given u64 (λ n. n < 2 ^ 32) unique_u64

pub unique_gap : (least : ℕ) → IsUnique (gap least)
unique_gap least = record {
  thing = λ x y a b u v h k e.
      let r = unique_u32.thing h.1 k.1 a b u v h.3 k.3 e in
      (h.2 ∙ ap (λ n. least + n) r.0 ∙ sym k.2, r.1);
  bytes = λ x a b h k.
      let one = h.2 in
      let other = k.2 in
      let far : h.1 ≡ k.1 = omega arith in
      unique_u32.bytes h.1 a b h.3 (subst (λ (n : ℕ). u32 n b) (sym far) k.3);
}

-- ---- things one after another

module _ {S A : Type 0} (next : S → A → S) (B : S → A → Spellings) (p : (state : S) → IsUnique (B state)) where
  pub each_thing : (state : S) (xs ys : List A) (a b u v : List ℕ) → length xs ≡ length ys → each_after next B state xs a → each_after next B state ys b → a ++ u ≡ b ++ v → (xs ≡ ys) × (u ≡ v)
  each_thing state [] [] a b u v long h k e = (refl, ap (λ t. t ++ u) (sym h) ∙ e ∙ ap (λ t. t ++ v) k)
  each_thing state [] (y ∷ ys) a b u v long h k e = absurd (omega arith)
  each_thing state (x ∷ xs) [] a b u v long h k e = absurd (omega arith)
  each_thing state (x ∷ xs) (y ∷ ys) a b u v long h k e =
      let first = (p state).thing x y h.front k.front (h.rest ++ u) (k.rest ++ v) h.first k.first (parted a b u v h.front h.rest k.front k.rest e h.whole k.whole) in
      let rest = each_thing (next state x) xs ys h.rest k.rest u v (omega arith) h.second (subst (λ z. each_after next B (next state z) ys k.rest) (sym first.0) k.second) first.1 in
      (ap₂ (λ z zs. z ∷ zs) first.0 rest.0, rest.1)

  pub each_bytes : (state : S) (xs : List A) (a b : List ℕ) → each_after next B state xs a → each_after next B state xs b → a ≡ b
  each_bytes state [] a b h k = h ∙ sym k
  each_bytes state (x ∷ xs) a b h k =
      h.whole ∙ ap₂ (λ s t. s ++ t) ((p state).bytes x h.front k.front h.first k.first) (each_bytes (next state x) xs h.rest k.rest h.second k.second) ∙ sym k.whole

  -- so many of them
  pub unique_counted : (state : S) (n : ℕ) → IsUnique (λ xs. given (length xs ≡ n) (each_after next B state xs))
  unique_counted state n = record {
    thing = λ xs ys a b u v h k e. each_thing state xs ys a b u v (h.0 ∙ sym k.0) h.1 k.1 e;
    bytes = λ xs a b h k. each_bytes state xs a b h.1 k.1;
  }

pub unique_each : {A : Type 0} (B : A → Spellings) (n : ℕ) → IsUnique B → IsUnique (λ xs. given (length xs ≡ n) (each B xs))
unique_each B n p = unique_counted (λ state x. state) (λ state. B) (λ state. p) (tt {0}) n

pub unique_vec : {A : Type 0} (B : A → Spellings) → IsUnique B → IsUnique (vec B)
unique_vec B p = unique_after u32 length (each B) unique_u32 (λ x. unique_each B (length x) p)

pub unique_rising : {A : Type 0} (number : A → ℕ) (B : A → Spellings) → ((x : A) → IsUnique (λ y. given (number y ≡ number x) (B y))) → IsUnique (λ xs. u32 (length xs) ⨾ rising number B xs)
unique_rising number B p =
    unique_after u32 length (rising number B) unique_u32
    (λ x. unique_counted (λ least y. suc (number y)) (λ least y. gap least (number y) ⨾ B y) (λ least. unique_after (gap least) number B (unique_gap least) p) 0 (length x))

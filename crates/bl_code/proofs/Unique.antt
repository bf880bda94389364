-- Spellings are prefix-free: each combinator of the grammar.
use Rattle.std.proofs.Common.{◌≡◌, ℕ, List, [], ◌∷◌, ◌++◌, length, append_assoc, ap, sym, ◌∙◌, refl, subst, arith}
use Rattle.bl_leb.proofs.Signed as signed
use Rattle.std.specs.Int.{w32, w64, from_le_bytes}
use Rattle.bl_base.proofs.Lists.{front_same, rest_same}
use Rattle.bl_leb.specs.Numbers.{IsSigned}
use Rattle.bl_ops.specs.Integer.{unsigned as unsigned_of}
use Rattle.bl_leb.specs.Grammar.{Spellings, ◌⨾◌, nothing, exactly, byte, given}
use Rattle.bl_wasm.specs.Values.{each, u32, int, f32, f64, vec, byte_vec, name, sized}
use Rattle.bl_code.specs.Laws.{u32_prefix_free}
use Rattle.bl_code.specs.Unique.{Same, PrefixFree}

-- no bytes
pub nothing_same : {P : Type 0} → P → Same nothing nothing P
nothing_same holds = record { both = λ a b u v p q e. (p ∙ sym q, holds) }

-- these bytes
pub exactly_same : (xs ys : List ℕ) → length xs ≡ length ys → Same (exactly xs) (exactly ys) (xs ≡ ys)
exactly_same xs ys long = record {
  both = λ a b u v p q e.
      let lengths : length a ≡ length b = ap length p ∙ long ∙ sym (ap length q) in
      let same = front_same a b u v lengths e in
      (same, sym p ∙ same ∙ q);
}

-- one byte
pub byte_same : (m n : ℕ) → Same (byte m) (byte n) (m ≡ n)
byte_same m n = record {
  both = λ a b u v p q e.
      let same = (exactly_same (m ∷ []) (n ∷ []) refl).both a b u v p q e in
      let first : m ≡ n = let lists = same.1 in cc in
      (same.0, first);
}

-- one after another; the second ones may differ where the first ones do
pub seq_same : {F G S T : Spellings} {P Q : Type 0} → Same F G P → (P → Same S T Q) → Same (F ⨾ S) (G ⨾ T) Q
seq_same first second = record {
  both = λ a b u v p q e.
      let whole : p.front ++ (p.rest ++ u) ≡ q.front ++ (q.rest ++ v)
      = sym (append_assoc p.front p.rest u) ∙ ap (λ t. t ++ u) (sym p.whole) ∙ e ∙ ap (λ t. t ++ v) q.whole ∙ append_assoc q.front q.rest v in
      let fronts = first.both p.front q.front (p.rest ++ u) (q.rest ++ v) p.first q.first whole in
      let rests = (second fronts.1).both p.rest q.rest u v p.second q.second (rest_same p.front q.front (p.rest ++ u) (q.rest ++ v) fronts.0 whole) in
      (p.whole ∙ ap (λ t. t ++ p.rest) fronts.0 ∙ ap (λ t. q.front ++ t) rests.0 ∙ sym q.whole, rests.1);
}

-- under conditions
pub given_same : {S T : Spellings} {C D P : Type 0} → Same S T P → Same (given C S) (given D T) P
given_same one = record { both = λ a b u v p q e. one.both a b u v p.1 q.1 e }

-- what follows from what is equal
pub then_same : {S T : Spellings} {P Q : Type 0} → (P → Q) → Same S T P → Same S T Q
then_same f one = record { both = λ a b u v p q e. let same = one.both a b u v p q e in (same.0, f same.1) }

-- a number
pub u32_same : (m n : ℕ) → Same (u32 m) (u32 n) (m ≡ n)
u32_same m n = u32_prefix_free.same m n

-- as many spellings, one after another
pub each_same : {A : Type 0} {B : A → Spellings} → PrefixFree B → (xs ys : List A) → length xs ≡ length ys → Same (each B xs) (each B ys) (xs ≡ ys)
each_same one [] [] long = nothing_same refl
each_same one [] (y ∷ ys) long = absurd (omega arith)
each_same one (x ∷ xs) [] long = absurd (omega arith)
each_same one (x ∷ xs) (y ∷ ys) long = seq_same (one.same x y) (λ first. then_same (λ rest. cc) (each_same one xs ys (omega arith)))

-- a vector
pub vec_prefix_free : {A : Type 0} {B : A → Spellings} → PrefixFree B → PrefixFree (vec B)
vec_prefix_free one = record { same = λ xs ys. seq_same (u32_same (length xs) (length ys)) (λ long. each_same one xs ys long) }

-- a vector of bytes
pub byte_vec_prefix_free : PrefixFree byte_vec
byte_vec_prefix_free = record { same = λ xs ys. seq_same (u32_same (length xs) (length ys)) (λ long. exactly_same xs ys long) }

-- a name
pub name_prefix_free : PrefixFree name
name_prefix_free = record { same = λ xs ys. given_same (byte_vec_prefix_free.same xs ys) }

-- behind a size
pub sized_same : {S T : Spellings} {P : Type 0} → Same S T P → Same (sized S) (sized T) P
sized_same one = record {
  both = λ a b u v p q e.
      let whole : p.size ++ (p.contents ++ u) ≡ q.size ++ (q.contents ++ v)
      = sym (append_assoc p.size p.contents u) ∙ ap (λ t. t ++ u) (sym p.whole) ∙ e ∙ ap (λ t. t ++ v) q.whole ∙ append_assoc q.size q.contents v in
      let sizes = (u32_same (length p.contents) (length q.contents)).both p.size q.size (p.contents ++ u) (q.contents ++ v) p.counted q.counted whole in
      let contents = front_same p.contents q.contents u v sizes.1 (rest_same p.size q.size (p.contents ++ u) (q.contents ++ v) sizes.0 whole) in
      let inner = one.both p.contents q.contents [] [] p.spelled q.spelled (ap (λ t. t ++ []) contents) in
      (p.whole ∙ ap (λ t. t ++ p.contents) sizes.0 ∙ ap (λ t. q.size ++ t) contents ∙ sym q.whole, inner.1);
}

pub sized_prefix_free : {A : Type 0} {B : A → Spellings} → PrefixFree B → PrefixFree (λ x. sized (B x))
sized_prefix_free one = record { same = λ x y. sized_same (one.same x y) }

-- a number by the signed one with the same bits
pub int_same : (N m n : ℕ) → Same (int N m) (int N n) (m ≡ n)
int_same N m n = record {
  both = λ a b u v p q e.
      let same = signed.one_end N N a b u v p.0 q.0 p.1 q.1 e in
      let value = signed.one_value N b p.0 q.0 (subst (λ (t : List ℕ). IsSigned N t p.0) same p.1) q.1 in
      (same, p.2 ∙ ap (unsigned_of N) value ∙ sym q.2);
}

-- a float
pub f32_same : (m n : ℕ) → Same (f32 m) (f32 n) (m ≡ n)
f32_same m n = record {
  both = λ a b u v p q e.
      let same = front_same a b u v (p.0 ∙ sym q.0) e in
      (same, p.1 ∙ ap (from_le_bytes w32) same ∙ sym q.1);
}

pub f64_same : (m n : ℕ) → Same (f64 m) (f64 n) (m ≡ n)
f64_same m n = record {
  both = λ a b u v p q e.
      let same = front_same a b u v (p.0 ∙ sym q.0) e in
      (same, p.1 ∙ ap (from_le_bytes w64) same ∙ sym q.1);
}

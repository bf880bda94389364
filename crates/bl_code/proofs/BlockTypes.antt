-- Value types and block types are prefix-free: each is a spelling of one signed number of 33 bits.
use Rattle.std.proofs.Common.{◌≡◌, ◌≢◌, ℕ, ℤ, pos, negsuc, ◌≤◌, ◌<◌, List, [], ◌∷◌, ap, sym, ◌∙◌, refl, subst, arith, inr, slice_range}
use Rattle.std.specs.Prelude.{◌==◌, ◌-ℤ◌, if◌then◌else◌}
use Rattle.bl_leb.proofs.Signed as signed
use Rattle.bl_leb.specs.Numbers.{IsSigned, IsSignedNumber}
use Rattle.bl_leb.specs.Spellings.{IsSpelledAt}
use Rattle.bl_wasm.specs.Types.{block_type, value_type}
use Rattle.bl_leb.specs.Grammar.{byte}
use Rattle.bl_wasm.specs.declared.types.BlockType.{BlockType}
use Rattle.bl_wasm.specs.declared.types.BlockType.TheVariants.{Empty, Value, Index}
use Rattle.bl_wasm.specs.declared.types.WasmType.{WasmType}
use Rattle.bl_wasm.specs.declared.types.WasmType.TheVariants.{I32, I64, F32, F64}
use Rattle.bl_code.specs.ReaderAnswers.{IsAt, NoneAt}
use Rattle.bl_code.specs.Types.{type_index}
use Rattle.bl_code.specs.Unique.{PrefixFree}
use Rattle.bl_code.proofs.Places.{stands, same_at, one_at, none_behind}
use Rattle.bl_code.proofs.Unique.{byte_same}

-- the number that a block type's spelling is one of
abbrev number_of : BlockType → ℤ
number_of Empty = negsuc 63
number_of (Value I32) = negsuc 0
number_of (Value I64) = negsuc 1
number_of (Value F32) = negsuc 2
number_of (Value F64) = negsuc 3
number_of (Index index) = pos index

-- and the block type of a number
abbrev type_of : ℤ → BlockType
type_of (pos n) = Index n
type_of (negsuc n) = if n == 63 then Empty else (if n == 0 then Value I32 else (if n == 1 then Value I64 else (if n == 2 then Value F32 else Value F64)))

type_again : (x : BlockType) → type_of (number_of x) ≡ x
type_again Empty = refl
type_again (Value I32) = refl
type_again (Value I64) = refl
type_again (Value F32) = refl
type_again (Value F64) = refl
type_again (Index index) = refl

-- one byte from 64 to 127 spells a negative number
byte_number : (n : ℕ) (value : ℤ) (a : List ℕ) → 64 ≤ n → n < 128 → value ≡ pos n -ℤ pos 128 → a ≡ n ∷ [] → IsSigned 33 a value
byte_number n value a low high is e = subst (λ (t : List ℕ). IsSigned 33 t value) (sym e) (inr (omega arith, omega arith, omega arith, is))

spells_number : (x : BlockType) (a : List ℕ) → block_type x a → IsSigned 33 a (number_of x)
spells_number Empty a h = byte_number 0x40 (negsuc 63) a (omega arith) (omega arith) refl h
spells_number (Value I32) a h = byte_number 0x7F (negsuc 0) a (omega arith) (omega arith) refl h
spells_number (Value I64) a h = byte_number 0x7E (negsuc 1) a (omega arith) (omega arith) refl h
spells_number (Value F32) a h = byte_number 0x7D (negsuc 2) a (omega arith) (omega arith) refl h
spells_number (Value F64) a h = byte_number 0x7C (negsuc 3) a (omega arith) (omega arith) refl h
spells_number (Index index) a h = h

pub block_type_prefix_free : PrefixFree block_type
block_type_prefix_free = record {
  same = λ x y. record {
    both = λ a b u v p q e.
        let f = spells_number x a p in
        let g = spells_number y b q in
        let same = signed.one_end 33 33 a b u v (number_of x) (number_of y) f g e in
        let number = signed.one_value 33 b (number_of x) (number_of y) (subst (λ (t : List ℕ). IsSigned 33 t (number_of x)) same f) g in
        (same, sym (type_again x) ∙ ap type_of number ∙ type_again y);
  };
}

pub value_type_prefix_free : PrefixFree value_type
value_type_prefix_free = record {
  same = λ x y. record {
    both = λ a b u v p q e.
        let both = (block_type_prefix_free.same (Value x) (Value y)).both a b u v p q e in
        let whole : Value x ≡ Value y = both.1 in
        (both.0, cc);
  };
}

-- a type's spelling has a byte
pub type_never_empty : (x : WasmType) → value_type x [] → ⊥
type_never_empty I32 h = cc
type_never_empty I64 h = cc
type_never_empty F32 h = cc
type_never_empty F64 h = cc

pub block_never_empty : (x : BlockType) → block_type x [] → ⊥
block_never_empty Empty h = cc
block_never_empty (Value x) h = type_never_empty x h
block_never_empty (Index index) h = absurd h

signed_prefix_free : PrefixFree (λ (value : ℤ) these. IsSigned 33 these value)
signed_prefix_free = record {
  same = λ v w. record {
    both = λ a b x y p q e.
        let same = signed.one_end 33 33 a b x y v w p q e in
        (same, signed.one_value 33 b v w (subst (λ (t : List ℕ). IsSigned 33 t v) same p) q);
  };
}

-- where a signed number of 33 bits stands, an index stands only if it is that number
pub index_same : (bytes : List ℕ) (i j k n : ℕ) (value : ℤ) → IsSpelledAt (IsSigned 33) bytes i j value → IsAt type_index bytes i k n → (value ≡ pos n) × IsSignedNumber 33 (pos n)
index_same bytes i j k n value p q =
    let first : IsAt (λ (v : ℤ) these. IsSigned 33 these v) bytes i j value = record { forward = p.forward; inside = p.inside; spelled = p.spelled } in
    let second : IsAt (λ (v : ℤ) these. IsSigned 33 these v) bytes i k (pos n) = record { forward = q.forward; inside = q.inside; spelled = q.spelled } in
    ((one_at bytes i j k value (pos n) signed_prefix_free first second).1, signed.bounded 33 (slice_range bytes i k) (pos n) q.spelled)

-- a byte that is neither 40 nor a value type begins a block type only as the index of one
pub none_block : (bytes : List ℕ) (i j code : ℕ) → IsAt byte bytes i j code → code ≢ 0x40 → ((x : WasmType) (rest : List ℕ) → value_type x (code ∷ rest) → ⊥) → NoneAt type_index bytes i → NoneAt block_type bytes i
none_block bytes i j code first other none no_index Empty end h =
    other (same_at bytes i j end (byte_same code 0x40) (stands byte bytes i j code first) (stands block_type bytes i end Empty h)).1
none_block bytes i j code first other none no_index (Value x) end h =
    let here : IsAt value_type bytes i end x = record { forward = h.forward; inside = h.inside; spelled = h.spelled } in
    none_behind value_type bytes i j code type_never_empty first (λ y last g. none y (slice_range bytes j last) g.spelled) x end here
none_block bytes i j code first other none no_index (Index index) end h =
    no_index index end (record { forward = h.forward; inside = h.inside; spelled = h.spelled })

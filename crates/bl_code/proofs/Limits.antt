-- Limits, behind their first byte.
use Rattle.std.proofs.Common.{◌≡◌, ◌≢◌, ℕ, List, [], ◌∷◌, ◌++◌, Option, Some, None, ap, ap₂, sym, ◌∙◌, refl, subst, arith, append-nil}
use Rattle.std.specs.Prelude.{unwrap_or}
use Rattle.bl_wasm.specs.Types.{limits, limits_of}
use Rattle.bl_leb.specs.Grammar.{Spellings, ◌⨾◌, byte}
use Rattle.bl_wasm.specs.Values.{u32}
use Rattle.bl_wasm.specs.declared.types.Limits.{Limits}
use Rattle.bl_code.specs.Types.{maximum}
use Rattle.bl_code.specs.ReaderAnswers.{IsAt, NoneAt, Refuses, behind}
use Rattle.bl_code.specs.Unique.{Same, PrefixFree}
use Rattle.bl_code.specs.declared.error.CodeError.{CodeError}
use Rattle.bl_code.proofs.Places.{err_along, stands, is_at, join, as_other}
use Rattle.bl_code.proofs.Shapes.{after_byte}
use Rattle.bl_code.proofs.Immediates.{before}
use Rattle.bl_code.proofs.Unique.{byte_same, u32_same, seq_same, then_same}

-- behind the first byte stand the minimum and then the maximum
behind_first : (min : ℕ) (max : Option ℕ) (form : ℕ) (t : List ℕ) → limits_of min max (form ∷ t) → (u32 min ⨾ maximum form max) t
behind_first min None form t h =
    let p = after_byte 0x00 form t h in
    record { front = t; rest = []; whole = sym (append-nil t); first = p.1; second = (sym p.0, refl) }
behind_first min (Some max) form t h =
    let p = after_byte 0x01 form t h in
    record { front = p.1.front; rest = p.1.rest; whole = p.1.whole; first = p.1.first; second = (sym p.0, p.1.second) }

-- and so the whole
with_first : (min : ℕ) (max : Option ℕ) (form : ℕ) (t : List ℕ) → (u32 min ⨾ maximum form max) t → limits_of min max (form ∷ t)
with_first min None form t h =
    let same : h.front ≡ t = sym (h.whole ∙ ap (λ r. h.front ++ r) h.second.1 ∙ append-nil h.front) in
    subst (λ (n : ℕ). limits_of min None (n ∷ t)) (sym h.second.0) (before 0x00 t (subst (u32 min) same h.first))
with_first min (Some max) form t h =
    subst (λ (n : ℕ). limits_of min (Some max) (n ∷ t)) (sym h.second.0) (before 0x01 t (record { front = h.front; rest = h.rest; whole = h.whole; first = h.first; second = h.second.1 }))

pub limits_never_empty : (x : Limits) → limits x [] → ⊥
limits_never_empty x h = never x.min x.max h
  where
    no_bytes : {S : Spellings} {c : ℕ} → (byte c ⨾ S) [] → ⊥
    no_bytes {S} {c} h = let whole : [] ≡ c ∷ h.rest = h.whole ∙ ap (λ t. t ++ h.rest) h.first in cc

    never : (min : ℕ) (max : Option ℕ) → limits_of min max [] → ⊥
    never min None h = no_bytes h
    never min (Some max) h = no_bytes h

pub err_bounds : (form : ℕ) (bytes : List ℕ) (j : ℕ) (e : CodeError) → Refuses (λ (x : Limits). u32 x.min ⨾ maximum form x.max) bytes j e → Refuses (behind limits form) bytes j e
err_bounds form bytes j e h = err_along (λ (x : Limits). u32 x.min ⨾ maximum form x.max) (behind limits form) (λ x. x) bytes j e (λ x t p. behind_first x.min x.max form t p) h

pub bounds_at : (form : ℕ) (bytes : List ℕ) (i j k min : ℕ) (max : Option ℕ) → IsAt u32 bytes i j min → IsAt (maximum form) bytes j k max → IsAt (behind limits form) bytes i k (record { min = min; max = max })
bounds_at form bytes i j k min max p q =
    let both = join bytes i j k (stands u32 bytes i j min p) (stands (maximum form) bytes j k max q) in
    is_at (behind limits form) bytes i k (record { min = min; max = max }) (as_other bytes i k (with_first min max form) both)

-- no limits begin others
abbrev made : ℕ → Option ℕ → Limits
made min max = record { min = min; max = max }

of_same : (m n : ℕ) (a b : Option ℕ) → Same (limits_of m a) (limits_of n b) (made m a ≡ made n b)
of_same m n None None = seq_same (byte_same 0 0) (λ _. then_same (λ e. ap (λ k. made k None) e) (u32_same m n))
of_same m n None (Some b) = seq_same (byte_same 0 1) (λ e. absurd (omega arith))
of_same m n (Some a) None = seq_same (byte_same 1 0) (λ e. absurd (omega arith))
of_same m n (Some a) (Some b) = seq_same (byte_same 1 1) (λ _. seq_same (u32_same m n) (λ e. then_same (λ f. ap₂ (λ k l. made k (Some l)) e f) (u32_same a b)))

pub limits_prefix_free : PrefixFree limits
limits_prefix_free = record { same = λ x y. of_same x.min y.min x.max y.max }

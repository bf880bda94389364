-- What stands behind the first byte of an entry.
use Rattle.std.proofs.Common.{◌≡◌, ℕ, List, ◌∙◌, Result, arith, subst, sym}
use Rattle.std.specs.Result.{IsErrAnd}
use Rattle.bl_leb.specs.Grammar.{Spellings, byte}
use Rattle.bl_wasm.specs.Values.{u32}
use Rattle.bl_code.specs.ReaderAnswers.{IsAt, NoneAt, Finds}
use Rattle.bl_code.specs.Unique.{PrefixFree}
use Rattle.bl_code.specs.declared.error.Malformed.{Malformed}
use Rattle.bl_code.proofs.Places.{is_at, join, none_after, passes_none, stands}
use Rattle.bl_code.proofs.Unique.{byte_same}
use Rattle.bl_labels.specs.Entries.{entry_code, entry, named, place}
use Rattle.bl_labels.specs.declared.entry.Entry.{Entry}
use Rattle.bl_labels.specs.declared.entry.Entry.TheVariants.{SecretParam, SecretGlobal, SecretMemory, PublicResult, PublicGlobal}
use Rattle.bl_labels.specs.declared.labels.Place.{Place}

pub byte_prefix_free : PrefixFree byte
byte_prefix_free = record { same = byte_same }

-- the indices of a place, one behind the other
pub place_at : (bytes : List ℕ) (i j k f n : ℕ) → IsAt u32 bytes i j f → IsAt u32 bytes j k n → IsAt place bytes i k (record { function = f; index = n })
place_at bytes i j k f n first second =
    is_at place bytes i k (record { function = f; index = n }) (join bytes i j k (stands u32 bytes i j f first) (stands u32 bytes j k n second))

module _ {A : Type 0} (F : A → Spellings) (n code : ℕ) (is : code ≡ n) (bytes : List ℕ) (i j : ℕ) (first : IsAt byte bytes i j code) where
  -- an entry by its byte and what is behind it
  pub at_entry : (kind : A → Entry) (y : A) (k : ℕ) → ((t : List ℕ) → F y t → named (kind y) t) → entry_code (kind y) ≡ n → IsAt F bytes j k y → IsAt entry bytes i k (kind y)
  at_entry kind y k spells known h =
      let code : IsAt byte bytes i j (entry_code (kind y)) = subst (IsAt byte bytes i j) (is ∙ sym known) first in
      let behind : IsAt named bytes j k (kind y) = record { forward = h.forward; inside = h.inside; spelled = spells _ h.spelled } in
      is_at entry bytes i k (kind y) (join bytes i j k (stands byte bytes i j (entry_code (kind y)) code) (stands named bytes j k (kind y) behind))

  -- where what is behind the byte isn't spelled, no entry is
  pub none_entry : (r : Result (Entry × ℕ) Malformed) (e : Malformed) → ((x : Entry) (t : List ℕ) → entry_code x ≡ n → named x t → (y : A) × F y t) → IsErrAnd r (λ y. y ≡ e) → NoneAt F bytes j
      → Finds entry bytes i r
  none_entry r e only gives none =
      passes_none entry bytes i r e gives (none_after entry_code bytes i j n byte_prefix_free (subst (IsAt byte bytes i j) is first)
      (λ x k h. let p = only x _ h.spelled.0 h.spelled.1 in none p.0 k (record { forward = h.forward; inside = h.inside; spelled = p.1 })))

pub only_param : (x : Entry) (t : List ℕ) → entry_code x ≡ 0 → named x t → (y : Place) × place y t
only_param (SecretParam y) t e h = (y, h)
only_param x t e h = absurd (omega arith)

pub only_global : (x : Entry) (t : List ℕ) → entry_code x ≡ 1 → named x t → (y : ℕ) × u32 y t
only_global (SecretGlobal y) t e h = (y, h)
only_global x t e h = absurd (omega arith)

pub only_memory : (x : Entry) (t : List ℕ) → entry_code x ≡ 2 → named x t → (y : ℕ) × u32 y t
only_memory (SecretMemory y) t e h = (y, h)
only_memory x t e h = absurd (omega arith)

pub only_result : (x : Entry) (t : List ℕ) → entry_code x ≡ 3 → named x t → (y : Place) × place y t
only_result (PublicResult y) t e h = (y, h)
only_result x t e h = absurd (omega arith)

pub only_public : (x : Entry) (t : List ℕ) → entry_code x ≡ 4 → named x t → (y : ℕ) × u32 y t
only_public (PublicGlobal y) t e h = (y, h)
only_public x t e h = absurd (omega arith)

-- no other byte begins an entry
other_code : (n : ℕ) (x : Entry) → (n ≡ 0 → ⊥) → (n ≡ 1 → ⊥) → (n ≡ 2 → ⊥) → (n ≡ 3 → ⊥) → (n ≡ 4 → ⊥) → entry_code x ≡ n → ⊥
other_code n (SecretParam y) a b c d f e = a (omega arith)
other_code n (SecretGlobal y) a b c d f e = b (omega arith)
other_code n (SecretMemory y) a b c d f e = c (omega arith)
other_code n (PublicResult y) a b c d f e = d (omega arith)
other_code n (PublicGlobal y) a b c d f e = f (omega arith)

pub none_other : (n : ℕ) (bytes : List ℕ) (i j : ℕ) → (n ≡ 0 → ⊥) → (n ≡ 1 → ⊥) → (n ≡ 2 → ⊥) → (n ≡ 3 → ⊥) → (n ≡ 4 → ⊥) → IsAt byte bytes i j n → NoneAt entry bytes i
none_other n bytes i j a b c d f first = none_after entry_code bytes i j n byte_prefix_free first (λ x k h. other_code n x a b c d f h.spelled.0)

-- The bytes of the memories in the machine's memory.
use Rattle.std.proofs.Common.{◌≡◌, ℕ, zero, suc, ◌+◌, ◌-◌, ◌*◌, ◌/◌, ◌%◌, ◌^◌, ◌<◌, ◌≤◌, ◌⊎◌, inl, inr, List, [], ◌∷◌, ◌++◌, length, take, drop, get_or, slice_index, refl, sym, ap, ap₂, ◌∙◌, arith, length-append, length-take, length-drop}
use Rattle.std.proofs.Math.ListN.{get_or-append}
use Rattle.std.proofs.Math.Nat.{pow-suc, mod-one}
use Rattle.std.proofs.Math.Seq.{drop-cons}
use Rattle.std.proofs.lemmas.List.{get_or-take, get_or-append_right, get_or-drop}
use Rattle.std.proofs.lemmas.Nat.{mod-pow-add}
use Rattle.std.proofs.lemmas.Bool.{cases_lt}
use Rattle.bl_base.specs.Bytes.{number_of, bytes_of}
use Rattle.bl_base.proofs.ByteLemmas.{length-bytes_of}
use Rattle.bl_bytes.specs.Overlays.{overlay}
use Rattle.bl_x64.specs.Machines.{bytes_at, written}
use Rattle.bl_x64.proofs.MemoryLemmas.{written_inside, written_outside}

-- a machine's memory has a space of bytes from a place on
abbrev pub HasSpace : (ℕ → ℕ) → ℕ → List ℕ → Type 0
HasSpace memory start space = (place : ℕ) → place < length space → memory (start + place) ≡ slice_index space place

-- ---- what is read

pub read_space : (memory : ℕ → ℕ) (start from count : ℕ) (space : List ℕ) → HasSpace memory start space → from + count ≤ length space
    → bytes_at memory (start + from) count ≡ take count (drop from space)
read_space memory start from zero space h le = refl
read_space memory start from (suc count) space h le =
    let next : suc (start + from) ≡ start + suc from = omega arith in
    let lt : from < length space = omega arith in
    let more = ap (λ at. bytes_at memory at count) next ∙ read_space memory start (suc from) count space h (omega arith) in
    ap₂ (λ x l. x ∷ l) (h from lt) more ∙ ap (take (suc count)) (sym (drop-cons space from 0 lt))

-- bytes are a number below a power
pub number_below : (memory : ℕ → ℕ) (from count : ℕ) → ((at : ℕ) → memory at < 2 ^ 8) → number_of (bytes_at memory from count) < 256 ^ count
number_below memory from zero h = omega arith
number_below memory from (suc count) h = omega (arith, h from, number_below memory (suc from) count h, pow-suc 256 count)

-- ---- what is written

-- so many bytes of a number are those of its lowest bits
pub lowest_bytes : (width number : ℕ) → bytes_of width (number % 2 ^ (8 * width)) ≡ bytes_of width number
lowest_bytes zero number = refl
lowest_bytes (suc width) number =
    let width_is : 8 * suc width ≡ 8 * width + 8 = omega arith in
    let split = ap (λ (x : ℕ). number % 2 ^ x) width_is ∙ mod-pow-add number (8 * width) 8 in
    let first : number % 2 ^ (8 * suc width) % 256 ≡ number % 256 = omega (arith, split) in
    let rest : number % 2 ^ (8 * suc width) / 256 ≡ number / 256 % 2 ^ (8 * width) = omega (arith, split) in
    ap₂ (λ (x : ℕ) l. x ∷ l) first (ap (bytes_of width) rest ∙ lowest_bytes width (number / 256))

module _ (from : ℕ) (new space : List ℕ) (fits : from + length new ≤ length space) where
  abbrev parts : List ℕ
  parts = take from space ++ new ++ drop (from + length new) space

  length_front : length (take from space) ≡ from
  length_front = omega (arith, length-take from space)

  in_front : (k : ℕ) → k < from → slice_index (overlay from new space) k ≡ slice_index space k
  in_front k lt =
      let front : k < length (take from space) = omega (arith, length_front) in
      let both : k < length (take from space ++ new) = omega (arith, length-append (take from space) new) in
      get_or-take (length space) parts k 0 (omega arith)
      ∙ get_or-append (take from space ++ new) (drop (from + length new) space) 0 k both
      ∙ get_or-append (take from space) new 0 k front
      ∙ get_or-take from space k 0 lt

  in_new : (k : ℕ) → from ≤ k → k < from + length new → slice_index (overlay from new space) k ≡ slice_index new (k - from)
  in_new k le lt =
      let both : k < length (take from space ++ new) = omega (arith, length_front, length-append (take from space) new) in
      get_or-take (length space) parts k 0 (omega arith)
      ∙ get_or-append (take from space ++ new) (drop (from + length new) space) 0 k both
      ∙ get_or-append_right (take from space) new from k 0 length_front le

  in_back : (k : ℕ) → from + length new ≤ k → k < length space → slice_index (overlay from new space) k ≡ slice_index space k
  in_back k le lt =
      let count : length (take from space ++ new) ≡ from + length new = omega (arith, length_front, length-append (take from space) new) in
      get_or-take (length space) parts k 0 lt
      ∙ get_or-append_right (take from space ++ new) (drop (from + length new) space) (from + length new) k 0 count le
      ∙ get_or-drop (from + length new) space (k - (from + length new)) 0
      ∙ ap (λ (x : ℕ). get_or space x 0) (omega arith)

  -- the machine's memory and the space with the same bytes written
  pub write_space : (memory : ℕ → ℕ) (start : ℕ) → HasSpace memory start space → (k : ℕ) → k < length space
      → written memory (start + from) new (start + k) ≡ slice_index (overlay from new space) k
  write_space memory start h k lt = by_place (cases_lt k from) (cases_lt k (from + length new))
    where
      by_place : (k < from) ⊎ (from ≤ k) → (k < from + length new) ⊎ (from + length new ≤ k) → written memory (start + from) new (start + k) ≡ slice_index (overlay from new space) k
      by_place (inl before) any = written_outside memory (start + from) (start + k) new (inl (omega arith)) ∙ h k lt ∙ sym (in_front k before)
      by_place (inr le) (inl lower) = written_inside memory (start + from) (start + k) new (omega arith) (omega arith)
          ∙ ap (λ (x : ℕ). slice_index new x) (omega arith) ∙ sym (in_new k le lower)
      by_place (inr le) (inr past) = written_outside memory (start + from) (start + k) new (inr (omega arith)) ∙ h k lt ∙ sym (in_back k past lt)

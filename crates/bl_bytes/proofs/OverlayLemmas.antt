-- Bytes that are written over others, and bytes as numbers.
use Rattle.std.proofs.Common.{◌≡◌, ℕ, zero, suc, ◌+◌, ◌-◌, ◌/◌, ◌%◌, ◌<◌, ◌≤◌, min, List, [], ◌∷◌, length, take, drop, set, get_or, refl, sym, ap, ◌∙◌, arith}
use Rattle.std.proofs.lemmas.List.{drop_min, length-append, length-drop, length-take, take_all, take_min}
use Rattle.bl_base.specs.Bytes.{bytes_of, write}
use Rattle.bl_base.specs.Runs.{MemoryState}
use Rattle.bl_bytes.specs.Overlays.{overlay}

-- ---- bytes over others

abbrev over : ℕ → List ℕ → List ℕ → List ℕ
over from new [] = []
over (suc from) new (s ∷ space) = s ∷ over from new space
over zero [] (s ∷ space) = s ∷ space
over zero (n ∷ new) (s ∷ space) = n ∷ over zero new space

overlay_is : (from : ℕ) (new space : List ℕ) → overlay from new space ≡ over from new space
overlay_is from new [] = refl
overlay_is (suc from) new (s ∷ space) =
    let next : suc from + length new ≡ suc (from + length new) = omega arith in
    rw next (ap (λ l. s ∷ l) (overlay_is from new space))
overlay_is zero [] (s ∷ space) = take_all (length (s ∷ space)) (s ∷ space) (omega arith)
overlay_is zero (n ∷ new) (s ∷ space) =
    let next : 0 + suc (length new) ≡ suc (0 + length new) = omega arith in
    rw next (ap (λ l. n ∷ l) (overlay_is zero new space))

over_next : (from byte : ℕ) (new space : List ℕ) → over (suc from) new (set space from byte) ≡ over from (byte ∷ new) space
over_next from byte new [] = refl
over_next zero byte new (s ∷ space) = refl
over_next (suc from) byte new (s ∷ space) = ap (λ l. s ∷ l) (over_next from byte new space)

over_none : (from : ℕ) (space : List ℕ) → over from [] space ≡ space
over_none from [] = refl
over_none zero (s ∷ space) = refl
over_none (suc from) (s ∷ space) = ap (λ l. s ∷ l) (over_none from space)

pub overlay_none : (from : ℕ) (space : List ℕ) → overlay from [] space ≡ space
overlay_none from space = overlay_is from [] space ∙ over_none from space

pub overlay_next : (from byte : ℕ) (new space : List ℕ) → overlay (suc from) new (set space from byte) ≡ overlay from (byte ∷ new) space
overlay_next from byte new space = overlay_is (suc from) new (set space from byte) ∙ over_next from byte new space ∙ sym (overlay_is from (byte ∷ new) space)

-- the next one of bytes that are written in order
pub overlay_more : (from i byte : ℕ) (new space : List ℕ) → i < length new → byte ≡ get_or new i 0
    → overlay (from + (i + 1)) (drop (i + 1) new) (set space (from + i) byte) ≡ overlay (from + i) (drop i new) space
overlay_more from i byte new space lt is =
    let place : from + (i + 1) ≡ suc (from + i) = omega arith in
    rw (place, is, drop_more new i lt) (overlay_next (from + i) (get_or new i 0) (drop (i + 1) new) space)
  where
    drop_more : (xs : List ℕ) (k : ℕ) → k < length xs → drop k xs ≡ get_or xs k 0 ∷ drop (k + 1) xs
    drop_more [] k lt = absurd (omega arith)
    drop_more (x ∷ xs) zero lt = refl
    drop_more (x ∷ xs) (suc k) lt = let next : suc k + 1 ≡ suc (k + 1) = omega arith in rw next (drop_more xs k (omega arith))

-- the next byte of a number
pub store_more : (from i width rest : ℕ) (space : List ℕ) → i < width
    → overlay (from + (i + 1)) (bytes_of (width - (i + 1)) (rest / 256)) (set space (from + i) (rest % 256)) ≡ overlay (from + i) (bytes_of (width - i) rest) space
store_more from i width rest space lt =
    let place : from + (i + 1) ≡ suc (from + i) = omega arith in
    let count : width - i ≡ suc (width - (i + 1)) = omega arith in
    rw (place, count) (overlay_next (from + i) (rest % 256) (bytes_of (width - (i + 1)) (rest / 256)) space)

pub store_none : (from i width rest : ℕ) (space : List ℕ) → width ≤ i → overlay (from + i) (bytes_of (width - i) rest) space ≡ space
store_none from i width rest space le = let none : width - i ≡ 0 = omega arith in rw none (overlay_none (from + i) space)

-- ---- lengths

length_over : (from : ℕ) (new space : List ℕ) → length (over from new space) ≡ length space
length_over from new [] = refl
length_over (suc from) new (s ∷ space) = ap suc (length_over from new space)
length_over zero [] (s ∷ space) = refl
length_over zero (n ∷ new) (s ∷ space) = ap suc (length_over zero new space)

pub overlay_length : (from : ℕ) (new space : List ℕ) → length (overlay from new space) ≡ length space
overlay_length from new space = ap length (overlay_is from new space) ∙ length_over from new space

pub length_write : (memory : MemoryState) (from : ℕ) (new : List ℕ) → from + length new ≤ length memory.bytes → length (write memory from new).bytes ≡ length memory.bytes
length_write memory from new le = simp (length-append, length-take, length-drop) (omega arith)

-- ---- a part

pub part_is : (from count : ℕ) (bytes : List ℕ) → take (min count (length bytes - min from (length bytes))) (drop (min from (length bytes)) bytes) ≡ take count (drop from bytes)
part_is from count bytes =
    ap (λ k. take (min count k) (drop (min from (length bytes)) bytes)) (sym (length-drop (min from (length bytes)) bytes))
    ∙ take_min count (drop (min from (length bytes)) bytes) ∙ ap (take count) (drop_min from bytes)

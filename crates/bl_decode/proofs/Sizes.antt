-- What stands behind its size.
use Rattle.std.proofs.Common.{◌≡◌, ℕ, ◌+◌, ◌-◌, ◌<◌, ◌≤◌, List, [], ◌∷◌, ◌++◌, length, drop, append-nil, ap, sym, ◌∙◌, refl, subst, arith, slice_range, slice_get, Some, Result, Err}
use Rattle.std.specs.Result.{IsErrAnd}
use Rattle.std.proofs.lemmas.List.{drop_all}
use Rattle.std.proofs.lemmas.Option.{slice_get_within}
use Rattle.std.proofs.lemmas.Result.{err_from_is_err_and}
use Rattle.bl_leb.proofs.Places.{length_range}
use Rattle.bl_leb.specs.Grammar.{Spellings, byte, exactly}
use Rattle.bl_wasm.specs.Values.{u32, byte_vec, sized}
use Rattle.bl_wasm.specs.Sections.{section}
use Rattle.bl_code.specs.ReaderAnswers.{IsAt, NoneAt, Refuses}
use Rattle.bl_code.specs.declared.error.CodeError.{CodeError}
use Rattle.bl_code.specs.declared.error.CodeError.TheVariants.{Malformed, Memory}
use Rattle.bl_code.specs.Laws.{u32_prefix_free}
use Rattle.bl_code.proofs.Unique.{byte_vec_prefix_free, byte_same}
use Rattle.bl_code.proofs.Places.{Stands, stands, is_at, join, part, same_at, at_front, none_after, one_at}
use Rattle.bl_decode.specs.AllBytes.{ReadsAll}
use Rattle.bl_decode.proofs.FirstBytes.{begins_all, begins_at, at_begins, section_begins}

-- fewer bytes than the size says
pub none_short : (bytes : List ℕ) (i j size : ℕ) → IsAt u32 bytes i j size → length bytes - j < size → NoneAt byte_vec bytes i
none_short bytes i j size first short =
    none_after {F = u32} {S = exactly} length bytes i j size u32_prefix_free first
    (λ x k h.
    let f = h.forward in
    let g = h.inside in
    let long = ap length h.spelled.1 in
    let count = h.spelled.0 in
    omega (arith, length_range bytes j k f g))

-- as many bytes as the size says
pub at_size : (bytes : List ℕ) (i j size : ℕ) → IsAt u32 bytes i j size → size ≤ length bytes - j → IsAt byte_vec bytes i (j + size) (slice_range bytes j (j + size))
at_size bytes i j size first fits =
    let p = stands u32 bytes i j size first in
    let inside = p.inside in
    let long : length (slice_range bytes j (j + size)) ≡ size = omega (arith, length_range bytes j (j + size)) in
    let front : Stands (u32 (length (slice_range bytes j (j + size)))) bytes i j = subst (λ (n : ℕ). Stands (u32 n) bytes i j) (sym long) p in
    let behind : IsAt exactly bytes j (j + size) (slice_range bytes j (j + size)) = record { forward = omega arith; inside = omega arith; spelled = refl } in
    is_at byte_vec bytes i (j + size) (slice_range bytes j (j + size)) (join bytes i j (j + size) front (stands exactly bytes j (j + size) _ behind))

-- all bytes
pub whole_at : {A : Type 0} (B : A → Spellings) (bytes : List ℕ) (x : A) → B x bytes → IsAt B bytes 0 (length bytes) x
whole_at B bytes x h = is_at B bytes 0 (length bytes) x (record { forward = omega arith; inside = omega arith; front = bytes; whole = sym (ap (λ t. bytes ++ t) (drop_all (length bytes) bytes (omega arith)) ∙ append-nil bytes); spelled = h })

pub err_whole : {A : Type 0} (B : A → Spellings) (bytes : List ℕ) (e : CodeError) (r : Result A CodeError) → IsErrAnd r (λ y. y ≡ e) → Refuses B bytes 0 e → ReadsAll B bytes r
err_whole B bytes e r gives h = let p = err_from_is_err_and r gives in rw (p.1, p.2) (refused e h)
  where
    refused : (e : CodeError) → Refuses B bytes 0 e → ReadsAll B bytes (Err e)
    refused Malformed none = λ x whole. none x (length bytes) (whole_at B bytes x whole)
    refused Memory none = tt

-- what stands behind its size, by its bytes
pub sized_bytes : (S : Spellings) (bytes : List ℕ) (i k : ℕ) → Stands (sized S) bytes i k → (these : List ℕ) × S these × Stands (byte_vec these) bytes i k
sized_bytes S bytes i k h =
    let s = h.spelled in
    (s.contents, s.spelled, record { forward = h.forward; inside = h.inside; front = h.front; whole = h.whole; spelled = record { front = s.size; rest = s.contents; whole = s.whole; first = s.counted; second = refl } })

pub bytes_sized : (S : Spellings) (bytes these : List ℕ) (i k : ℕ) → Stands (byte_vec these) bytes i k → S these → Stands (sized S) bytes i k
bytes_sized S bytes these i k h spelled =
    let s = h.spelled in
    record { forward = h.forward; inside = h.inside; front = h.front; whole = h.whole; spelled = record { size = s.front; contents = these; whole = s.whole ∙ ap (λ t. s.front ++ t) s.second; counted = s.first; spelled = spelled } }

pub none_sized : {A : Type 0} (B : A → Spellings) (bytes : List ℕ) (i : ℕ) → NoneAt byte_vec bytes i → NoneAt (λ x. sized (B x)) bytes i
none_sized B bytes i none x k h =
    let p = sized_bytes (B x) bytes i k (stands (λ y. sized (B y)) bytes i k x h) in
    none p.0 k (is_at byte_vec bytes i k p.0 p.2)

pub at_sized : {A : Type 0} (B : A → Spellings) (bytes these : List ℕ) (i k : ℕ) (x : A) → IsAt byte_vec bytes i k these → B x these → IsAt (λ y. sized (B y)) bytes i k x
at_sized B bytes these i k x h spelled = is_at (λ y. sized (B y)) bytes i k x (bytes_sized (B x) bytes these i k (stands byte_vec bytes i k these h) spelled)

pub err_sized : {A : Type 0} (B : A → Spellings) (bytes these : List ℕ) (i k : ℕ) (e : CodeError) → IsAt byte_vec bytes i k these → ReadsAll B these (Err e) → Refuses (λ y. sized (B y)) bytes i e
err_sized B bytes these i k Malformed h none = λ x j q.
    let p = sized_bytes (B x) bytes i j (stands (λ y. sized (B y)) bytes i j x q) in
    let same = (one_at bytes i k j these p.0 byte_vec_prefix_free h (is_at byte_vec bytes i j p.0 p.2)).1 in
    none x (subst (B x) (sym same) p.1)
err_sized B bytes these i k Memory h none = tt

-- a section of an id: a byte, and what stands behind its size
pub none_id : {A : Type 0} (B : A → Spellings) (id : ℕ) (bytes : List ℕ) (i : ℕ) → (slice_get bytes i ≡ Some id → ⊥) → NoneAt (λ x. section id (B x)) bytes i
none_id B id bytes i other x k h =
    let p = stands (λ y. section id (B y)) bytes i k x h in
    other (at_begins bytes i id (begins_all id p.front (drop k bytes) (drop i bytes) p.whole (section_begins id (B x) p.front p.spelled)))

-- the byte alone
pub id_at : (bytes : List ℕ) (i id : ℕ) → slice_get bytes i ≡ Some id → Stands (byte id) bytes i (i + 1)
id_at bytes i id h =
    let b = begins_at bytes i id h in
    let within = slice_get_within bytes i id h in
    at_front bytes i (id ∷ []) b.behind (omega arith) refl b.whole

pub at_section : {A : Type 0} (B : A → Spellings) (id : ℕ) (bytes : List ℕ) (i k : ℕ) (x : A) → slice_get bytes i ≡ Some id → IsAt (λ y. sized (B y)) bytes (i + 1) k x → IsAt (λ y. section id (B y)) bytes i k x
at_section B id bytes i k x first h =
    is_at (λ y. section id (B y)) bytes i k x (join bytes i (i + 1) k (id_at bytes i id first) (stands (λ y. sized (B y)) bytes (i + 1) k x h))

-- where a section stands, its id and its contents do
pub section_parts : {A : Type 0} (B : A → Spellings) (id : ℕ) (bytes : List ℕ) (i k : ℕ) (x : A) → IsAt (λ y. section id (B y)) bytes i k x → (slice_get bytes i ≡ Some id) × IsAt (λ y. sized (B y)) bytes (i + 1) k x
section_parts B id bytes i k x h =
    let p = stands (λ y. section id (B y)) bytes i k x h in
    let first = at_begins bytes i id (begins_all id p.front (drop k bytes) (drop i bytes) p.whole (section_begins id (B x) p.front p.spelled)) in
    let two = part bytes i k p in
    let same = (same_at bytes i (i + 1) two.0 (byte_same id id) (id_at bytes i id first) two.1).0 in
    (first, is_at (λ y. sized (B y)) bytes (i + 1) k x (subst (λ (m : ℕ). Stands (sized (B x)) bytes m k) (sym same) two.2))

pub err_section : {A : Type 0} (B : A → Spellings) (id : ℕ) (bytes : List ℕ) (i : ℕ) (e : CodeError) → Refuses (λ x. sized (B x)) bytes (i + 1) e → Refuses (λ x. section id (B x)) bytes i e
err_section B id bytes i Malformed none = λ x k h. none x k (section_parts B id bytes i k x h).1
err_section B id bytes i Memory none = tt

pub at_byte : (n : ℕ) (bytes : List ℕ) (i : ℕ) → slice_get bytes i ≡ Some n → IsAt (λ (x : Unit {0}). byte n) bytes i (i + 1) tt
at_byte n bytes i h = is_at (λ (x : Unit {0}). byte n) bytes i (i + 1) tt (id_at bytes i n h)

pub none_byte : (n : ℕ) (bytes : List ℕ) (i : ℕ) → (slice_get bytes i ≡ Some n → ⊥) → NoneAt (λ (x : Unit {0}). byte n) bytes i
none_byte n bytes i other x k h =
    let p = stands (λ (x : Unit {0}). byte n) bytes i k x h in
    other (at_begins bytes i n (record { behind = drop k bytes; whole = p.whole ∙ ap (λ t. t ++ drop k bytes) p.spelled }))

-- Spellings behind their size.
use Rattle.std.proofs.Common.{◌≡◌, ◌≢◌, ℕ, ◌+◌, ◌-◌, ◌≤◌, ◌<◌, List, length, take, drop, slice_range, ap, sym, ◌∙◌, refl, subst, arith, length-drop, length-append}
use Rattle.std.proofs.lemmas.List.{length-take-le, drop-take, take-take}
use Rattle.bl_leb.specs.Grammar.{Spellings, ◌⨾◌}
use Rattle.bl_wasm.specs.Values.{u32, sized}
use Rattle.bl_code.specs.Laws.{u32_prefix_free}
use Rattle.bl_code.specs.ReaderAnswers.{IsAt, NoneAt, Refuses}
use Rattle.bl_code.specs.Unique.{PrefixFree}
use Rattle.bl_code.specs.declared.error.CodeError.{CodeError}
use Rattle.bl_code.specs.declared.error.CodeError.TheVariants.{Malformed, Memory}
use Rattle.bl_code.proofs.Places.{Stands, stands, is_at, part, join, as_other, one_at}

-- a spelling of so many bytes
abbrev OfLength : ℕ → Spellings → Spellings
OfLength n S t = (length t ≡ n) × S t

-- a size and as many bytes
apart : (S : Spellings) (t : List ℕ) → sized S t → (n : ℕ) × (u32 n ⨾ OfLength n S) t
apart S t h = (length h.contents, record { front = h.size; rest = h.contents; whole = h.whole; first = h.counted; second = (refl, h.spelled) })

together : (S : Spellings) (n : ℕ) (t : List ℕ) → (u32 n ⨾ OfLength n S) t → sized S t
together S n t h = record {
  size = h.front;
  contents = h.rest;
  whole = h.whole;
  counted = subst (λ (m : ℕ). u32 m h.front) (sym h.second.0) h.first;
  spelled = h.second.1;
}

-- where the size ends, the contents begin, and they end as far on as the size says
pub sized_part : (S : Spellings) (bytes : List ℕ) (i k : ℕ) → Stands (sized S) bytes i k → (n : ℕ) × (j : ℕ) × Stands (u32 n) bytes i j × Stands S bytes j k × (k ≡ j + n)
sized_part S bytes i k h =
    let two = apart S h.front h.spelled in
    let n = two.0 in
    let split : Stands (u32 n ⨾ OfLength n S) bytes i k = record { forward = h.forward; inside = h.inside; front = h.front; whole = h.whole; spelled = two.1 } in
    let parts = part bytes i k split in
    let j = parts.0 in
    let p = parts.2 in
    let f = p.forward in
    let g = p.inside in
    let l = p.spelled.0 in
    let far : k ≡ j + n = omega (arith, ap length p.whole, length-append p.front (drop k bytes), length-drop j bytes, length-drop k bytes) in
    (n, j, parts.1, as_other bytes j k (λ t s. s.1) p, far)

-- a size, and contents that end as far on as it says
pub sized_at : (S : Spellings) (bytes : List ℕ) (i j k n : ℕ) → Stands (u32 n) bytes i j → Stands S bytes j k → k ≡ j + n → Stands (sized S) bytes i k
sized_at S bytes i j k n p q far =
    let f = q.forward in
    let g = q.inside in
    let long : length q.front ≡ n = omega (arith, ap length q.whole, length-append q.front (drop k bytes), length-drop j bytes, length-drop k bytes) in
    let exact : Stands (OfLength n S) bytes j k = record { forward = f; inside = g; front = q.front; whole = q.whole; spelled = (long, q.spelled) } in
    as_other bytes i k (together S n) (join bytes i j k p exact)

-- what stands before a place doesn't depend on what stands behind it
cut : (bytes : List ℕ) (j k : ℕ) → j ≤ k → slice_range (take k bytes) j k ≡ slice_range bytes j k
cut bytes j k less =
    let far : j + (k - j) ≡ k = omega arith in
    let start : drop j (take k bytes) ≡ take (k - j) (drop j bytes) = subst (λ (m : ℕ). drop j (take m bytes) ≡ take (k - j) (drop j bytes)) far (drop-take j (k - j) bytes) in
    ap (take (k - j)) start ∙ take-take (k - j) (k - j) (drop j bytes) (omega arith)

pub inner : {A : Type 0} (B : A → Spellings) (bytes : List ℕ) (j k : ℕ) (x : A) → IsAt B bytes j k x → IsAt B (take k bytes) j k x
inner B bytes j k x h =
    let f = h.forward in
    let g = h.inside in
    record { forward = f; inside = omega (arith, length-take-le k bytes g); spelled = subst (λ (t : List ℕ). B x t) (sym (cut bytes j k f)) h.spelled }

pub outer : {A : Type 0} (B : A → Spellings) (bytes : List ℕ) (j k : ℕ) (x : A) → k ≤ length bytes → IsAt B (take k bytes) j k x → IsAt B bytes j k x
outer B bytes j k x inside h =
    let f = h.forward in
    record { forward = f; inside = inside; spelled = subst (λ (t : List ℕ). B x t) (cut bytes j k f) h.spelled }

-- why a size isn't read is why what stands behind it isn't
pub err_size : {A : Type 0} (B : A → Spellings) (bytes : List ℕ) (i : ℕ) (e : CodeError) → Refuses u32 bytes i e → Refuses (λ x. sized (B x)) bytes i e
err_size B bytes i Malformed h = λ x k p.
    let s = sized_part (B x) bytes i k (stands (λ y. sized (B y)) bytes i k x p) in
    h s.0 s.1 (is_at u32 bytes i s.1 s.0 s.2)
err_size B bytes i Memory h = tt

-- what stands behind a size ends as far on as it says
pub contents_at : {A : Type 0} (B : A → Spellings) (bytes : List ℕ) (i j n : ℕ) → IsAt u32 bytes i j n → (x : A) (k : ℕ) → IsAt (λ y. sized (B y)) bytes i k x → (k ≡ j + n) × IsAt B bytes j k x
contents_at B bytes i j n first x k h =
    let s = sized_part (B x) bytes i k (stands (λ y. sized (B y)) bytes i k x h) in
    let same = one_at bytes i j s.1 n s.0 u32_prefix_free first (is_at u32 bytes i s.1 s.0 s.2) in
    let far = s.4 in
    let ends : k ≡ j + n = omega (arith, same.0, same.1, far) in
    (ends, is_at B bytes j k x (subst (λ (m : ℕ). Stands (B x) bytes m k) (sym same.0) s.3))

-- too few bytes are left
pub none_short : {A : Type 0} (B : A → Spellings) (bytes : List ℕ) (i j n : ℕ) → IsAt u32 bytes i j n → length bytes < j + n → NoneAt (λ x. sized (B x)) bytes i
none_short B bytes i j n first short x k h =
    let c = contents_at B bytes i j n first x k h in
    let g = h.inside in
    omega (arith, c.0)

-- the contents aren't read
pub err_contents : {A : Type 0} (B : A → Spellings) (bytes : List ℕ) (i j n : ℕ) (e : CodeError) → IsAt u32 bytes i j n → Refuses B (take (j + n) bytes) j e → Refuses (λ x. sized (B x)) bytes i e
err_contents B bytes i j n Malformed first h = λ x k p.
    let c = contents_at B bytes i j n first x k p in
    h x k (subst (λ (m : ℕ). IsAt B (take m bytes) j k x) c.0 (inner B bytes j k x c.1))
err_contents B bytes i j n Memory first h = tt

-- the contents end elsewhere
pub none_elsewhere : {A : Type 0} (B : A → Spellings) (bytes : List ℕ) (i j n k : ℕ) (x : A) → PrefixFree B → IsAt u32 bytes i j n → IsAt B (take (j + n) bytes) j k x → k ≢ j + n → NoneAt (λ y. sized (B y)) bytes i
none_elsewhere B bytes i j n k x one first read other y l h =
    let c = contents_at B bytes i j n first y l h in
    let whole = subst (λ (m : ℕ). IsAt B (take m bytes) j l y) c.0 (inner B bytes j l y c.1) in
    let same = one_at (take (j + n) bytes) j k l x y one read whole in
    other (same.0 ∙ c.0)

-- they end there
pub sized_read : {A : Type 0} (B : A → Spellings) (bytes : List ℕ) (i j n k : ℕ) (x : A) → IsAt u32 bytes i j n → j + n ≤ length bytes → IsAt B (take (j + n) bytes) j k x → k ≡ j + n → IsAt (λ y. sized (B y)) bytes i k x
sized_read B bytes i j n k x first inside read ends =
    let cut_there : IsAt B (take k bytes) j k x = subst (λ (m : ℕ). IsAt B (take m bytes) j k x) (sym ends) read in
    let here = outer B bytes j k x (omega (arith, ends)) cut_there in
    is_at (λ y. sized (B y)) bytes i k x (sized_at (B x) bytes i j k n (stands u32 bytes i j n first) (stands B bytes j k x here) ends)

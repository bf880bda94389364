-- A section's bytes are its version, and a vector up to their end.
use Rattle.std.proofs.Common.{◌≡◌, ◌∙◌, ap, sym, subst, ℕ, List, ◌++◌, append-nil, drop, length, arith, false, true, ◌⊎◌, inl, inr}
use Rattle.std.specs.Prelude.{nat_eq, ◌&&◌}
use Rattle.std.proofs.Math.Seq.{drop-length}
use Rattle.std.proofs.lemmas.Bool.Decides.{eqb_tells}
use Rattle.bl_leb.specs.Grammar.{Spellings, ◌⨾◌, byte}
use Rattle.bl_wasm.specs.Values.{vec}
use Rattle.bl_code.specs.ReaderAnswers.{IsAt, NoneAt}
use Rattle.bl_code.proofs.Places.{Stands, is_at, join, one_at, part, stands}
use Rattle.bl_code.proofs.Unique.{vec_prefix_free}
use Rattle.bl_labels.specs.Entries.{entry, has, section}
use Rattle.bl_labels.specs.EntryLaws.{entry_prefix_free}
use Rattle.bl_labels.specs.declared.entry.Entry.{Entry}
use Rattle.bl_labels.proofs.EntryForms.{byte_prefix_free}

-- all bytes
whole_stands : {S : Spellings} (bytes : List ℕ) → S bytes → Stands S bytes 0 (length bytes)
whole_stands bytes h = record {
  forward = omega arith;
  inside = omega arith;
  front = bytes;
  whole = sym (append-nil bytes) ∙ ap (λ t. bytes ++ t) (sym (drop-length bytes));
  spelled = h;
}

stands_whole : (S : Spellings) (bytes : List ℕ) (k : ℕ) → k ≡ length bytes → Stands S bytes 0 k → S bytes
stands_whole S bytes k end h =
    let same : h.front ≡ bytes = sym (append-nil h.front) ∙ ap (λ t. h.front ++ t) (sym (ap (λ n. drop n bytes) end ∙ drop-length bytes)) ∙ sym h.whole in
    subst S same h.spelled

section_read : (bytes : List ℕ) (j k version : ℕ) (entries : List Entry) → IsAt byte bytes 0 j version → IsAt (vec entry) bytes j k entries → k ≡ length bytes → has version entries ≡ true → section entries bytes
section_read bytes j k version entries first all end known = record {
  version = version;
  known = known;
  spelled = stands_whole (byte version ⨾ vec entry entries) bytes k end (join bytes 0 j k (stands byte bytes 0 j version first) (stands (vec entry) bytes j k entries all));
}

-- a section's version and its entries stand where they are read
record Parts (bytes : List ℕ) (j version : ℕ) (these : List Entry) : Type 0 where
  pub all : IsAt (vec entry) bytes j (length bytes) these
  pub known : has version these ≡ true

parts : (bytes : List ℕ) (j version : ℕ) (these : List Entry) → IsAt byte bytes 0 j version → section these bytes → Parts bytes j version these
parts bytes j version these first s =
    let cut = part bytes 0 (length bytes) (whole_stands bytes s.spelled) in
    let same = one_at bytes 0 j cut.0 version s.version byte_prefix_free first (is_at byte bytes 0 cut.0 s.version cut.1) in
    record {
      all = subst (λ n. IsAt (vec entry) bytes n (length bytes) these) (sym same.0) (is_at (vec entry) bytes cut.0 (length bytes) these cut.2);
      known = ap (λ n. has n these) same.1 ∙ s.known;
    }

pub no_byte : (bytes : List ℕ) → NoneAt byte bytes 0 → (these : List Entry) → section these bytes → ⊥
no_byte bytes none these s =
    let cut = part bytes 0 (length bytes) (whole_stands bytes s.spelled) in
    none s.version cut.0 (is_at byte bytes 0 cut.0 s.version cut.1)

pub no_vec : (bytes : List ℕ) (j version : ℕ) → IsAt byte bytes 0 j version → NoneAt (vec entry) bytes j → (these : List Entry) → section these bytes → ⊥
no_vec bytes j version first none these s = none these (length bytes) (parts bytes j version these first s).all

other_end : (bytes : List ℕ) (j k version : ℕ) (entries : List Entry) → IsAt byte bytes 0 j version → IsAt (vec entry) bytes j k entries → (k ≡ length bytes → ⊥) → (these : List Entry) → section these bytes → ⊥
other_end bytes j k version entries first all other these s =
    other (one_at bytes j k (length bytes) entries these (vec_prefix_free entry_prefix_free) all (parts bytes j version these first s).all).0

unknown : (bytes : List ℕ) (j k version : ℕ) (entries : List Entry) → IsAt byte bytes 0 j version → IsAt (vec entry) bytes j k entries → has version entries ≡ false → (these : List Entry) → section these bytes → ⊥
unknown bytes j k version entries first all not_known these s =
    let p = parts bytes j version these first s in
    let same = one_at bytes j k (length bytes) entries these (vec_prefix_free entry_prefix_free) all p.all in
    let both : true ≡ false = sym p.known ∙ ap (λ es. has version es) (sym same.1) ∙ not_known in
    cc

-- ---- by the test of both

-- whether a number is another one
abbrev Tells : ℕ → ℕ → Type 0
Tells a b = ((nat_eq a b ≡ true) × (a ≡ b)) ⊎ ((nat_eq a b ≡ false) × (a ≡ b → ⊥))

pub whole_read : (bytes : List ℕ) (j k version : ℕ) (entries these : List Entry) → IsAt byte bytes 0 j version → IsAt (vec entry) bytes j k entries
    → these ≡ entries → (nat_eq k (length bytes) && has version these) ≡ true → section entries bytes
whole_read bytes j k version entries these first all same h = by_cases (eqb_tells k (length bytes))
  where
    by_cases : Tells k (length bytes) → section entries bytes
    by_cases (inl p) = section_read bytes j k version entries first all p.1 (ap (has version) (sym same) ∙ ap (λ b. b && has version these) (sym p.0) ∙ h)
    by_cases (inr p) = let clash : false ≡ true = ap (λ b. b && has version these) (sym p.0) ∙ h in absurd (cc)

pub not_whole : (bytes : List ℕ) (j k version : ℕ) (entries these : List Entry) → IsAt byte bytes 0 j version → IsAt (vec entry) bytes j k entries
    → these ≡ entries → (nat_eq k (length bytes) && has version these) ≡ false → (others : List Entry) → section others bytes → ⊥
not_whole bytes j k version entries these first all same h = by_cases (eqb_tells k (length bytes))
  where
    by_cases : Tells k (length bytes) → (others : List Entry) → section others bytes → ⊥
    by_cases (inl p) = unknown bytes j k version entries first all (ap (has version) (sym same) ∙ ap (λ b. b && has version these) (sym p.0) ∙ h)
    by_cases (inr p) = other_end bytes j k version entries first all p.1

-- What ready stores do to a load behind them.
use Rattle.std.proofs.Common.{◌≡◌, ◌⊎◌, inl, inr, ℕ, zero, suc, ◌+◌, ◌^◌, ◌/◌, ◌<◌, ◌≤◌, Bool, true, false, List, [], ◌∷◌, length, take, drop, set, Some, refl, sym, ap, ◌∙◌, subst, arith}
use Rattle.std.proofs.lemmas.Bool.{eqb-true, ltb-false}
use Rattle.std.specs.Prelude.{◌&&◌, nat_eq, nat_lt, if◌then◌else◌, slice_get}
use Rattle.bl_base.specs.Bytes.{number_of, bytes_of}
use Rattle.bl_base.proofs.BoolLemmas.{each_true}
use Rattle.bl_base.proofs.ByteLemmas.{length-bytes_of}
use Rattle.bl_ops.specs.Access.{narrowed, width_of}
use Rattle.bl_ops.specs.declared.access.AccessKind.{AccessKind}
use Rattle.bl_ops.proofs.Fits.{store_fits}
use Rattle.bl_program.specs.Steps.{effective, overlay}
use Rattle.bl_program.specs.declared.definitions.ProgramParts.{ProgramParts as Program}
use Rattle.bl_program.proofs.ByteAgreement.{parts, overlay_other}
use Rattle.bl_bytes.proofs.OverlayLemmas.{overlay_length, overlay_next}
use Rattle.bl_rob.specs.declared.entry.Entry.{Entry}
use Rattle.bl_rob.specs.declared.entry.Work.{Work}
use Rattle.bl_rob.specs.declared.entry.Work.TheVariants.{Ready}
use Rattle.bl_rob.proofs.PlainTracks.{over, space_behind}
use Rattle.bl_forward.specs.declared.find.Found.{Found}
use Rattle.bl_forward.specs.declared.find.Found.TheVariants.{Memory, Stored, Blocked}
use Rattle.bl_forward.specs.ForwardMachines.{meets, supplies, supplied, found_from}

-- ---- bytes

set_at : (m : List ℕ) (k x : ℕ) → k < length m → slice_get (set m k x) k ≡ Some x
set_at [] k x lt = absurd (omega arith)
set_at (y ∷ m) zero x lt = refl
set_at (y ∷ m) (suc k) x lt = set_at m k x (omega arith)

set_length : (m : List ℕ) (k x : ℕ) → length (set m k x) ≡ length m
set_length [] k x = refl
set_length (y ∷ m) zero x = refl
set_length (y ∷ m) (suc k) x = ap suc (set_length m k x)

next_one : (m : List ℕ) (k count x : ℕ) → slice_get m k ≡ Some x → take (suc count) (drop k m) ≡ x ∷ take count (drop (suc k) m)
next_one [] k count x e = cc
next_one (y ∷ m) zero count x e = let same : y ≡ x = cc in ap (λ z. z ∷ take count m) same
next_one (y ∷ m) (suc k) count x e = next_one m k count x e

read_back : (new m : List ℕ) (from : ℕ) → from + length new ≤ length m → take (length new) (drop from (overlay from new m)) ≡ new
read_back [] m from le = refl
read_back (n ∷ new) m from le =
    let len = set_length m from n in
    let here = overlay_other new (set m from n) (suc from) from (inl (omega arith)) ∙ set_at m from n (omega arith) in
    ap (λ l. take (suc (length new)) (drop from l)) (sym (overlay_next from n new m))
    ∙ next_one (overlay (suc from) new (set m from n)) from (length new) n here
    ∙ ap (λ l. n ∷ l) (read_back new (set m from n) (suc from) (omega arith))

number_back : (width n : ℕ) → n < 256 ^ width → number_of (bytes_of width n) ≡ n
number_back zero n lt = omega arith
number_back (suc width) n lt =
    let small : n / 256 < 256 ^ width = search (arith) in
    let rest = number_back width (n / 256) small in
    rw rest (search (arith))

-- ---- a load behind stores

-- what is found is what memory has, of what it had first
abbrev pub Right : ℕ → ℕ → List ℕ → List ℕ → Found → Type 0
Right from width first m Memory = take width (drop from m) ≡ take width (drop from first)
Right from width first m (Stored number) = number_of (take width (drop from m)) ≡ number
Right from width first m Blocked = Unit {0}

apart : (from width at count : ℕ) (l r : Bool) → nat_lt from (at + count) ≡ l → nat_lt at (from + width) ≡ r → (l && r) ≡ false → (from + width ≤ at) ⊎ (at + count ≤ from)
apart from width at count false r e f q = inr (ltb-false from (at + count) e)
apart from width at count true false e f q = inl (ltb-false at (from + width) f)
apart from width at count true true e f q = cc

module _ (from width : ℕ) (first : List ℕ) where
  kept : (m n : List ℕ) (found : Found) → take width (drop from n) ≡ take width (drop from m) → Right from width first m found → Right from width first n found
  kept m n Memory e h = e ∙ h
  kept m n (Stored number) e h = ap number_of e ∙ h
  kept m n Blocked e h = tt

  elsewhere : (new m : List ℕ) (at : ℕ) → (from + width ≤ at) ⊎ (at + length new ≤ from) → take width (drop from (overlay at new m)) ≡ take width (drop from m)
  elsewhere new m at (inl le) = parts from width (overlay at new m) m (λ i a b. overlay_other new m at i (inl (omega arith)))
  elsewhere new m at (inr le) = parts from width (overlay at new m) m (λ i a b. overlay_other new m at i (inr (omega arith)))

  by : (new m : List ℕ) (at number : ℕ) (found : Found) (b c : Bool) → number_of new ≡ number → from + width ≤ length m
      → meets at (length new) from width ≡ b → (nat_eq at from && nat_eq (length new) width) ≡ c → Right from width first m found
      → Right from width first (overlay at new m) (if b then (if c then Stored number else Blocked) else found)
  by new m at number found true true n le e f h =
      let place : at ≡ from = eqb-true at from (each_true (nat_eq at from) (nat_eq (length new) width) f).0 in
      let long : length new ≡ width = eqb-true (length new) width (each_true (nat_eq at from) (nat_eq (length new) width) f).1 in
      ap (λ l. number_of (take width (drop from l))) (ap (λ k. overlay k new m) place)
      ∙ ap (λ k. number_of (take k (drop from (overlay from new m)))) (sym long)
      ∙ ap number_of (read_back new m from (omega arith)) ∙ n
  by new m at number found true false n le e f h = tt
  by new m at number found false c n le e f h =
      kept m (overlay at new m) found (elsewhere new m at (apart from width at (length new) (nat_lt from (at + length new)) (nat_lt at (from + width)) refl refl e)) h

  one : (Q : Program) (work : Work) (m : List ℕ) (found : Found) → from + width ≤ length m → Right from width first m found
      → (Right from width first (over Q work m) (supplied Q from width work found)) × (length (over Q work m) ≡ length m)
  one Q (Ready kind memory offset address value) m found le h =
      let number = narrowed kind value in
      let at = effective Q memory offset address in
      let new = bytes_of (width_of kind) number in
      let long = length-bytes_of (width_of kind) number in
      let back = number_back (width_of kind) number (small kind value) in (
        subst (λ k. Right from width first (overlay at new m) (supplies from width at k number found)) long
            (by new m at number found (meets at (length new) from width) (nat_eq at from && nat_eq (length new) width) back le refl refl h),
        overlay_length at new m,
      )
    where
      small : (kind : AccessKind) (value : ℕ) → narrowed kind value < 256 ^ width_of kind
      small kind value = let h = store_fits kind value in search (arith, h)
  one Q _ m found le h = (h, refl)

  pub all : (Q : Program) (es : List Entry) (m : List ℕ) (found : Found) → from + width ≤ length m → Right from width first m found
      → Right from width first (space_behind Q es m) (found_from Q from width es found)
  all Q [] m found le h = h
  all Q (e ∷ es) m found le h =
      let s = one Q e.work m found le h in
      let same = s.1 in
      all Q es (over Q e.work m) (supplied Q from width e.work found) (omega arith) s.0

-- The module that is made is of bytes.
use Rattle.std.proofs.Common.{◌≡◌, ℕ, zero, suc, ◌+◌, ◌-◌, ◌/◌, ◌%◌, ◌^◌, ◌<◌, List, [], ◌∷◌, ◌++◌, Bool, true, false, inl, inr, length, refl, sym, subst, arith}
use Rattle.std.specs.Prelude.{◌==◌, if◌then◌else◌, nat_lt, replicate}
use Rattle.std.specs.List.{flat_map, list_all, range_with_len}
use Rattle.std.proofs.lemmas.Bool.{cases_lt, false≢true, le-ltb, lt-ltb, ltb-true}
use Rattle.std.proofs.lemmas.List.Concat.{flat_map-cons}
use Rattle.std.proofs.lemmas.List.Elements.{All-append, All-cons, All-nil, All-replicate}
use Rattle.bl_base.specs.Fits.{AreBytes}
use Rattle.bl_gen.specs.GeneratedModule.{call_before, code_section, export_section, function, function_section, item, item_kind, items, leb, leb_within, made, memory_section, preamble, section, sized, type_section}

abbrev IsByte : ℕ → Type 0
IsByte byte = byte < 2 ^ 8

record IsOf (bytes : List ℕ) : Type 0 where
  all : AreBytes bytes

-- one byte, and those behind it
and : (byte : ℕ) (bytes : List ℕ) → byte < 256 → IsOf bytes → IsOf (byte ∷ bytes)
and byte bytes low h = record { all = All-cons IsByte byte bytes (omega (arith, low)) h.all }

none : IsOf []
none = record { all = All-nil IsByte }

joined : (a b : List ℕ) → IsOf a → IsOf b → IsOf (a ++ b)
joined a b h k = record { all = All-append IsByte a b h.all k.all }

-- of numbers that are written out
written : (bytes : List ℕ) → list_all (λ byte. nat_lt byte 256) bytes ≡ true → IsOf bytes
written [] e = none
written (byte ∷ bytes) e = first (nat_lt byte 256) refl e (written bytes)
  where
    first : (b : Bool) → nat_lt byte 256 ≡ b → list_all (λ byte. nat_lt byte 256) (byte ∷ bytes) ≡ true → (list_all (λ byte. nat_lt byte 256) bytes ≡ true → IsOf bytes) → IsOf (byte ∷ bytes)
    first true low all rest = and byte bytes (ltb-true byte 256 low) (rest (rw low at all))
    first false high all rest = absurd (false≢true (rw high at all))

given : {bytes : List ℕ} → list_all (λ byte. nat_lt byte 256) bytes ≡ true → IsOf bytes
given {bytes} = written bytes

either : (b : Bool) (xs ys : List ℕ) → IsOf xs → IsOf ys → IsOf (if b then xs else ys)
either true xs ys h k = h
either false xs ys h k = k

each : (f : ℕ → List ℕ) → ((j : ℕ) → IsOf (f j)) → (xs : List ℕ) → IsOf (flat_map f xs)
each f gives [] = none
each f gives (x ∷ xs) = subst IsOf (sym (flat_map-cons f x xs)) (joined (f x) (flat_map f xs) (gives x) (each f gives xs))

number_within : (most n : ℕ) → IsOf (leb_within most n)
number_within zero n = none
number_within (suc more) n = elim (cases_lt n 128) as (λ _. IsOf (leb_within (suc more) n)) [
  | inl small ↦ rw (lt-ltb n 128 small) (and n [] (omega arith) none)
  | inr large ↦ rw (le-ltb n 128 large) (and (n % 128 + 128) (leb_within more (n / 128)) (omega arith) (number_within more (n / 128)))
]

number : (n : ℕ) → IsOf (leb n)
unfolding leb
number n = number_within 10 n

behind_size : (contents : List ℕ) → IsOf contents → IsOf (sized contents)
behind_size contents h = joined (leb (length contents)) contents (number (length contents)) h

a_section : (id : ℕ) (contents : List ℕ) → id < 256 → IsOf contents → IsOf (section id contents)
a_section id contents low h = and id (sized contents) low (behind_size contents h)

an_item : (kind : ℕ) → IsOf (item kind)
unfolding item
an_item kind =
    either (kind == 0) _ _ (given refl)
    (either (kind == 1) _ _ (given refl) (either (kind == 2) _ _ (given refl) (given refl)))

a_call : (i : ℕ) → IsOf (call_before i)
unfolding call_before
a_call zero = none
a_call (suc before) =
    joined ((0x20 ∷ 0x01 ∷ 0x10 ∷ []) ++ leb before) (0x21 ∷ 0x01 ∷ []) (joined (0x20 ∷ 0x01 ∷ 0x10 ∷ []) (leb before) (given refl) (number before)) (given refl)

a_function : (seed i : ℕ) → IsOf (function seed i)
unfolding function items
a_function seed i =
    joined ((0x01 ∷ 0x01 ∷ 0x7F ∷ []) ++ items seed i 8 ++ call_before i) (0x20 ∷ 0x01 ∷ 0x0B ∷ [])
    (joined ((0x01 ∷ 0x01 ∷ 0x7F ∷ []) ++ items seed i 8) (call_before i)
    (joined (0x01 ∷ 0x01 ∷ 0x7F ∷ []) (items seed i 8) (given refl) (each (λ j. item (item_kind seed i j)) (λ j. an_item (item_kind seed i j)) (range_with_len 0 8))) (a_call i)) (given refl)

whole : (seed size : ℕ) → IsOf (made seed size)
unfolding made type_section function_section memory_section export_section code_section
whole seed size =
    joined (preamble ++ type_section ++ function_section size ++ memory_section ++ export_section size) (code_section seed size)
    (joined (preamble ++ type_section ++ function_section size ++ memory_section) (export_section size)
    (joined (preamble ++ type_section ++ function_section size) memory_section
    (joined (preamble ++ type_section) (function_section size)
    (joined preamble type_section (given refl) (a_section 1 (0x01 ∷ 0x60 ∷ 0x01 ∷ 0x7F ∷ 0x01 ∷ 0x7F ∷ []) (omega arith) (given refl)))
    (a_section 3 (leb size ++ replicate size 0x00) (omega arith) (joined (leb size) (replicate size 0x00) (number size) (record { all = All-replicate IsByte size 0 (omega arith) }))))
    (a_section 5 (0x01 ∷ 0x00 ∷ 0x01 ∷ []) (omega arith) (given refl)))
    (a_section 7 ((0x01 ∷ 0x01 ∷ 0x66 ∷ 0x00 ∷ []) ++ leb (size - 1)) (omega arith) (joined (0x01 ∷ 0x01 ∷ 0x66 ∷ 0x00 ∷ []) (leb (size - 1)) (given refl) (number (size - 1)))))
    (a_section 10 (leb size ++ flat_map (λ i. sized (function seed i)) (range_with_len 0 size)) (omega arith)
    (joined (leb size) (flat_map (λ i. sized (function seed i)) (range_with_len 0 size)) (number size) (each (λ i. sized (function seed i)) (λ i. behind_size (function seed i) (a_function seed i)) (range_with_len 0 size))))

pub of_bytes : (seed size : ℕ) → AreBytes (made seed size)
of_bytes seed size = (whole seed size).all

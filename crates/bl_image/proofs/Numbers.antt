-- Numbers in their shortest spelling, and bytes as they stand.
use Rattle.std.proofs.Common.{◌≡◌, ℕ, ◌+◌, ◌-◌, ◌<◌, ◌≤◌, List, [], ◌∷◌, ◌++◌, length, take, drop, slice_range, ap, sym, ◌∙◌, refl, subst, arith, length-append, length-drop}
use Rattle.std.proofs.lemmas.List.{take_at}
use Rattle.std.proofs.lemmas.List.Folds.{drop_split}
use Rattle.bl_base.proofs.Lists.{front_same, rest_same}
use Rattle.bl_leb.specs.Numbers.{IsUnsigned}
use Rattle.bl_leb.specs.Spellings.{IsSpelledAt, IsShortest}
use Rattle.bl_leb.proofs.Unsigned.{one_end, one_value, shortest_one}
use Rattle.bl_leb.specs.Grammar.{byte, given, exactly}
use Rattle.bl_format.specs.Grammar.{u64}
use Rattle.bl_image.specs.ReaderAnswers.{Begins, NoneBegins}

-- a number in its shortest spelling
pub begins_number : (s front rest : List ℕ) (n : ℕ) → s ≡ front ++ rest → u64 n front → Begins u64 s n rest
begins_number s front rest n whole h = record {
  front = front;
  whole = whole;
  spelled = h;
  only = λ m other more g e.
      let same = one_end 64 64 other front more rest m n g.spelled h.spelled (sym e ∙ whole) in (
        one_value 64 front m n (subst (λ (t : List ℕ). IsUnsigned 64 t m) same g.spelled) h.spelled,
        rest_same other front more rest same (sym e ∙ whole),
      );
}

-- what the reader of numbers finds
pub number_found : (bytes : List ℕ) (i j n : ℕ) → IsSpelledAt (IsShortest (IsUnsigned 64)) bytes i j n → Begins u64 (drop i bytes) n (drop j bytes)
number_found bytes i j n h =
    let forward = h.forward in
    begins_number (drop i bytes) (slice_range bytes i j) (drop j bytes) n (drop_split bytes i j forward) h.spelled

-- or that it finds nothing
pub number_none : (bytes : List ℕ) (i : ℕ) → i ≤ length bytes → ((value place : ℕ) → IsSpelledAt (IsShortest (IsUnsigned 64)) bytes i place value → ⊥) → NoneBegins u64 (drop i bytes)
number_none bytes i inside never = record {
  none = λ n other more h e.
      let long : length bytes - i ≡ length other + length more = omega (arith, length-drop i bytes, ap length e, length-append other more) in
      let count : i + length other - i ≡ length other = omega arith in
      let same : slice_range bytes i (i + length other) ≡ other = ap (λ k. take k (drop i bytes)) count ∙ ap (take (length other)) e ∙ take_at other more (length other) refl in
      never n (i + length other) (record { forward = omega arith; inside = omega arith; spelled = subst (λ (t : List ℕ). IsShortest (IsUnsigned 64) t n) (sym same) h });
}

-- a byte below 128 is a number
pub number_of_byte : (s rest : List ℕ) (n : ℕ) → n < 128 → Begins byte s n rest → Begins u64 s n rest
number_of_byte s rest n small p = begins_number s (n ∷ []) rest n (p.whole ∙ ap (λ t. t ++ rest) p.spelled) (shortest_one 64 n small (omega arith))

-- and no number has no byte
pub number_of_none : (s : List ℕ) → NoneBegins byte s → NoneBegins u64 s
number_of_none s p = record { none = λ n other more h e. first n other more h e }
  where
    first : (n : ℕ) (other more : List ℕ) → u64 n other → s ≡ other ++ more → ⊥
    first n [] more h e = h.spelled
    first n (x ∷ other) more h e = p.none x (x ∷ []) (other ++ more) refl e

-- so many bytes as they stand
pub bytes_found : (bytes these : List ℕ) (i n : ℕ) → i + n ≤ length bytes → these ≡ slice_range bytes i (i + n) → Begins (λ xs. given (length xs ≡ n) (exactly xs)) (drop i bytes) these (drop (i + n) bytes)
bytes_found bytes these i n inside is =
    let split = drop_split bytes i (i + n) (omega arith) in
    let whole : drop i bytes ≡ these ++ drop (i + n) bytes = split ∙ ap (λ t. t ++ drop (i + n) bytes) (sym is) in
    let long : length these ≡ n = omega (arith, ap length whole, length-append these (drop (i + n) bytes), length-drop i bytes, length-drop (i + n) bytes) in
    record {
      front = these;
      whole = whole;
      spelled = (long, refl);
      only = λ xs other more h e.
          let one : other ++ more ≡ these ++ drop (i + n) bytes = sym e ∙ whole in
          let same = front_same other these more (drop (i + n) bytes) (ap length h.1 ∙ h.0 ∙ sym long) one in
          (sym h.1 ∙ same, rest_same other these more (drop (i + n) bytes) same one);
    }

pub bytes_none : (bytes : List ℕ) (i n : ℕ) → i ≤ length bytes → length bytes < i + n → NoneBegins (λ xs. given (length xs ≡ n) (exactly xs)) (drop i bytes)
bytes_none bytes i n inside few = record {
  none = λ xs other more h e.
      omega (arith, length-drop i bytes, ap length e, length-append other more, ap length h.1, h.0);
}

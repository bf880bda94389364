-- Modules of names of their own, as they are tested.
use Rattle.std.proofs.Common.{◌≡◌, ◌∙◌, ap, sym, ℕ, zero, suc, true, false, not, List, [], ◌∷◌, map, length, ◌==◌, Some, slice_get, refl, Bor, arith}
use Rattle.std.specs.List.{list_any}
use Rattle.std.specs.Option.{option_map}
use Rattle.std.specs.Str.{bytes_eq}
use Rattle.std.proofs.lemmas.Bool.{and_parts, false≢true, false_from_ne_true, not-true}
use Rattle.std.proofs.lemmas.List.Folds.{Any-from_list_any}
use Rattle.std.proofs.lemmas.Map.Keys.{any_passes_from_place}
use Rattle.std.proofs.lemmas.Option.{none-some, slice_get_read}
use Rattle.std.proofs.lemmas.Slice.Eq.{bytes_eq-Decides}
use Rattle.bl_text.specs.Names.{AreNamedApart, module_name}
use Rattle.bl_words.specs.Requests.{are_distinct, modules_of}
use Rattle.bl_base.proofs.NameSets.{AreApart}
use Rattle.bl_base.proofs.Lists.{mapped_get}

-- no other name is that one
none_is : (name : List ℕ) (names : List (List ℕ)) → list_any (bytes_eq name) names ≡ false → (i : ℕ) → slice_get names i ≡ Some name → ⊥
none_is name names none i there =
    let any : list_any (bytes_eq name) names ≡ true = any_passes_from_place (bytes_eq name) names i name there ((bytes_eq-Decides name name).1 refl) in
    false≢true (sym none ∙ any)

-- names of their own stand at places of their own
one_place : (names : List (List ℕ)) → are_distinct names ≡ true → (i j : ℕ) (name : List ℕ) → slice_get names i ≡ Some name → slice_get names j ≡ Some name → i ≡ j
one_place [] apart i j name first second = absurd (none-some name first)
one_place (x ∷ names) apart zero zero name first second = refl
one_place (x ∷ names) apart zero (suc j) name first second =
    absurd (none_is x names (not-true (list_any (bytes_eq x) names) (and_parts (not (list_any (bytes_eq x) names)) (are_distinct names) apart).0) j (second ∙ sym first))
one_place (x ∷ names) apart (suc i) zero name first second =
    absurd (none_is x names (not-true (list_any (bytes_eq x) names) (and_parts (not (list_any (bytes_eq x) names)) (are_distinct names) apart).0) i (first ∙ sym second))
one_place (x ∷ names) apart (suc i) (suc j) name first second = ap suc (one_place names (and_parts (not (list_any (bytes_eq x) names)) (are_distinct names) apart).1 i j name first second)

-- what stands at a place is named there
named_at : (words : List (List ℕ)) (i : ℕ) (word : List ℕ) → slice_get words i ≡ Some word → slice_get (map module_name words) i ≡ Some (module_name word)
named_at [] i word there = absurd (none-some word there)
named_at (x ∷ words) zero word there = ap (option_map module_name) there
named_at (x ∷ words) (suc i) word there = named_at words i word there

pub named_apart : (words : List (List ℕ)) → are_distinct (map module_name words) ≡ true → AreNamedApart words
named_apart words apart = record {
  apart = λ i j a b first second same. one_place (map module_name words) apart i j (module_name a) (named_at words i a first) (named_at words j b second ∙ ap Some (sym same));
}

-- names at places of their own are distinct
abbrev HasOnePlace : List (List ℕ) → Type 0
HasOnePlace names = (i j : ℕ) (name : List ℕ) → slice_get names i ≡ Some name → slice_get names j ≡ Some name → i ≡ j

none_behind : (name : List ℕ) (names : List (List ℕ)) → HasOnePlace (name ∷ names) → list_any (bytes_eq name) names ≡ true → ⊥
none_behind name names one any =
    let at = Any-from_list_any (bytes_eq name) names any in
    let there : slice_get names at.0 ≡ Some at.1 = slice_get_read names (length names) at.0 at.1 refl at.2 (sym at.3) in
    let same : name ≡ at.1 = (bytes_eq-Decides name at.1).0 at.4 in
    let place : zero ≡ suc at.0 = one zero (suc at.0) name refl (there ∙ ap Some (sym same)) in
    absurd (omega arith)

distinct : (names : List (List ℕ)) → HasOnePlace names → are_distinct names ≡ true
distinct [] one = refl
distinct (name ∷ names) one =
    let new : list_any (bytes_eq name) names ≡ false = false_from_ne_true (list_any (bytes_eq name) names) (none_behind name names one) in
    let rest : are_distinct names ≡ true = distinct names (λ i j other first second. suc_same i j (one (suc i) (suc j) other first second)) in
    rw (new, rest) refl
  where
    suc_same : (i j : ℕ) → suc i ≡ suc j → i ≡ j
    suc_same i j e = omega arith

distinct_of : (words : List (List ℕ)) → AreNamedApart words → are_distinct (map module_name words) ≡ true
distinct_of words apart =
    distinct (map module_name words)
    (λ i j name first second.
    let a = mapped_get module_name words i name first in
    let b = mapped_get module_name words j name second in
    apart.apart i j a.0 b.0 a.1 b.1 (a.2 ∙ sym b.2))

-- ---- the words that are borrowed

abbrev name_of : Bor (List ℕ) → List ℕ
name_of word = module_name word.now

abbrev words_in : List (Bor (List ℕ)) → List (List ℕ)
words_in words = map (λ (word : Bor (List ℕ)). word.now) words

there : (words : List (Bor (List ℕ))) (i : ℕ) (word : Bor (List ℕ)) → slice_get words i ≡ Some word → slice_get (words_in words) i ≡ Some word.now
there [] i word e = absurd (none-some word e)
there (x ∷ words) zero word e = ap (option_map (λ (word : Bor (List ℕ)). word.now)) e
there (x ∷ words) (suc i) word e = there words i word e

pub apart_of : (words : List (Bor (List ℕ))) → AreNamedApart (words_in words) → AreApart name_of words
apart_of words apart i j a b first second same = apart.apart i j a.now b.now (there words i a first) (there words j b second) same

pub named_apart_of : (words : List (Bor (List ℕ))) → AreApart name_of words → AreNamedApart (words_in words)
named_apart_of words apart = record {
  apart = λ i j a b first second same.
      let x = mapped_get (λ (word : Bor (List ℕ)). word.now) words i a first in
      let y = mapped_get (λ (word : Bor (List ℕ)). word.now) words j b second in
      apart i j x.0 y.0 x.1 y.1 (ap module_name x.2 ∙ (same ∙ ap module_name (sym y.2)));
}

-- words are modules
pub all_modules : (words : List (Bor (List ℕ))) → false ≡ (length words == 0) → Some (words_in words) ≡ modules_of (words_in words)
all_modules [] some = absurd (false≢true some)
all_modules (word ∷ words) some = refl

-- the tests of a request's modules
pub is_apart : (words : List (List ℕ)) → AreNamedApart words → are_distinct (map module_name words) ≡ true
is_apart words apart = distinct_of words apart

pub is_twice : (words : List (List ℕ)) → (AreNamedApart words → ⊥) → are_distinct (map module_name words) ≡ false
is_twice words twice = false_from_ne_true (are_distinct (map module_name words)) (λ apart. twice (named_apart words apart))

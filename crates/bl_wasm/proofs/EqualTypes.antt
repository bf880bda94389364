-- Types of functions that are equal, and their numbers, which are found by texts.
use Rattle.std.proofs.Common.{◌≡◌, ℕ, zero, suc, ◌+◌, ◌==◌, ◌<◌, ◌≤◌, Bool, true, false, List, [], ◌∷◌, ◌++◌, length, map, take, drop, Option, Some, None, slice_get, refl, sym, ap, ◌∙◌, subst, arith}
use Rattle.std.specs.Prelude.{nat_lt, ◌&&◌, if◌then◌else◌, unwrap_or}
use Rattle.std.specs.Bool.{Decides}
use Rattle.std.specs.Cmp.Lexicographic.{pointwise}
use Rattle.std.specs.Option.{option_or}
use Rattle.std.specs.Str.{bytes_eq}
use Rattle.std.proofs.lemmas.Bool.{false≢true, eq-eqb, eqb-true, lt-ltb, le-ltb, ltb-true, ltb-false}
use Rattle.std.proofs.lemmas.Slice.Eq.{bytes_eq-Decides, slice_eq-Decides}
use Rattle.std.proofs.lemmas.Option.{same_Some}
use Rattle.bl_base.specs.declared.names.ValueType.{ValueType}
use Rattle.bl_base.specs.declared.names.ValueType.TheVariants.{I32, I64}
use Rattle.bl_base.proofs.BoolLemmas.{each_true}
use Rattle.bl_base.proofs.Lists.{first_same}
use Rattle.bl_wasm.specs.Exports.{Pairs, value_named}
use Rattle.bl_wasm.specs.TypeNumbers.{first_of, is_same, is_same_type, letter, spelled, with_number}
use Rattle.bl_wasm.specs.declared.linked.Signature.{Signature}
use Rattle.bl_wasm.proofs.NamedLemmas.{value_append}

-- ---- equal types

one_same : (a b : ValueType) → Decides (is_same a b) (a ≡ b)
one_same I32 I32 = (λ e. refl, λ e. refl)
one_same I64 I64 = (λ e. refl, λ e. refl)
one_same I32 I64 = (λ e. absurd (false≢true e), λ e. absurd (false≢true (subst (λ t. is_same I32 t ≡ true) e refl)))
one_same I64 I32 = (λ e. absurd (false≢true e), λ e. absurd (false≢true (subst (λ t. is_same I64 t ≡ true) e refl)))

pub same_type : (a b : Signature) → is_same_type a b ≡ true → a ≡ b
same_type a b e =
    let both = each_true (pointwise is_same a.params b.params) (pointwise is_same a.results b.results) e in
    let params : a.params ≡ b.params = (slice_eq-Decides one_same a.params b.params (pointwise is_same a.params b.params) refl).0 both.0 in
    let outcomes : a.results ≡ b.results = (slice_eq-Decides one_same a.results b.results (pointwise is_same a.results b.results) refl).0 both.1 in
    ap (λ ps. record { params = ps; results = a.results }) params ∙ ap (λ rs. record { params = b.params; results = rs }) outcomes

all_same : (types : List ValueType) → pointwise is_same types types ≡ true
all_same [] = refl
all_same (I32 ∷ types) = all_same types
all_same (I64 ∷ types) = all_same types

pub same_as_itself : (type : Signature) → is_same_type type type ≡ true
same_as_itself type = ap (λ b. b && pointwise is_same type.results type.results) (all_same type.params) ∙ all_same type.results

-- ---- texts of types

same_letter : (a b : ValueType) → letter a ≡ letter b → a ≡ b
same_letter I32 I32 e = refl
same_letter I32 I64 e = absurd (omega (arith, e))
same_letter I64 I32 e = absurd (omega (arith, e))
same_letter I64 I64 e = refl

same_letters : (xs ys : List ValueType) → map letter xs ≡ map letter ys → xs ≡ ys
same_letters [] [] e = refl
same_letters [] (y ∷ ys) e = cc
same_letters (x ∷ xs) [] e = cc
same_letters (x ∷ xs) (y ∷ ys) e =
    let first = same_letter x y (first_same (letter x) (letter y) (map letter xs) (map letter ys) e) in
    let later = same_letters xs ys (ap (drop 1) e) in
    λ i. first i ∷ later i

not_colon : (x : ValueType) → letter x ≡ 58 → ⊥
not_colon I32 e = omega (arith, e)
not_colon I64 e = omega (arith, e)

same_parts : (xs ys us vs : List ValueType) → map letter xs ++ 58 ∷ map letter us ≡ map letter ys ++ 58 ∷ map letter vs → (xs ≡ ys) × (us ≡ vs)
same_parts [] [] us vs e = (refl, same_letters us vs (ap (drop 1) e))
same_parts [] (y ∷ ys) us vs e = absurd (not_colon y (sym (first_same 58 (letter y) (map letter us) (map letter ys ++ 58 ∷ map letter vs) e)))
same_parts (x ∷ xs) [] us vs e = absurd (not_colon x (first_same (letter x) 58 (map letter xs ++ 58 ∷ map letter us) (map letter vs) e))
same_parts (x ∷ xs) (y ∷ ys) us vs e =
    let first = same_letter x y (first_same (letter x) (letter y) (map letter xs ++ 58 ∷ map letter us) (map letter ys ++ 58 ∷ map letter vs) e) in
    let later = same_parts xs ys us vs (ap (drop 1) e) in
    ((λ i. first i ∷ later.0 i), later.1)

spelled_alike : (a b : Signature) → spelled a ≡ spelled b → a ≡ b
spelled_alike a b e =
    let both = same_parts a.params b.params a.results b.results e in
    λ i. record { params = both.0 i; results = both.1 i }

-- ---- the first equal type

first_at : (types : List Signature) (type : Signature) (i : ℕ) → slice_get types i ≡ Some type → first_of types type ≤ i
first_at [] type i e = cc
first_at (other ∷ types) type i e = from (first_at types type) (is_same_type other type) refl i e
  where
    from : ((i : ℕ) → slice_get types i ≡ Some type → first_of types type ≤ i) → (b : Bool) → is_same_type other type ≡ b
        → (i : ℕ) → slice_get (other ∷ types) i ≡ Some type → (if b then 0 else suc (first_of types type)) ≤ i
    from later true same i e = omega arith
    from later false other_one zero e = absurd (false≢true (sym other_one ∙ ap (λ t. is_same_type other t) (sym (same_Some other type e)) ∙ same_as_itself other))
    from later false other_one (suc i) e = omega (arith, later i e)

first_there : (types : List Signature) (type : Signature) → first_of types type < length types → slice_get types (first_of types type) ≡ Some type
first_there [] type lt = absurd (omega (arith, lt))
first_there (other ∷ types) type lt = from (first_there types type) (is_same_type other type) refl lt
  where
    from : (first_of types type < length types → slice_get types (first_of types type) ≡ Some type) → (b : Bool) → is_same_type other type ≡ b
        → (if b then 0 else suc (first_of types type)) < length (other ∷ types) → slice_get (other ∷ types) (if b then 0 else suc (first_of types type)) ≡ Some type
    from later true same lt = ap Some (same_type other type same)
    from later false other_one lt = later (omega (arith, lt))

inside : (types : List Signature) (i : ℕ) (type : Signature) → slice_get types i ≡ Some type → i < length types
inside [] i type e = cc
inside (other ∷ types) zero type e = omega arith
inside (other ∷ types) (suc i) type e = omega (arith, inside types i type e)

-- the first type that is equal to one of them is found
pub first_found : (types : List Signature) (type : Signature) (i : ℕ) → slice_get types i ≡ Some type → slice_get types (first_of types type) ≡ Some type
first_found types type i e = first_there types type (omega (arith, first_at types type i e, inside types i type e))

-- two of the types are equal exactly where their numbers are
pub numbers_tell : (types : List Signature) (a b : Signature) (i j : ℕ) → slice_get types i ≡ Some a → slice_get types j ≡ Some b
    → (first_of types a == first_of types b) ≡ is_same_type a b
numbers_tell types a b i j e f = from (is_same_type a b) refl (first_of types a == first_of types b) refl
  where
    from : (same : Bool) → is_same_type a b ≡ same → (equal : Bool) → (first_of types a == first_of types b) ≡ equal → equal ≡ same
    from true same true equal = refl
    from false same false equal = refl
    from true same false equal =
        absurd (false≢true (sym equal ∙ eq-eqb (first_of types a) (first_of types b) (ap (first_of types) (same_type a b same))))
    from false same true equal =
        let one : Some a ≡ Some b = sym (first_found types a i e) ∙ ap (slice_get types) (eqb-true (first_of types a) (first_of types b) equal) ∙ first_found types b j f in
        absurd (false≢true (sym same ∙ ap (is_same_type a) (sym (same_Some a b one)) ∙ same_as_itself a))

-- ---- a number, where it is below another

abbrev pub below : ℕ → ℕ → Option ℕ
below n i = if nat_lt n i then Some n else None

is_below : (n i : ℕ) → n < i → below n i ≡ Some n
is_below n i lt = ap (λ (b : Bool). if b then Some n else None) (lt-ltb n i lt)

not_below : (n i : ℕ) → i ≤ n → below n i ≡ None
not_below n i le = ap (λ (b : Bool). if b then Some n else None) (le-ltb n i le)

got_below : (n i m : ℕ) → below n i ≡ Some m → (m ≡ n) × (n < i)
got_below n i m e = from (nat_lt n i) refl e
  where
    from : (b : Bool) → nat_lt n i ≡ b → (if b then Some n else None) ≡ Some m → (m ≡ n) × (n < i)
    from true t e = (sym (same_Some n m e), ltb-true n i t)
    from false t e = cc

none_below : (n i : ℕ) → below n i ≡ None → i ≤ n
none_below n i e = from (nat_lt n i) refl e
  where
    from : (b : Bool) → nat_lt n i ≡ b → (if b then Some n else None) ≡ None → i ≤ n
    from true t e = cc
    from false t e = ltb-false n i t

wider : (n i : ℕ) → (n ≡ i → ⊥) → below n i ≡ below n (i + 1)
wider n i other = from (nat_lt n i) refl (nat_lt i n) refl
  where
    from : (b : Bool) → nat_lt n i ≡ b → (c : Bool) → nat_lt i n ≡ c → below n i ≡ below n (i + 1)
    from true t c u =
        let lt = ltb-true n i t in
        is_below n i lt ∙ sym (is_below n (i + 1) (omega (arith, lt)))
    from false t true u =
        let lt = ltb-true i n u in
        not_below n i (omega (arith, lt)) ∙ sym (not_below n (i + 1) (omega (arith, lt)))
    from false t false u = absurd (other (omega (arith, ltb-false n i t, ltb-false i n u)))

-- ---- names behind others

either_none : (o : Option ℕ) → option_or o None ≡ o
either_none (Some n) = refl
either_none None = refl

-- ---- types that are known

-- of the first so many types, and of no other, the first equal one is known by its text
pub record Knows (types : List Signature) (i : ℕ) (pairs : Pairs) : Type 0 where
  pub found : (type : Signature) → value_named (spelled type) pairs ≡ below (first_of types type) i

module _ (types : List Signature) (i : ℕ) (type : Signature) (pairs : Pairs) (here : slice_get types i ≡ Some type) (knows : Knows types i pairs) where
  is_here : (other : Signature) → first_of types other ≡ i → other ≡ type
  is_here other e =
      let there = first_there types other (omega (arith, e, inside types i type here)) in
      same_Some other type (sym there ∙ ap (slice_get types) e ∙ here)

  -- a type that was met before
  pub met_again : (n : ℕ) → value_named (spelled type) pairs ≡ Some n → (n ≡ first_of types type) × Knows types (i + 1) pairs
  met_again n e =
      let b = got_below (first_of types type) i n (sym (knows.found type) ∙ e) in (
        b.0,
        record {
          found = λ other. knows.found other ∙ wider (first_of types other) i (λ same. omega (arith, b.1, same, ap (first_of types) (is_here other same)));
        },
      )

  -- a type that is new
  pub met_first : value_named (spelled type) pairs ≡ None → (i ≡ first_of types type) × Knows types (i + 1) (pairs ++ (spelled type, i) ∷ [])
  met_first e = (first, record { found = λ other. value_append (spelled other) pairs ((spelled type, i) ∷ []) ∙ of other (bytes_eq (spelled other) (spelled type)) refl })
    where
      first : i ≡ first_of types type
      first = omega (arith, none_below (first_of types type) i (sym (knows.found type) ∙ e), first_at types type i here)

      of : (other : Signature) (b : Bool) → bytes_eq (spelled other) (spelled type) ≡ b
          → option_or (value_named (spelled other) pairs) (if b then Some i else None) ≡ below (first_of types other) (i + 1)
      of other true same =
          let one = spelled_alike other type ((bytes_eq-Decides (spelled other) (spelled type)).0 same) in
          subst (λ t. option_or (value_named (spelled t) pairs) (Some i) ≡ below (first_of types t) (i + 1)) (sym one)
          (ap (λ o. option_or o (Some i)) e ∙ ap Some first ∙ sym (is_below (first_of types type) (i + 1) (omega (arith, first))))
      of other false not_same =
          either_none (value_named (spelled other) pairs) ∙ knows.found other ∙ wider (first_of types other) i (λ same.
          false≢true (sym not_same ∙ (bytes_eq-Decides (spelled other) (spelled type)).1 (ap spelled (is_here other same))))

  pub met : (o : Option ℕ) → value_named (spelled type) pairs ≡ o → (unwrap_or o i ≡ first_of types type) × Knows types (i + 1) (with_number o (spelled type) i pairs)
  met (Some n) e = met_again n e
  met None e = met_first e

-- ---- numbers so far

more : (f : Signature → ℕ) (types : List Signature) (i : ℕ) (type : Signature) → slice_get types i ≡ Some type
    → map f (take i types) ++ f type ∷ [] ≡ map f (take (suc i) types)
more f [] i type e = cc
more f (other ∷ types) zero type e = ap (λ t. f t ∷ []) (sym (same_Some other type e))
more f (other ∷ types) (suc i) type e = ap (λ ns. f other ∷ ns) (more f types i type e)

pub one_more : (f : Signature → ℕ) (types : List Signature) (i : ℕ) (type : Signature) (numbers : List ℕ) (n : ℕ) → slice_get types i ≡ Some type
    → numbers ≡ map f (take i types) → n ≡ f type → numbers ++ n ∷ [] ≡ map f (take (i + 1) types)
one_more f types i type numbers n here so_far is =
    let next : suc i ≡ i + 1 = omega arith in
    (λ k. so_far k ++ is k ∷ []) ∙ more f types i type here ∙ ap (λ j. map f (take j types)) next

-- What paths load the places of a set with, counted by places and by paths.
use Rattle.std.proofs.Common.{◌≡◌, ℕ, zero, suc, ◌+◌, ◌*◌, ◌<◌, ◌≤◌, Bool, true, false, List, [], ◌∷◌, cond, refl, sym, ap, subst, ◌∙◌, arith, inl, inr, nat_eq}
use Rattle.std.specs.Prelude.{IsTrue, map, if◌then◌else◌}
use Rattle.std.specs.List.{All, Any, sum_by, count_by, filter}
use Rattle.std.proofs.lemmas.Bool.{cases_Bool, eq-eqb, ne_eqb, false≢true}
use Rattle.std.proofs.lemmas.List.Sums.{sum_by-cons}
use Rattle.std.proofs.Math.Nat.{mul-add, mul-zero, mul-suc}
use Rattle.bl_base.specs.Sums.{sum_below}
use Rattle.bl_base.proofs.Sums.{sum_same, sum_plus, sum_none, sum_change}
use Rattle.bl_base.proofs.Members.{in_any, in_cases, none_in}

-- an amount where a test passes, and 0 elsewhere
abbrev pub amount_if : Bool → ℕ → ℕ
amount_if b a = (if b then a else 0)

-- 1 where a test passes
abbrev pub once : Bool → ℕ
once b = cond b 1 0

pub count_cons : (p : ℕ → Bool) (x : ℕ) (xs : List ℕ) → count_by p (x ∷ xs) ≡ once (p x) + count_by p xs
count_cons p x xs = sum_by-cons (λ y. cond (p y) 1 0) x xs

pub all_head : {X : Type 0} (P : X → Type 0) (x : X) (xs : List X) → All P (x ∷ xs) → P x
all_head P x xs all = all zero x (omega arith)

pub all_tail : {X : Type 0} (P : X → Type 0) (x : X) (xs : List X) → All P (x ∷ xs) → All P xs
all_tail P x xs all = λ k d lt. all (suc k) d (omega arith)

nothing_if : (b : Bool) → amount_if b 0 ≡ 0
nothing_if true = refl
nothing_if false = refl

if_plus : (b : Bool) (x y : ℕ) → amount_if b (x + y) ≡ amount_if b x + amount_if b y
if_plus true x y = refl
if_plus false x y = omega arith

if_once : (b : Bool) (a : ℕ) → amount_if b (a * 1) ≡ a * once b
if_once true a = refl
if_once false a = sym (mul-zero a)

-- a count is at least 1 where an element passes
pub some_counted : (p : ℕ → Bool) (xs : List ℕ) (x : ℕ) → Rattle.std.specs.List.Contains xs x → p x ≡ true → 1 ≤ count_by p xs
some_counted p [] x h e = absurd (none_in x h)
some_counted p (y ∷ xs) x h e =
    let sum = count_cons p y xs in
    elim (in_cases y x xs h) as (λ _. 1 ≤ count_by p (y ∷ xs)) [
      | inl same ↦ let here : once (p y) ≡ 1 = ap once (subst (λ z. p z ≡ true) (sym same) e) in omega arith
      | inr rest ↦ let more = some_counted p xs x rest e in omega arith
    ]

pub any_counted : (p : ℕ → Bool) (xs : List ℕ) → Any (λ x. IsTrue (p x)) xs → 1 ≤ count_by p xs
any_counted p xs any = let found = in_any (λ x. IsTrue (p x)) xs any in some_counted p xs found.0 found.1 found.2

-- a filter keeps the count of what it lets through
pub count_filter : (p q : ℕ → Bool) → ((v : ℕ) → p v ≡ true → q v ≡ true) → (xs : List ℕ) → count_by p (filter q xs) ≡ count_by p xs
count_filter p q into [] = refl
count_filter p q into (x ∷ xs) =
    let rest = count_filter p q into xs in
    let sum = count_cons p x xs in
    elim (cases_Bool (q x)) as (λ _. count_by p (filter q (x ∷ xs)) ≡ count_by p (x ∷ xs)) [
      | inl e ↦
          let kept : filter q (x ∷ xs) ≡ x ∷ filter q xs = ap (λ b. cond b (x ∷ filter q xs) (filter q xs)) e in
          let more = count_cons p x (filter q xs) in
          ap (count_by p) kept ∙ omega arith
      | inr e ↦
          let left : filter q (x ∷ xs) ≡ filter q xs = ap (λ b. cond b (x ∷ filter q xs) (filter q xs)) e in
          let none : once (p x) ≡ 0 = elim (cases_Bool (p x)) as (λ _. once (p x) ≡ 0) [ inl h ↦ absurd (false≢true (sym e ∙ into x h)) | inr h ↦ ap once h ] in
          ap (count_by p) left ∙ omega arith
    ]

-- at one place
one_place : (m : ℕ) (set : ℕ → Bool) (a u : ℕ) → u < m → sum_below m (λ v. amount_if (set v) (a * once (nat_eq u v))) ≡ a * once (set u)
one_place m set a u lt =
    let nothing = sum_none m (λ v. 0) (λ k _. refl) in
    let here : amount_if (set u) (a * once (nat_eq u u)) ≡ 0 + a * once (set u) =
    ap (λ b. amount_if (set u) (a * once b)) (eq-eqb u u refl) ∙ (if_once (set u) a ∙ omega arith) in
    let change = sum_change m (λ v. 0) (λ v. amount_if (set v) (a * once (nat_eq u v))) u (a * once (set u)) lt here
    (λ k _ other. ap (λ b. amount_if (set k) (a * once b)) (ne_eqb u k (λ e. other (sym e))) ∙ (ap (amount_if (set k)) (mul-zero a) ∙ nothing_if (set k))) in
    omega arith

-- one path
one_path : (m : ℕ) (set : ℕ → Bool) (a : ℕ) (nodes : List ℕ) → All (λ v. v < m) nodes
    → sum_below m (λ v. amount_if (set v) (a * count_by (λ u. nat_eq u v) nodes)) ≡ a * count_by set nodes
one_path m set a [] all = sum_none m (λ v. amount_if (set v) (a * 0)) (λ k _. ap (amount_if (set k)) (mul-zero a) ∙ nothing_if (set k)) ∙ sym (mul-zero a)
one_path m set a (u ∷ nodes) all =
    let here = one_place m set a u (all_head (λ v. v < m) u nodes all) in
    let rest = one_path m set a nodes (all_tail (λ v. v < m) u nodes all) in
    let first : ℕ → ℕ = λ v. amount_if (set v) (a * once (nat_eq u v)) in
    let more : ℕ → ℕ = λ v. amount_if (set v) (a * count_by (λ w. nat_eq w v) nodes) in
    let split = sum_plus m first more in
    let each = sum_same m (λ v. amount_if (set v) (a * count_by (λ w. nat_eq w v) (u ∷ nodes))) (λ v. first v + more v) (λ v _.
    ap (λ c. amount_if (set v) (a * c)) (count_cons (λ w. nat_eq w v) u nodes)
    ∙ (ap (amount_if (set v)) (mul-add a (once (nat_eq u v)) (count_by (λ w. nat_eq w v) nodes))
    ∙ if_plus (set v) (a * once (nat_eq u v)) (a * count_by (λ w. nat_eq w v) nodes))) in
    let right = ap (λ c. a * c) (count_cons set u nodes) ∙ mul-add a (once (set u)) (count_by set nodes) in
    omega arith

-- more than once is too much
at_most_once : (a c e : ℕ) → 0 < a → 1 ≤ c → a * c ≤ a → c ≡ 1
at_most_once a zero e some least most = absurd (omega arith)
at_most_once a (suc zero) e some least most = refl
at_most_once a (suc (suc c)) e some least most =
    let one = mul-suc a (suc c) in
    let two = mul-suc a c in
    absurd (omega arith)

once_more : (a c : ℕ) → 1 ≤ c → a ≤ a * c
once_more a zero least = absurd (omega arith)
once_more a (suc c) least = let more = mul-suc a c in omega arith

module _ {A : Type 0} (amount : A → ℕ) (nodes : A → List ℕ) where
  -- what paths load a place with, each place counted once
  abbrev pub through : List A → ℕ → ℕ
  through paths v = sum_by (λ p. amount p * count_by (λ u. nat_eq u v) (nodes p)) paths

  -- what paths carry, each once for each of its places in the set
  abbrev pub crossed : (ℕ → Bool) → List A → ℕ
  crossed set paths = sum_by (λ p. amount p * count_by set (nodes p)) paths

  -- counted by places and by paths it is the same
  pub both_counts : (m : ℕ) (set : ℕ → Bool) (paths : List A) → All (λ p. All (λ v. v < m) (nodes p)) paths
      → sum_below m (λ v. amount_if (set v) (through paths v)) ≡ crossed set paths
  both_counts m set [] all = sum_none m (λ v. amount_if (set v) 0) (λ k _. nothing_if (set k))
  both_counts m set (p ∷ paths) all =
      let here = one_path m set (amount p) (nodes p) (all_head (λ q. All (λ v. v < m) (nodes q)) p paths all) in
      let rest = both_counts m set paths (all_tail (λ q. All (λ v. v < m) (nodes q)) p paths all) in
      let first : ℕ → ℕ = λ v. amount_if (set v) (amount p * count_by (λ u. nat_eq u v) (nodes p)) in
      let more : ℕ → ℕ = λ v. amount_if (set v) (through paths v) in
      let split = sum_plus m first more in
      let each = sum_same m (λ v. amount_if (set v) (through (p ∷ paths) v)) (λ v. first v + more v) (λ v _.
      ap (amount_if (set v)) (sum_by-cons (λ q. amount q * count_by (λ u. nat_eq u v) (nodes q)) p paths)
      ∙ if_plus (set v) (amount p * count_by (λ u. nat_eq u v) (nodes p)) (through paths v)) in
      let right = sum_by-cons (λ q. amount q * count_by set (nodes q)) p paths in
      omega arith

  -- each path has a place in the set
  pub crossed_least : (set : ℕ → Bool) (paths : List A) → All (λ p. 1 ≤ count_by set (nodes p)) paths → sum_by amount paths ≤ crossed set paths
  crossed_least set [] all = omega arith
  crossed_least set (p ∷ paths) all =
      let rest = crossed_least set paths (all_tail (λ q. 1 ≤ count_by set (nodes q)) p paths all) in
      let here = once_more (amount p) (count_by set (nodes p)) (all_head (λ q. 1 ≤ count_by set (nodes q)) p paths all) in
      let left = sum_by-cons amount p paths in
      let right = sum_by-cons (λ q. amount q * count_by set (nodes q)) p paths in
      omega arith

  -- and exactly one, if that is all
  pub crossed_once : (set : ℕ → Bool) (paths : List A) → All (λ p. 0 < amount p) paths → All (λ p. 1 ≤ count_by set (nodes p)) paths → crossed set paths ≤ sum_by amount paths
      → All (λ p. count_by set (nodes p) ≡ 1) paths
  crossed_once set [] some all most = λ k d lt. absurd (omega arith)
  crossed_once set (p ∷ paths) some all most =
      let some_tail = all_tail (λ q. 0 < amount q) p paths some in
      let some_head = all_head (λ q. 0 < amount q) p paths some in
      let tail = all_tail (λ q. 1 ≤ count_by set (nodes q)) p paths all in
      let head = all_head (λ q. 1 ≤ count_by set (nodes q)) p paths all in
      let least = crossed_least set paths tail in
      let here = once_more (amount p) (count_by set (nodes p)) head in
      let left = sum_by-cons amount p paths in
      let right = sum_by-cons (λ q. amount q * count_by set (nodes q)) p paths in
      Rattle.std.proofs.lemmas.List.Elements.All-cons (λ q. count_by set (nodes q) ≡ 1) p paths
      (at_most_once (amount p) (count_by set (nodes p)) 0 some_head head (omega arith))
      (crossed_once set paths some_tail tail (omega arith))

-- sums over mapped lists, and of equal terms
pub sum_map : {A B : Type 0} (f : B → ℕ) (h : A → B) (xs : List A) → sum_by f (map h xs) ≡ sum_by (λ x. f (h x)) xs
sum_map f h [] = refl
sum_map f h (x ∷ xs) =
    let rest = sum_map f h xs in
    let left = sum_by-cons f (h x) (map h xs) in
    let right = sum_by-cons (λ y. f (h y)) x xs in
    omega arith

pub sum_alike : {A : Type 0} (f h : A → ℕ) → ((x : A) → f x ≡ h x) → (xs : List A) → sum_by f xs ≡ sum_by h xs
sum_alike f h same [] = refl
sum_alike f h same (x ∷ xs) =
    let rest = sum_alike f h same xs in
    let left = sum_by-cons f x xs in
    let right = sum_by-cons h x xs in
    let here = same x in
    omega arith

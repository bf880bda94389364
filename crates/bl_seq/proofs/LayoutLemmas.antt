-- What stands in a layout.
use Rattle.std.proofs.Common.{◌≡◌, ℕ, zero, suc, ◌+◌, ◌-◌, ◌*◌, ◌^◌, ◌<◌, ◌≤◌, inl, inr, Bool, true, false, List, [], ◌∷◌, ◌++◌, length, replicate, get_or, min, refl, sym, ap, ◌∙◌, subst, arith}
use Rattle.std.specs.Prelude.{nat_lt, if◌then◌else◌}
use Rattle.std.proofs.lemmas.Bool.{cases_lt, ltb-true, ltb-false}
use Rattle.std.proofs.lemmas.Grind.{get_or_default_zero}
use Rattle.std.proofs.lemmas.List.{get_or_past}
use Rattle.std.proofs.lemmas.List.Elements.{All-get_or}
use Rattle.std.specs.List.{All}
use Rattle.bl_base.proofs.Lists.{all_get, within_get}
use Rattle.bl_program.specs.Layout.{sum_before, number_at, holding, running, statics, first_of, params_of, results_of, base}
use Rattle.bl_program.specs.Rules.{IsFunction, Rule1, Rule2}
use Rattle.bl_program.specs.declared.definitions.FunctionDef.{FunctionDef}
use Rattle.bl_program.specs.declared.definitions.MemoryDef.{MemoryDef}
use Rattle.bl_program.specs.declared.definitions.ProgramParts.{ProgramParts as Program}
use Rattle.bl_program.proofs.Layouts.{number_is, next_first}
use Rattle.bl_seq.specs.Layouts.{frame_of, frames_from, owners_from, ends_from}
use Rattle.bl_seq.specs.declared.layout.Frame.{Frame}

-- ---- functions

-- what is known of a function of that number, where the first one begins there
abbrev frame_at : ℕ → ℕ → List FunctionDef → ℕ → Frame
frame_at entry first functions function = record {
  entry = entry + sum_before (λ f. f.length) functions function;
  first = first + sum_before (λ f. f.vars) functions function;
  params = number_at (λ f. length f.params) functions function;
  results = number_at (λ f. length f.results) functions function;
}

same_frame : (a b c d p q r s : ℕ) → a ≡ b → c ≡ d → p ≡ q → r ≡ s
    → (let one : Frame = record { entry = a; first = c; params = p; results = r } in one) ≡ record { entry = b; first = d; params = q; results = s }
same_frame a b c d p q r s e f g h = cc

frames_at : (entry first : ℕ) (functions : List FunctionDef) (function : ℕ) (blank : Frame)
    → get_or (frames_from entry first functions) (min (length functions) function) blank ≡ frame_at entry first functions function
frames_at entry first [] zero blank = let none : min 0 0 ≡ 0 = omega arith in rw none (same_frame _ _ _ _ _ _ _ _ (omega arith) (omega arith) refl refl)
frames_at entry first [] (suc function) blank = let none : min 0 (suc function) ≡ 0 = omega arith in rw none (same_frame _ _ _ _ _ _ _ _ (omega arith) (omega arith) refl refl)
frames_at entry first (f ∷ functions) zero blank =
    let none : min (length (f ∷ functions)) 0 ≡ 0 = omega arith in rw none (same_frame _ _ _ _ _ _ _ _ (omega arith) (omega arith) refl refl)
frames_at entry first (f ∷ functions) (suc function) blank =
    let next : min (length (f ∷ functions)) (suc function) ≡ suc (min (length functions) function) = omega arith in
    rw next (frames_at (entry + f.length) (first + f.vars) functions function blank
    ∙ same_frame _ _ _ _ _ _ _ _ (omega arith) (omega arith) refl refl)

pub frame_is : (program : Program) (frames : List Frame) (function place : ℕ) (blank : Frame) → frames ≡ frames_from 7 (statics program) program.functions
    → place ≡ min (length program.functions) function → get_or frames place blank ≡ frame_of program function
frame_is program frames function place blank e at = rw (e, at) (frames_at 7 (statics program) program.functions function blank)

frames_length : (entry first : ℕ) (functions : List FunctionDef) → length (frames_from entry first functions) ≡ suc (length functions)
frames_length entry first [] = refl
frames_length entry first (f ∷ functions) = ap suc (frames_length (entry + f.length) (first + f.vars) functions)

pub frames_count : (program : Program) (frames : List Frame) → frames ≡ frames_from 7 (statics program) program.functions → length frames ≡ suc (length program.functions)
frames_count program frames e = rw e (frames_length 7 (statics program) program.functions)

-- ---- positions

got_front : (n x number d : ℕ) (rest : List ℕ) → x < n → get_or (replicate n number ++ rest) x d ≡ number
got_front zero x number d rest lt = absurd (omega arith)
got_front (suc n) zero number d rest lt = refl
got_front (suc n) (suc x) number d rest lt = got_front n x number d rest (omega arith)

got_behind : (n x number d : ℕ) (rest : List ℕ) → n ≤ x → get_or (replicate n number ++ rest) x d ≡ get_or rest (x - n) d
got_behind zero x number d rest le = let same : x - 0 ≡ x = omega arith in rw same refl
got_behind (suc n) zero number d rest le = absurd (omega arith)
got_behind (suc n) (suc x) number d rest le = let same : suc x - suc n ≡ x - n = omega arith in rw same (got_behind n x number d rest (omega arith))

owner_at : (number : ℕ) (functions : List FunctionDef) (x : ℕ)
    → get_or (owners_from number functions) x (number + length functions) ≡ number + holding (λ f. f.length) functions x
owner_at number [] x = refl
owner_at number (f ∷ functions) x = by (nat_lt x f.length) refl (owner_at (number + 1) functions (x - f.length))
  where
    by : (b : Bool) → nat_lt x f.length ≡ b
        → get_or (owners_from (number + 1) functions) (x - f.length) (number + 1 + length functions) ≡ number + 1 + holding (λ f. f.length) functions (x - f.length)
        → get_or (owners_from number (f ∷ functions)) x (number + length (f ∷ functions)) ≡ number + (if b then 0 else suc (holding (λ f. f.length) functions (x - f.length)))
    by true e rest = got_front f.length x number (number + length (f ∷ functions)) (owners_from (number + 1) functions) (ltb-true x f.length e) ∙ omega arith
    by false e rest =
        let all : number + length (f ∷ functions) ≡ number + 1 + length functions = omega arith in
        got_behind f.length x number (number + length (f ∷ functions)) (owners_from (number + 1) functions) (ltb-false x f.length e)
        ∙ ap (λ d. get_or (owners_from (number + 1) functions) (x - f.length) d) all ∙ rest ∙ omega arith

first_holds : (functions : List FunctionDef) → All IsFunction functions → holding (λ f. f.length) functions 0 ≡ 0
first_holds [] each = refl
first_holds (f ∷ functions) each = by (nat_lt 0 f.length) refl
  where
    by : (b : Bool) → nat_lt 0 f.length ≡ b → (if b then 0 else suc (holding (λ f. f.length) functions (0 - f.length))) ≡ 0
    by true e = refl
    by false e = let low = (All-get_or IsFunction (f ∷ functions) 0 f (omega arith) each).command in let none = ltb-false 0 f.length e in absurd (omega arith)

owner_got : (program : Program) (position : ℕ) → All IsFunction program.functions
    → get_or (replicate 7 0 ++ owners_from 0 program.functions) position (length program.functions) ≡ holding (λ f. f.length) program.functions (position - 7)
owner_got program position each =
    elim (cases_lt position 7) as (λ _. get_or (replicate 7 0 ++ owners_from 0 program.functions) position (length program.functions)
    ≡ holding (λ f. f.length) program.functions (position - 7)) [
      | inl less ↦
          let none : position - 7 ≡ 0 = omega arith in
          got_front 7 position 0 (length program.functions) (owners_from 0 program.functions) less ∙ sym (first_holds program.functions each)
          ∙ ap (λ x. holding (λ f. f.length) program.functions x) (sym none)
      | inr more ↦
          let all : length program.functions ≡ 0 + length program.functions = omega arith in
          got_behind 7 position 0 (length program.functions) (owners_from 0 program.functions) more
          ∙ ap (λ d. get_or (owners_from 0 program.functions) (position - 7) d) all
          ∙ owner_at 0 program.functions (position - 7) ∙ omega arith
    ]

pub owner_is : (program : Program) (owners : List ℕ) (position d : ℕ) → All IsFunction program.functions → owners ≡ replicate 7 0 ++ owners_from 0 program.functions
    → position < length owners → get_or owners position d ≡ running program position
owner_is program owners position d each e lt =
    get_or_default_zero owners position d lt ∙ sym (get_or_default_zero owners position (length program.functions) lt)
    ∙ ap (λ o. get_or o position (length program.functions)) e ∙ owner_got program position each

pub owner_past : (program : Program) (owners : List ℕ) (position : ℕ) → All IsFunction program.functions → owners ≡ replicate 7 0 ++ owners_from 0 program.functions
    → length owners ≤ position → length program.functions ≡ running program position
owner_past program owners position each e le =
    sym (get_or_past owners position (length program.functions) le) ∙ ap (λ o. get_or o position (length program.functions)) e ∙ owner_got program position each

-- ---- bounds

module _ {X : Type 0} (f : X → ℕ) where
  past_number : (xs : List X) (i : ℕ) → length xs ≤ i → number_at f xs i ≡ 0
  past_number [] i le = refl
  past_number (x ∷ xs) zero le = absurd (omega arith)
  past_number (x ∷ xs) (suc i) le = past_number xs i (omega arith)

  any_sum : (xs : List X) (i : ℕ) → sum_before f xs i ≤ sum_before f xs (length xs)
  any_sum [] zero = omega arith
  any_sum [] (suc i) = omega arith
  any_sum (x ∷ xs) zero = omega arith
  any_sum (x ∷ xs) (suc i) = let rest = any_sum xs i in omega arith

  pub sum_next : (xs : List X) (i : ℕ) (d : X) → i < length xs → sum_before f xs (i + 1) ≡ sum_before f xs i + f (get_or xs i d)
  sum_next [] i d lt = absurd (omega arith)
  sum_next (x ∷ xs) zero d lt = let none : sum_before f xs 0 ≡ 0 = refl in omega arith
  sum_next (x ∷ xs) (suc i) d lt = let next : suc i + 1 ≡ suc (i + 1) = omega arith in rw next (let rest = sum_next xs i d (omega arith) in omega arith)

pub small_first : (program : Program) → Rule2 program → (function : ℕ) → first_of program function < 2 ^ 31
small_first program rule function = let most = rule.variables in let up = any_sum (λ (f : FunctionDef). f.vars) program.functions function in omega arith

pub small_params : (program : Program) → Rule2 program → (function : ℕ) → params_of program function + results_of program function < 2 ^ 31
small_params program rule function = elim (cases_lt function (length program.functions)) as (λ _. params_of program function + results_of program function < 2 ^ 31) [
  | inl less ↦
      let got = within_get program.functions function less in
      let params : params_of program function ≡ length got.0.params = number_is (λ (f : FunctionDef). length f.params) program.functions function got.0 got.1 in
      let results : results_of program function ≡ length got.0.results = number_is (λ (f : FunctionDef). length f.results) program.functions function got.0 got.1 in
      let next = next_first program function got.0 got.1 in
      let room = (all_get IsFunction program.functions function got.0 rule.each got.1).variables in
      let most = small_first program rule (suc function) in
      omega arith
  | inr more ↦
      let params : params_of program function ≡ 0 = past_number (λ (f : FunctionDef). length f.params) program.functions function more in
      let results : results_of program function ≡ 0 = past_number (λ (f : FunctionDef). length f.results) program.functions function more in
      omega arith
]

pub small_frame : (program : Program) (frame : Frame) (function : ℕ) → Rule2 program → frame ≡ frame_of program function
    → (frame.first < 2 ^ 31) × (frame.params + frame.results < 2 ^ 31)
small_frame program frame function rule e =
    subst (λ f. (f.first < 2 ^ 31) × (f.params + f.results < 2 ^ 31)) (sym e) (small_first program rule function, small_params program rule function)

-- ---- memories

ends_at : (base : ℕ) (memories : List MemoryDef) (memory d : ℕ)
    → get_or (base ∷ ends_from base memories) (min (length memories) memory) d ≡ base + sum_before (λ m. m.reserve * 65536) memories memory
ends_at base [] zero d = let none : min 0 0 ≡ 0 = omega arith in rw none (omega arith)
ends_at base [] (suc memory) d = let none : min 0 (suc memory) ≡ 0 = omega arith in rw none (omega arith)
ends_at base (m ∷ memories) zero d = let none : min (length (m ∷ memories)) 0 ≡ 0 = omega arith in rw none (omega arith)
ends_at base (m ∷ memories) (suc memory) d =
    let next : min (length (m ∷ memories)) (suc memory) ≡ suc (min (length memories) memory) = omega arith in
    let rest = ends_at (base + m.reserve * 65536) memories memory d in
    rw next (rest ∙ omega arith)

pub base_is : (program : Program) (bases : List ℕ) (memory place d : ℕ) → bases ≡ 0 ∷ ends_from 0 program.memories → place ≡ min (length program.memories) memory
    → get_or bases place d ≡ base program memory
base_is program bases memory place d e at = rw (e, at) (ends_at 0 program.memories memory d ∙ omega arith)

ends_length : (base : ℕ) (memories : List MemoryDef) → length (ends_from base memories) ≡ length memories
ends_length base [] = refl
ends_length base (m ∷ memories) = ap suc (ends_length (base + m.reserve * 65536) memories)

pub bases_count : (program : Program) (bases : List ℕ) → bases ≡ 0 ∷ ends_from 0 program.memories → length bases ≡ suc (length program.memories)
bases_count program bases e = rw e (ap suc (ends_length 0 program.memories))

pub in_bytes : (memories : List MemoryDef) (i : ℕ) → sum_before (λ m. m.reserve * 65536) memories i ≡ 65536 * sum_before (λ m. m.reserve) memories i
in_bytes memories zero = none memories
  where
    none : (memories : List MemoryDef) → sum_before (λ m. m.reserve * 65536) memories 0 ≡ 65536 * sum_before (λ m. m.reserve) memories 0
    none [] = refl
    none (m ∷ memories) = refl
in_bytes [] (suc i) = refl
in_bytes (m ∷ memories) (suc i) = let rest = in_bytes memories i in omega arith

pub small_base : (program : Program) → Rule1 program → (memory : ℕ) → base program memory ≤ 67108864
small_base program rule memory =
    let most = rule.total in
    let up = any_sum (λ (m : MemoryDef). m.reserve) program.memories memory in
    let same = in_bytes program.memories memory in
    omega arith

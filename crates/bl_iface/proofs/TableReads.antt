-- What is read by the tables of the code.
use Rattle.std.proofs.Common.{◌≡◌, ◌⊎◌, inl, inr, ℕ, suc, ◌+◌, ◌-◌, ◌<◌, ◌≤◌, ◌^◌, Bool, true, false, List, get_or, length, Option, Some, slice_get, refl, sym, ap, ◌∙◌, subst, arith}
use Rattle.std.specs.Prelude.{if◌then◌else◌, nat_lt}
use Rattle.std.proofs.lemmas.Bool.{ltb-true, ltb-false}
use Rattle.std.proofs.lemmas.Option.{slice_get-get_or}
use Rattle.bl_base.proofs.Lists.{all_get}
use Rattle.bl_program.specs.Layout.{first_of, params_of, result, results_of}
use Rattle.bl_program.specs.Rules.{IsFunction, IsOwn, IsResult, Rule2}
use Rattle.bl_program.specs.Layout.{AreValues}
use Rattle.bl_program.specs.declared.definitions.FunctionDef.{FunctionDef}
use Rattle.bl_program.specs.declared.definitions.ProgramParts.{ProgramParts as Program}
use Rattle.bl_program.proofs.Layouts.{first_above, first_below, next_first, number_is, own_exists, result_own}
use Rattle.bl_iface.specs.JoinedProgram.{moved_var, owner, read_from, result_from}
use Rattle.bl_iface.specs.PartNumbers.{AreNumbers}
use Rattle.bl_iface.specs.declared.numbers.Numbers.{Numbers}
use Rattle.bl_iface.specs.declared.shift.Shift.{Shift}
use Rattle.bl_iface.proofs.JoinedReads.{owner_is}

-- ---- the owner of a variable, by the table of first variables

module _ (part : Program) (firsts : List ℕ) (are : AreValues (first_of part) (length part.functions) firsts) where
  pub own_at : (f x : ℕ) → f + 1 < length firsts → get_or firsts f 0 ≤ x → x < get_or firsts (f + 1) 0 → IsOwn part f x
  own_at f x within low high =
      let many = are.len in
      let here = are.each f (omega arith) in
      let next = are.each (f + 1) (omega arith) in
      let same : f + 1 ≡ suc f = omega arith in
      let over : first_of part (f + 1) ≡ first_of part (suc f) = ap (first_of part) same in
      (omega arith, omega arith)

  -- what no function has is no result
  pub no_owner : (x : ℕ) → Rule2 part → (x < get_or firsts 0 0) ⊎ (get_or firsts (length firsts - 1) 0 ≤ x) → (f : ℕ) → IsResult part f x → ⊥
  no_owner x rule h f r =
      let many = are.len in
      let own = result_own part f x rule r in
      let exists = own_exists part f x own in
      let low = own.0 in let high = own.1 in
      elim h as (λ _. ⊥) [
        | inl less ↦ let here = are.each 0 (omega arith) in let above = first_above part f in omega arith
        | inr more ↦
            let last : length firsts - 1 ≡ length part.functions = omega arith in
            let here : get_or firsts (length firsts - 1) 0 ≡ first_of part (length part.functions) = ap (λ k. get_or firsts k 0) last ∙ are.each (length part.functions) (omega arith) in
            let below = first_below part (suc f) (omega arith) in
            omega arith
      ]

-- ---- what is read

module _ (goal : ℕ → Option ℕ) (shift : Shift) (part : Program) (other_shift : Shift) (other : Program) where
  abbrev moved : ℕ → ℕ
  moved = moved_var shift part

  abbrev there : ℕ → ℕ
  there x = result_from shift part other_shift other (owner part x) (goal (owner part x)) x

  -- a result that goes to the other part is read there, and all else where it is moved to
  pub from_cases : (x : ℕ) → ((IsResult part (owner part x) x → ⊥) × (read_from goal shift part other_shift other x ≡ moved_var shift part x))
      ⊎ (IsResult part (owner part x) x × (read_from goal shift part other_shift other x ≡ result_from shift part other_shift other (owner part x) (goal (owner part x)) x))
  from_cases x = by (nat_lt x low) (nat_lt x high) refl refl
    where
      low : ℕ
      low = result part (owner part x) 0

      high : ℕ
      high = result part (owner part x) (results_of part (owner part x))

      by : (b c : Bool) → nat_lt x low ≡ b → nat_lt x high ≡ c
          → ((IsResult part (owner part x) x → ⊥) × ((if b then moved x else if c then there x else moved x) ≡ moved x))
          ⊎ (IsResult part (owner part x) x × ((if b then moved x else if c then there x else moved x) ≡ there x))
      by true c e h = inl (λ r. let lt = ltb-true _ _ e in let le = r.0 in omega arith, refl)
      by false true e h = inr ((ltb-false _ _ e, ltb-true _ _ h), refl)
      by false false e h = inl (λ r. let le = ltb-false _ _ h in let lt = r.1 in omega arith, refl)

  pub read_plain : (x : ℕ) → ((f : ℕ) → IsResult part f x → ⊥) → read_from goal shift part other_shift other x ≡ moved_var shift part x
  read_plain x none = elim (from_cases x) as (λ _. read_from goal shift part other_shift other x ≡ moved_var shift part x) [
    | inl plain ↦ plain.1
    | inr one ↦ absurd (none (owner part x) one.0)
  ]

  module _ (f x : ℕ) (own : IsOwn part f x) where
    pub read_own : (IsResult part f x → ⊥) → read_from goal shift part other_shift other x ≡ moved_var shift part x
    read_own none = elim (from_cases x) as (λ _. read_from goal shift part other_shift other x ≡ moved_var shift part x) [
      | inl plain ↦ plain.1
      | inr one ↦ absurd (none (subst (λ k. IsResult part k x) (owner_is part f x own) one.0))
    ]

    pub read_result : IsResult part f x → (o : Option ℕ) → goal f ≡ o → read_from goal shift part other_shift other x ≡ result_from shift part other_shift other f o x
    read_result r o e = elim (from_cases x) as (λ _. read_from goal shift part other_shift other x ≡ result_from shift part other_shift other f o x) [
      | inl plain ↦ absurd (plain.0 (subst (λ k. IsResult part k x) (sym (owner_is part f x own)) r))
      | inr one ↦ one.1 ∙ ap (λ k. result_from shift part other_shift other k (goal k) x) (owner_is part f x own) ∙ ap (λ k. result_from shift part other_shift other f k x) e
    ]

-- ---- a result of the other part

module _ (n : Numbers) (are : AreNumbers n) (functions : List FunctionDef) (callee index params : ℕ) (d : FunctionDef) (same : functions ≡ n.other.now.functions)
    (exists : callee < length n.other.now.functions) (few : index ≤ first_of n.part.now (length n.part.now.functions)) (is : params ≡ length (get_or functions callee d).params) where
  abbrev other : Program
  other = n.other.now

  stands : slice_get other.functions callee ≡ Some (get_or other.functions callee d)
  stands = slice_get-get_or other.functions callee d exists

  -- its place
  pub result_place : get_or n.other_firsts.now callee 0 + params + index ≡ result other callee index
  result_place =
      let first = are.other_firsts.each callee (omega arith) in
      let number : params_of other callee ≡ length (get_or other.functions callee d).params = number_is (λ (f : FunctionDef). length f.params) other.functions callee _ stands in
      let count : params ≡ length (get_or other.functions callee d).params = is ∙ ap (λ (fs : List FunctionDef). length (get_or fs callee d).params) same in
      omega arith

  -- it is below 2^31
  pub result_small : get_or n.other_firsts.now callee 0 + params + index < 2 ^ 31
  result_small =
      let first = are.other_firsts.each callee (omega arith) in
      let count : params ≡ length (get_or other.functions callee d).params = is ∙ ap (λ (fs : List FunctionDef). length (get_or fs callee d).params) same in
      let one = (all_get IsFunction other.functions callee _ are.other_rule.each stands).variables in
      let next = next_first other callee (get_or other.functions callee d) stands in
      let below = first_below other (suc callee) (omega arith) in
      let room = are.room in
      omega arith

-- ---- a result of the part

module _ (n : Numbers) (are : AreNumbers n) (functions : List FunctionDef) (f x : ℕ) (d : FunctionDef) (same : functions ≡ n.part.now.functions) (within : f < length n.part.now.functions)
    (is : d ≡ get_or functions f d) (own : IsOwn n.part.now f x) where
  abbrev part : Program
  part = n.part.now

  at_f : slice_get part.functions f ≡ Some d
  at_f = slice_get-get_or part.functions f d within ∙ ap (λ (fs : List FunctionDef). Some (get_or fs f d)) (sym same) ∙ ap Some (sym is)

  first : get_or n.firsts.now f 0 ≡ first_of part f
  first = are.firsts.each f (omega arith)

  params : params_of part f ≡ length d.params
  params = number_is (λ (k : FunctionDef). length k.params) part.functions f d at_f

  results : results_of part f ≡ length d.results
  results = number_is (λ (k : FunctionDef). length k.results) part.functions f d at_f

  pub index_of : IsResult part f x → (length d.params ≤ x - get_or n.firsts.now f 0) × (x - get_or n.firsts.now f 0 < length d.params + length d.results)
  index_of r =
      let low = r.0 in let high = r.1 in
      let start = first in let many = params in let also = results in
      (omega arith, omega arith)

  module _ (index : ℕ) (place : x - get_or n.firsts.now f 0 ≡ length d.params + index) (below : index < length d.results) where
    pub result_of_index : IsResult part f x
    result_of_index =
        let low = own.0 in
        let start = first in let many = params in let also = results in
        (omega arith, omega arith)

    pub index_is : x - result part f 0 ≡ index
    index_is =
        let low = own.0 in
        let start = first in let many = params in
        omega arith

    pub index_small : index ≤ first_of part (length part.functions)
    index_small =
        let high = own.1 in
        let low = own.0 in
        let start = first in let many = params in
        let up = first_below part (suc f) (omega arith) in
        omega arith

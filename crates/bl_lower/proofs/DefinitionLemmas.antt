-- What is copied from the linked tree, one item more.
use Rattle.std.proofs.Common.{◌≡◌, ℕ, suc, ◌+◌, ◌-◌, ◌<◌, true, false, cond, List, [], ◌∷◌, ◌++◌, length, map, drop, refl, sym, ap, ◌∙◌, arith, append_assoc, append-nil, ◌⊎◌, inl, inr}
use Rattle.std.specs.Prelude.{get_or}
use Rattle.std.specs.List.{filter, range_with_len, zip}
use Rattle.std.proofs.lemmas.List.{drop_more}
use Rattle.bl_base.specs.declared.names.Label.{Label}
use Rattle.bl_base.specs.declared.names.ValueType.{ValueType}
use Rattle.bl_program.specs.declared.definitions.ParamDef.{ParamDef}
use Rattle.bl_wasm.specs.declared.linked.Function.{Function}
use Rattle.bl_program.specs.declared.definitions.Demand.{Demand}
use Rattle.bl_program.specs.declared.definitions.Demand.TheVariants as demand
use Rattle.bl_program.specs.declared.definitions.MemRow.{MemRow}
use Rattle.bl_lower.specs.Trees.{demanded_from, demanded_results, is_filled, param_def, memory_row_at}

pub results_more : (functions : List Function) (n : ℕ) (function : Function) (all whole : List Demand) → n < length functions → function ≡ get_or functions n function
    → all ++ demanded_results n (drop n functions) ≡ whole → (all ++ demanded_from (demand.Result n) 0 function.demanded) ++ demanded_results (n + 1) (drop (n + 1) functions) ≡ whole
results_more functions n function all whole lt is h =
    let next : drop n functions ≡ function ∷ drop (n + 1) functions = drop_more functions n function lt ∙ ap (λ f. f ∷ drop (n + 1) functions) (sym is) in
    let later : n + 1 ≡ suc n = omega arith in
    append_assoc all (demanded_from (demand.Result n) 0 function.demanded) (demanded_results (n + 1) (drop (n + 1) functions))
    ∙ ap (λ k. all ++ (demanded_from (demand.Result n) 0 function.demanded ++ demanded_results k (drop (n + 1) functions))) later
    ∙ sym (ap (λ fs. all ++ demanded_results n fs) next) ∙ h

module _ (bytes : List ℕ) where
  abbrev pub rows_left : ℕ → ℕ → List MemRow
  rows_left n count = filter (λ row. is_filled row.bytes) (map (memory_row_at bytes) (range_with_len n (count - n)))

  next_rows : (n count : ℕ) → n < count → rows_left n count ≡ cond (is_filled (memory_row_at bytes n).bytes) (memory_row_at bytes n ∷ rows_left (n + 1) count) (rows_left (n + 1) count)
  next_rows n count lt =
      let split : count - n ≡ suc (count - (n + 1)) = omega (arith, lt) in
      ap (λ k. filter (λ row. is_filled row.bytes) (map (memory_row_at bytes) (range_with_len n k))) split

  pub filled_more : (n count : ℕ) (all whole : List MemRow) → n < count → is_filled (memory_row_at bytes n).bytes ≡ true → all ++ rows_left n count ≡ whole → (all ++ memory_row_at bytes n ∷ []) ++ rows_left (n + 1) count ≡ whole
  filled_more n count all whole lt e h =
      append_assoc all (memory_row_at bytes n ∷ []) (rows_left (n + 1) count)
      ∙ ap (λ b. all ++ cond b (memory_row_at bytes n ∷ rows_left (n + 1) count) (rows_left (n + 1) count)) (sym e) ∙ ap (λ l. all ++ l) (sym (next_rows n count lt)) ∙ h

  pub unfilled_more : (n count : ℕ) (all whole : List MemRow) → n < count → is_filled (memory_row_at bytes n).bytes ≡ false → all ++ rows_left n count ≡ whole → all ++ rows_left (n + 1) count ≡ whole
  unfilled_more n count all whole lt e h =
      ap (λ b. all ++ cond b (memory_row_at bytes n ∷ rows_left (n + 1) count) (rows_left (n + 1) count)) (sym e) ∙ ap (λ l. all ++ l) (sym (next_rows n count lt)) ∙ h

-- where no type or no label is left, no parameter is
no_params : (kinds : List ValueType) (labels : List Label) → (kinds ≡ []) ⊎ (labels ≡ []) → map param_def (zip kinds labels) ≡ []
no_params [] labels e = refl
no_params (kind ∷ kinds) [] e = refl
no_params (kind ∷ kinds) (label ∷ labels) (inl e) = absurd cc
no_params (kind ∷ kinds) (label ∷ labels) (inr e) = absurd cc

pub whole_params : (all whole : List ParamDef) (kinds : List ValueType) (labels : List Label) → (kinds ≡ []) ⊎ (labels ≡ []) → all ++ map param_def (zip kinds labels) ≡ whole → all ≡ whole
whole_params all whole kinds labels none e = sym (append-nil all) ∙ (ap (λ rest. all ++ rest) (sym (no_params kinds labels none)) ∙ e)

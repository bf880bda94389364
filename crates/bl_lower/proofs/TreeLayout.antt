-- The parts of the program of a linked tree: where they stand, and what its memories are at first.
use Rattle.std.proofs.Common.{◌≡◌, ℕ, zero, suc, ◌+◌, List, [], ◌∷◌, length, map, Option, Some, None, slice_get, unwrap_or, refl, sym, ap, ap₂, ◌∙◌}
use Rattle.std.specs.Prelude.{option_map, option_and_then}
use Rattle.std.specs.List.{zip}
use Rattle.std.proofs.lemmas.List.{length-map}
use Rattle.std.proofs.lemmas.Option.{same_Some, slice_get-map}
use Rattle.std.proofs.lemmas.Slice.Zip.{firsts-zip}
use Rattle.bl_base.proofs.Lists.{all_get}
use Rattle.bl_base.specs.declared.names.Label.{Label}
use Rattle.bl_wasm.specs.Linked.{IsFunction}
use Rattle.bl_reduce.specs.Runnable.{IsRunnable}
use Rattle.bl_wasm.specs.declared.linked.Function.{Function}
use Rattle.bl_wasm.specs.declared.linked.Signature.{Signature}
use Rattle.bl_wasm.specs.declared.linked.Tree.{Tree}
use Rattle.bl_program.specs.Layout.{sum_before, params_of, results_of, first_of, entry_of, statics as statics_of}
use Rattle.bl_program.specs.declared.definitions.FunctionDef.{FunctionDef}
use Rattle.bl_lower.specs.Trees.{global_def, memory_def, function_def, params_by, results_by, param_def, low_tree}
use Rattle.bl_emit.specs.Numbers.{counts_of, function_size, function_variables, total, shape, statics}

pub map_map : {A B C : Type 0} (f : A → B) (g : B → C) (xs : List A) → map g (map f xs) ≡ map (λ x. g (f x)) xs
map_map f g [] = refl
map_map f g (x ∷ xs) = ap (λ l. g (f x) ∷ l) (map_map f g xs)

-- ---- sums

sum_is : (tree : Tree) (of : FunctionDef → ℕ) (by : Function → ℕ) → ((function : Function) → of (function_def tree function) ≡ by function)
    → (functions : List Function) (n : ℕ) → sum_before of (map (function_def tree) functions) n ≡ total by functions n
sum_is tree of by same functions zero = refl
sum_is tree of by same [] (suc n) = refl
sum_is tree of by same (function ∷ functions) (suc n) = ap₂ (λ a b. a + b) (same function) (sum_is tree of by same functions n)

module _ (tree : Tree) where
  pub statics_are : statics_of (low_tree tree) ≡ statics tree
  statics_are = ap₂ (λ a b. a + b) (length-map tree.globals global_def) (length-map tree.memories memory_def)

  pub entry_is : (number : ℕ) → entry_of (low_tree tree) number ≡ (shape tree number).entry
  entry_is number = ap (λ n. 7 + n) (sum_is tree (λ f. f.length) (function_size tree) (λ f. refl) tree.functions number)

  pub first_is : (number : ℕ) → first_of (low_tree tree) number ≡ (shape tree number).first
  first_is number = ap₂ (λ a b. a + b) statics_are (sum_is tree (λ f. f.vars) (function_variables tree) (λ f. refl) tree.functions number)

  -- ---- functions

  pub results_number : (number : ℕ) → results_of (low_tree tree) number ≡ (shape tree number).results
  results_number number = ap (λ o. unwrap_or (option_map (λ f. length f.results) o) 0) (slice_get-map (function_def tree) tree.functions number) ∙ by (slice_get tree.functions number)
    where
      of_type : (o : Option Signature) → length (results_by o) ≡ (counts_of o).results
      of_type None = refl
      of_type (Some type) = refl

      by : (o : Option Function) → unwrap_or (option_map (λ f. length f.results) (option_map (function_def tree) o)) 0 ≡ (counts_of (option_and_then (λ function. slice_get tree.types function.type_index) o)).results
      by None = refl
      by (Some function) = of_type (slice_get tree.types function.type_index)

  module _ (linked : IsRunnable tree) where
    -- the parameters of a function are those of its type
    pub kinds_are : (type : Signature) (labels : List Label) → length labels ≡ length type.params → map (λ p. p.kind) (params_by (Some type) labels) ≡ type.params
    kinds_are type labels e = map_map param_def (λ p. p.kind) (zip type.params labels) ∙ firsts-zip type.params labels e

    pub params_of_type : (function : Function) (type : Signature) → IsFunction tree function → slice_get tree.types function.type_index ≡ Some type
        → map (λ p. p.kind) (function_def tree function).params ≡ type.params
    params_of_type function type is typed =
        ap (λ o. map (λ p. p.kind) (params_by o function.labels)) typed ∙ kinds_are type function.labels (is.labels ∙ ap (λ t. length t.params) (same_Some is.type type (sym is.exists ∙ typed)))

    pub params_number : (number : ℕ) → params_of (low_tree tree) number ≡ (shape tree number).params
    params_number number =
        ap (λ o. unwrap_or (option_map (λ f. length f.params) o) 0) (slice_get-map (function_def tree) tree.functions number) ∙ by (slice_get tree.functions number) refl
      where
        by : (o : Option Function) → slice_get tree.functions number ≡ o
            → unwrap_or (option_map (λ f. length f.params) (option_map (function_def tree) o)) 0 ≡ (counts_of (option_and_then (λ function. slice_get tree.types function.type_index) o)).params
        by None e = refl
        by (Some function) e =
            let is : IsFunction tree function = all_get (IsFunction tree) tree.functions number function linked.functions e in
            sym (length-map (function_def tree function).params (λ p. p.kind)) ∙ ap length (params_of_type function is.type is is.exists) ∙ sym (ap (λ o. (counts_of o).params) is.exists)

-- The functions of a program beside those of its linked tree.
use Rattle.bl_reduce.specs.Runnable.{runnable}
use Rattle.std.proofs.Common.{◌≡◌, ℕ, map, Option, Some, None, slice_get, refl, ap, ◌∙◌}
use Rattle.std.specs.Prelude.{option_and_then, option_map}
use Rattle.std.proofs.lemmas.Option.{slice_get-map}
use Rattle.bl_base.proofs.Lists.{all_get, mapped_get}
use Rattle.bl_wasm.specs.Linked.{IsFunction, IsLinked, type_of}
use Rattle.bl_wasm.specs.declared.linked.Function.{Function}
use Rattle.bl_wasm.specs.declared.linked.Signature.{Signature}
use Rattle.bl_wasm.specs.declared.linked.Tree.{Tree}
use Rattle.bl_program.specs.declared.definitions.FunctionDef.{FunctionDef}
use Rattle.bl_lower.specs.Trees.{function_def, low_tree, results_by}
use Rattle.bl_lower.proofs.TreeLayout.{params_of_type}

-- what a program says of a function of that type
pub record IsDefined (tree : Tree) (number : ℕ) (type : Signature) : Type 0 where
  pub defined : FunctionDef
  pub exists : slice_get (low_tree tree).functions number ≡ Some defined
  pub kinds : map (λ param. param.kind) defined.params ≡ type.params
  pub results : defined.results ≡ type.results

module _ (tree : Tree) (linked : IsLinked tree) where
  pub is_defined : (number : ℕ) (type : Signature) → type_of tree number ≡ Some type → IsDefined tree number type
  is_defined number type typed = by (slice_get tree.functions number) refl typed
    where
      by : (o : Option Function) → slice_get tree.functions number ≡ o → option_and_then (λ f. slice_get tree.types f.type_index) o ≡ Some type → IsDefined tree number type
      by None e typed = cc
      by (Some function) e typed = record {
        defined = function_def tree function;
        exists = slice_get-map (function_def tree) tree.functions number ∙ ap (option_map (function_def tree)) e;
        kinds = params_of_type tree (runnable tree linked) function type (all_get (IsFunction tree) tree.functions number function linked.functions e) typed;
        results = ap results_by typed;
      }

  -- a function of the program has a type
  pub has_type : (number : ℕ) (defined : FunctionDef) → slice_get (low_tree tree).functions number ≡ Some defined → (type : Signature) × (type_of tree number ≡ Some type)
  has_type number defined e =
      let found = mapped_get (function_def tree) tree.functions number defined e in
      let is = all_get (IsFunction tree) tree.functions number found.0 linked.functions found.1 in
      (is.type, ap (option_and_then (λ f. slice_get tree.types f.type_index)) found.1 ∙ is.exists)

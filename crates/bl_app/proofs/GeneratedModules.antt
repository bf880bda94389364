-- A module that `gen` makes is never refused: it is linked, and the program and its image are within the limits.
use Rattle.std.proofs.Common.{◌≡◌, ℕ, zero, suc, ◌+◌, ◌*◌, ◌≤◌, List, [], ◌∷◌, ◌++◌, codes, length, map, Option, slice_get, refl, ap, arith}
use Rattle.std.specs.List.{zip}
use Rattle.std.proofs.lemmas.List.Elements.{All-cons, All-map, All-nil}
use Rattle.bl_base.specs.Quantity.{limit_of}
use Rattle.bl_base.specs.declared.names.Label.{Label}
use Rattle.bl_base.specs.declared.quantity.Quantity.TheVariants as quantity
use Rattle.bl_outside.specs.Shelf.{Files}
use Rattle.bl_wasm.specs.Linked.{IsLinked}
use Rattle.bl_wasm.specs.declared.linked.Function.{Function}
use Rattle.bl_wasm.specs.declared.linked.Tree.{Tree}
use Rattle.bl_wasm.specs.declared.module.Code.{Code}
use Rattle.bl_labels.specs.LabelledPlaces.{unlabelled}
use Rattle.bl_link.specs.IndexSpaces.{names, spaces_of}
use Rattle.bl_link.specs.Links.{function, indexed, nothing, part_of, with_tree}
use Rattle.bl_link.specs.Signatures.{signature}
use Rattle.bl_program.specs.declared.definitions.ExportDef.{ExportDef}
use Rattle.bl_program.specs.declared.definitions.FunctionDef.{FunctionDef}
use Rattle.bl_format.specs.Image.{Image}
use Rattle.bl_format.proofs.ImageExistence.{AreSmall}
use Rattle.bl_image.proofs.ShortImages.{short_image}
use Rattle.bl_format.proofs.ImageWidths.{image_widths}
use Rattle.bl_lower.specs.Trees.{demanded_results, function_def, low_tree, params_by, results_by}
use Rattle.bl_lower.proofs.WellFormed.{rules}
use Rattle.bl_gen.proofs.SpelledModule.{spelled}
use Rattle.bl_gen.proofs.SupportedTree.{supported}
use Rattle.bl_gen.proofs.Trees.{tree, type}
use Rattle.bl_gen.proofs.Typings.{typed, within}
use Rattle.bl_words.specs.Requests.{GenRequest, IsGenInRange, gen}
use Rattle.bl_build.specs.BuildStages.{command_count}
use Rattle.bl_build.specs.LoadStages.{loading}
use Rattle.bl_build.proofs.BuildLemmas.{compiled_within}
use Rattle.bl_build.proofs.LoadTotal.{loaded_alone}
use Rattle.bl_job.specs.Jobs.{FirstRefusal, against, too_long}
use Rattle.bl_job.specs.Refusals.{Refusal}
use Rattle.bl_app.specs.Commands.{job_of}
use Rattle.bl_app.specs.GenJob.{made_part}
use Rattle.bl_app.proofs.GenLemmas.{made_compilable}
use Rattle.bl_app.proofs.GeneratedSize.{few_commands}

one_function : (index : ℕ) (labels : List Label) → 2 * length (params_by (slice_get (signature type ∷ []) index) labels) + length (results_by (slice_get (signature type ∷ []) index)) ≤ 44
one_function zero [] = omega arith
one_function zero (label ∷ labels) = omega arith
one_function (suc index) labels = omega arith

module _ (seed size : ℕ) where
  abbrev linked_tree : Tree
  linked_tree = with_tree nothing.tree (part_of (codes "gen") (tree seed size) unlabelled) (spaces_of nothing (tree seed size) [])

  abbrev defined : ℕ × (ℕ × Code) → Function
  defined = function (type ∷ []) unlabelled (spaces_of nothing (tree seed size) [])

  none_demanded : (number : ℕ) (all : List (ℕ × (ℕ × Code))) → demanded_results number (map defined all) ≡ []
  none_demanded number [] = refl
  none_demanded number ((i, (zero, code)) ∷ all) = none_demanded (suc number) all
  none_demanded number ((i, (suc index, code)) ∷ all) = none_demanded (suc number) all

  module _ (small : size ≤ limit_of quantity.Functions) (linked : IsLinked linked_tree) where
    few : command_count linked_tree ≤ limit_of quantity.Commands
    few = few_commands linked_tree refl (names (spaces_of nothing (tree seed size) [])) defined seed linked size _ small refl

    short : (bytes : List ℕ) → Image (low_tree linked_tree) bytes → length bytes ≤ limit_of quantity.Image
    short bytes image =
        let well = rules linked_tree linked few in
        let all = indexed (spaces_of nothing (tree seed size) []).functions (zip (tree seed size).functions (tree seed size).bodies) in
        let parts : AreSmall 44 (low_tree linked_tree) = record {
          functions = All-map (λ (one : FunctionDef). 2 * length one.params + length one.results ≤ 44) (function_def linked_tree) linked_tree.functions (λ k d lt. one_function _ _);
          names = All-cons (λ (one : ExportDef). length one.name ≤ 44) _ [] (omega arith) (All-nil (λ (one : ExportDef). length one.name ≤ 44));
        } in
        short_image (low_tree linked_tree) image.is_program well (image_widths (low_tree linked_tree) bytes image) bytes parts (omega arith)
        (omega (arith, well.rule2.functions, ap (λ demands. length (demands ++ [])) (none_demanded 0 all))) image

-- ---- requests

loaded : (request : GenRequest) → IsGenInRange request → loading.Passes (made_part request ∷ []) (linked_tree request.seed request.size)
loaded request sized =
    let seed = request.seed in
    let size = request.size in
    let few = sized.size_is_within in
    loaded_alone (made_part request) (tree seed size) unlabelled (made_compilable request sized).loadable
    (record { spelled = spelled seed size few; supported = supported seed size few; within = within seed size few; valid = typed seed size few sized.size_is_positive; told = refl })
    (linked_tree seed size) refl

-- there are no files, and what is made is compiled
pub never_refused : (request : GenRequest) (files : Option Files) (refusal : Refusal) → IsGenInRange request → FirstRefusal (job_of (gen request)) files refusal → ⊥
never_refused request files refusal sized (too_long h) = h
never_refused request files refusal sized (against [] read h) =
    let made = loaded request sized in
    let linked = made.2.2.2.can_run in
    compiled_within (linked_tree request.seed request.size) (few request.seed request.size sized.size_is_within linked) (short request.seed request.size sized.size_is_within linked)
    (made_part request ∷ []) made refusal h
never_refused request files refusal sized (against (bytes ∷ contents) read h) = read

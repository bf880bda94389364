-- The stages of modules always answer, where these can be loaded: they are decoded, validated, labelled and linked, or refused.
use Rattle.std.proofs.Common.{◌≡◌, ℕ, suc, ◌≤◌, ◌<◌, List, [], ◌∷◌, length, Option, Some, None, refl, ap, sym, ◌∙◌, subst, arith, slice_get}
use Rattle.std.specs.Prelude.{Result, Ok, Err}
use Rattle.std.specs.List.{All, AllZip}
use Rattle.std.proofs.lemmas.Bool.{false≢true}
use Rattle.std.proofs.lemmas.List.{length-map}
use Rattle.std.proofs.lemmas.List.Elements.{All-cons, All-head, All-nil, All-tail}
use Rattle.bl_base.proofs.Lists.{all_get, within_get, zip_get, mapped_get}
use Rattle.bl_base.specs.Fits.{AreBytes}
use Rattle.bl_base.specs.Quantity.{limit_of}
use Rattle.bl_base.specs.declared.quantity.Quantity.TheVariants as quantity
use Rattle.bl_wasm.specs.Exports.{value_named}
use Rattle.bl_wasm.specs.Linked.{IsFunction, IsLinked, type_of}
use Rattle.bl_wasm.specs.declared.linked.Function.{Function}
use Rattle.bl_wasm.specs.declared.linked.Tree.{Tree}
use Rattle.bl_wasm.specs.declared.module.Module.{Module}
use Rattle.bl_labels.specs.Faults.{IsConsistent, sections_of}
use Rattle.bl_labels.specs.LabelledPlaces.{unlabelled}
use Rattle.bl_labels.specs.LabelAnswers.{Tells}
use Rattle.bl_labels.specs.declared.labels.Labels.{Labels}
use Rattle.bl_labels.proofs.FaultLemmas.{consistent}
use Rattle.bl_link.specs.Linkable.{AreParts, IsPart, IsSound, NoSolidus}
use Rattle.bl_link.specs.Links.{links, part_of}
use Rattle.bl_link.specs.declared.error.LinkError.{LinkError}
use Rattle.bl_link.specs.declared.error.LinkError.TheVariants as link
use Rattle.bl_link.specs.declared.part.Part.{Part as LinkPart}
use Rattle.bl_link.proofs.FaultLemmas.{faults_name_parts, memory_is_no_fault}
use Rattle.bl_link.proofs.SpelledParts.{labelled_part}
use Rattle.bl_link.proofs.LinkedTrees.{linked}
use Rattle.bl_link.proofs.ModuleWidths.{has_widths}
use Rattle.bl_build.specs.LoadStages.{Accepted, AreLoadable, Decodes, IsLoadable, LabelledModule, LinkingRefuses, Links, Named, Part, ReadsLabels, data_range, element_range, mismatched_import, unknown_import, decoding, element, labelling, linked_parts, linking, loading, mismatched, segment, too_large, unknown, validation}
use Rattle.bl_job.specs.Refusals.{Refusal, limit}
use Rattle.bl_build.specs.EntryStages.{bad_line, few_arguments, no_export}
use Rattle.bl_build.specs.InvocationStages.{Invoked, Invokes, InvokingRefuses, invoking, line_is_bad, not_exported, preparing, sizes_of, too_few}
use Rattle.bl_job.specs.Stages.{AllPass, Anything, IsTotalStage, Stage, chain, each}
use Rattle.bl_build.proofs.ImagesTotal.{answered}
use Rattle.bl_build.proofs.LoadLemmas.{IsAccepted, all_accepted}
use Rattle.bl_build.proofs.ModulesTotal.{decoding_total, labelling_total, validation_total}
use Rattle.bl_job.proofs.StageLemmas.{chain_total, each_total}
use Rattle.bl_build.proofs.InvocationLemmas.{exported_exists}

-- ---- modules that are loaded can be linked

abbrev pub IsOf : LabelledModule → Part → Type 0
IsOf one part = IsAccepted part one

pub turned : (parts : List Part) (all : List LabelledModule) → AllZip IsAccepted parts all → AllZip IsOf all parts
turned [] [] h = tt
turned [] (one ∷ all) h = h
turned (part ∷ parts) [] h = h
turned (part ∷ parts) (one ∷ all) h = (h.0, turned parts all h.1)

told_consistent : (tree : Module) (sections : List (List ℕ)) (labels : Labels) → Tells tree sections (Ok labels) → IsConsistent labels
told_consistent tree [] labels told =
    let same : labels ≡ unlabelled = cc in
    subst IsConsistent (sym same) (λ index listed. absurd (false≢true listed))
told_consistent tree (bytes ∷ []) labels told = consistent tree bytes (Ok labels) told
told_consistent tree (first ∷ second ∷ more) labels told = absurd cc

-- one module, by its bytes
module _ (one : LabelledModule) (part : Part) (is : IsOf one part) where
  is_part : NoSolidus part.name → length part.bytes ≤ limit_of quantity.Module → IsPart (part_of one.name one.tree one.labels)
  is_part named short =
      labelled_part one.name part.bytes one.tree one.labels (told_consistent one.tree (sections_of one.tree.customs) one.labels is.1.told) (subst NoSolidus (sym is.0) named) is.1.spelled
      (omega (arith, short)) is.1.within

  is_sound : AreBytes part.bytes → IsSound (part_of one.name one.tree one.labels)
  is_sound bytes = record { typed = is.1.valid; widths = has_widths one.name part.bytes one.tree one.labels bytes is.1.spelled }

pub each_one : (P : Part → Type 0) (Q : LinkPart → Type 0) → ((one : LabelledModule) (part : Part) → IsOf one part → P part → Q (part_of one.name one.tree one.labels)) → (all : List LabelledModule) (parts : List Part) → AllZip IsOf all parts → All P parts
    → All Q (linked_parts all)
each_one P Q gives [] parts h holds = All-nil Q
each_one P Q gives (one ∷ all) [] h holds = absurd h
each_one P Q gives (one ∷ all) (part ∷ parts) h holds =
    All-cons Q (part_of one.name one.tree one.labels) (linked_parts all) (gives one part h.0 (All-head P part parts holds)) (each_one P Q gives all parts h.1 (All-tail P part parts holds))

pub as_many : (all : List LabelledModule) (parts : List Part) → AllZip IsOf all parts → length (linked_parts all) ≡ length parts
as_many [] [] h = refl
as_many [] (part ∷ parts) h = absurd h
as_many (one ∷ all) [] h = absurd h
as_many (one ∷ all) (part ∷ parts) h = ap suc (as_many all parts h.1)

module _ (all : List LabelledModule) (parts : List Part) (h : AllZip IsOf all parts) (given : AreLoadable parts) where
  of_part : (i : ℕ) (a : LinkPart) → slice_get (linked_parts all) i ≡ Some a → (part : Part) × (slice_get parts i ≡ Some part) × (a.name ≡ part.name)
  of_part i a e =
      let one = mapped_get (λ (one : LabelledModule). part_of one.name one.tree one.labels) all i a e in
      let part = zip_get IsOf all parts i one.0 h one.1 in
      (part.0, part.1, sym (ap (λ (p : LinkPart). p.name) one.2) ∙ part.2.0)

  pub are_parts : AreParts (linked_parts all)
  are_parts = record {
    each = each_one IsLoadable IsPart (λ one part is known. is_part one part is known.0 known.1) all parts h given.each;
    few = omega (arith, as_many all parts h, given.few);
    distinct = λ i j a b e f same.
        let first = of_part i a e in
        let second = of_part j b f in
        given.distinct i j first.0 second.0 first.1 second.1 (sym first.2 ∙ (same ∙ second.2));
  }

  pub are_sound : All IsSound (linked_parts all)
  are_sound = each_one (λ part. AreBytes part.bytes) IsSound is_sound all parts h given.bytes

-- ---- linking

record CanLink (all : List LabelledModule) : Type 0 where
  parts : AreParts (linked_parts all)
  sound : All IsSound (linked_parts all)

module _ (all : List LabelledModule) (given : CanLink all) (made : (tree : Tree) → Links all tree → ⊥) (refused : (refusal : Refusal) → LinkingRefuses all refusal → ⊥) where
  -- the module that a fault names
  named : (part : ℕ) → part < length (linked_parts all) → (one : LabelledModule) × (slice_get all part ≡ Some one)
  named part lt = within_get all part (omega (arith, lt, length-map all (λ (one : LabelledModule). part_of one.name one.tree one.labels)))

  of_links : (answer : Result Tree LinkError) → links (linked_parts all) ≡ answer → ⊥
  of_links (Ok tree) e = made tree (record { is_tree = e; can_run = linked (linked_parts all) tree given.parts given.sound e })
  of_links (Err (link.Unknown part import)) e =
      let one = named part (faults_name_parts (linked_parts all) (link.Unknown part import) e) in refused (unknown_import one.0.name import) (unknown part import one.0 e one.1 refl)
  of_links (Err (link.Mismatch part import)) e =
      let one = named part (faults_name_parts (linked_parts all) (link.Mismatch part import) e) in refused (mismatched_import one.0.name import) (mismatched part import one.0 e one.1 refl)
  of_links (Err (link.ElementRange part)) e =
      let one = named part (faults_name_parts (linked_parts all) (link.ElementRange part) e) in refused (element_range one.0.name) (element part one.0 e one.1 refl)
  of_links (Err (link.DataRange part)) e =
      let one = named part (faults_name_parts (linked_parts all) (link.DataRange part) e) in refused (data_range one.0.name) (segment part one.0 e one.1 refl)
  of_links (Err (link.Limit which value)) e = refused (limit which value) (too_large which value e refl)
  of_links (Err link.Memory) e = memory_is_no_fault (linked_parts all) e

linking_total : IsTotalStage CanLink linking
linking_total = record { always = λ all given made refused. of_links all given made refused (links (linked_parts all)) refl }

-- ---- all stages

record Decoded (xs : List Named) : Type 0 where
  parts : List Part
  given : AreLoadable parts
  decoded : AllPass decoding parts xs

record Valid (ys : List Named) : Type 0 where
  xs : List Named
  before : Decoded xs
  valid : AllPass validation xs ys

can_link : (ys : List Named) (zs : List LabelledModule) → Valid ys → AllPass labelling ys zs → CanLink zs
can_link ys zs v told =
    let d = v.before in
    let h = turned d.parts zs (all_accepted d.parts v.xs ys zs d.decoded v.valid told) in
    record { parts = are_parts zs d.parts h d.given; sound = are_sound zs d.parts h d.given }

-- a stage on each of a list, whatever is known of them
each_given : {A B : Type 0} (Known : List A → Type 0) (stage : Stage A B) → IsTotalStage Anything stage → IsTotalStage Known (each stage)
each_given Known stage s = record { always = λ xs known made refused. (each_total Anything stage s).always xs (λ k d lt. tt) made refused }

pub loading_total : IsTotalStage AreLoadable loading
loading_total =
    chain_total AreLoadable Decoded (each decoding) (chain (each validation) (chain (each labelling) linking)) (each_given AreLoadable decoding decoding_total)
    (chain_total Decoded Valid (each validation) (chain (each labelling) linking) (each_given Decoded validation validation_total)
    (chain_total Valid CanLink (each labelling) linking (each_given Valid labelling labelling_total) linking_total can_link)
    (λ xs ys d valid. record { xs = xs; before = d; valid = valid }))
    (λ parts xs given decoded. record { parts = parts; given = given; decoded = decoded })

-- ---- one module

-- a module that is accepted, and linked by itself, is loaded
module _ (part : Part) (wasm : Module) (labels : Labels) (given : AreLoadable (part ∷ [])) (is : Accepted part.bytes wasm labels) where
  pub loaded_alone : (tree : Tree) → links (part_of part.name wasm labels ∷ []) ≡ Ok tree → loading.Passes (part ∷ []) tree
  loaded_alone tree e =
      let named : Named = record { name = part.name; tree = wasm } in
      let one : LabelledModule = record { name = part.name; tree = wasm; labels = labels } in
      let h : AllZip IsOf (one ∷ []) (part ∷ []) = ((refl, is), tt) in
      let runs = linked (linked_parts (one ∷ [])) tree (are_parts (one ∷ []) (part ∷ []) h given) (are_sound (one ∷ []) (part ∷ []) h given) e in
      let told : ReadsLabels named one = record { same_name = refl; same_tree = refl; told = is.told } in
      let decoded : Decodes part named = record { same_name = refl; spelled = is.spelled; supported = is.supported; within = is.within } in
      (named ∷ [], (decoded, tt), (named ∷ [], (record { same = refl; holds = is.valid }, tt), (one ∷ [], (told, tt), record { is_tree = e; can_run = runs })))

-- ---- exported functions of linked trees

module _ (export start : List ℕ) where
  module _ (tree : Tree) (is : IsLinked tree) (made : (invoked : Invoked) → Invokes export start tree invoked → ⊥) (refused : (refusal : Refusal) → InvokingRefuses export start tree refusal → ⊥) where
    typed : (number : ℕ) (function : Function) → slice_get tree.functions number ≡ Some function → (f : IsFunction tree function) → type_of tree number ≡ Some f.type
    typed number function stands f = ap (λ found. Rattle.std.specs.Prelude.option_and_then (λ (f : Function). slice_get tree.types f.type_index) found) stands ∙ f.exists

    of_number : (found : Option ℕ) → value_named export tree.exports ≡ found → ⊥
    of_number None e = refused no_export (not_exported e refl)
    of_number (Some number) e =
        let function = within_get tree.functions number (exported_exists (length tree.functions) export tree.exports number is.exports e) in
        let known = all_get (IsFunction tree) tree.functions number function.0 is.functions function.1 in
        let type = typed number function.0 function.1 known in
        answered known.type.params (sizes_of tree) start
        (λ begins read. made (record { tree = tree; function = number; type = known.type; start = begins }) (record { same_tree = refl; exported = e; typed = type; read = read }))
        (λ line read. refused (bad_line line) (line_is_bad number line known.type e type read refl)) (λ count read. refused (few_arguments count) (too_few number count known.type e type read refl))

  pub invoking_total : IsTotalStage IsLinked (invoking export start)
  invoking_total = record { always = λ tree is made refused. of_number tree is made refused (value_named export tree.exports) refl }

  pub preparing_total : IsTotalStage AreLoadable (preparing export start)
  preparing_total = chain_total AreLoadable IsLinked loading (invoking export start) loading_total invoking_total (λ parts tree given loaded. loaded.2.2.2.can_run)

-- What the stages of modules answer, one module after another.
use Rattle.std.proofs.Common.{◌≡◌, ℕ, zero, suc, List, [], ◌∷◌, length, map, option_map, Option, Some, None, slice_get, refl, ap, sym, ◌∙◌, subst, Bor}
use Rattle.std.proofs.lemmas.List.{length-map}
use Rattle.std.proofs.lemmas.Option.{none-some, same_Some}
use Rattle.std.specs.Prelude.{Err}
use Rattle.bl_wasm.specs.declared.linked.Tree.{Tree}
use Rattle.bl_wasm.specs.declared.module.Module.{Module}
use Rattle.bl_decode.specs.DecoderAnswers.{Answers}
use Rattle.bl_decode.specs.declared.error.DecodeError.{DecodeError}
use Rattle.bl_decode.specs.declared.error.DecodeError.TheVariants as decode
use Rattle.bl_validate.specs.Verdicts.{IsReason}
use Rattle.bl_validate.specs.declared.verdict.Invalid.{Invalid}
use Rattle.bl_validate.specs.declared.verdict.Invalid.TheVariants as invalid
use Rattle.bl_link.specs.Faults.{NamesPart}
use Rattle.bl_link.specs.LinkAnswers.{Gives}
use Rattle.bl_link.specs.Links.{links, part_of}
use Rattle.bl_link.specs.declared.part.Part.{Part as LinkPart}
use Rattle.bl_link.proofs.FaultLemmas.{faults_name_parts}
use Rattle.bl_labels.specs.declared.error.LabelError.{LabelError}
use Rattle.bl_link.specs.declared.error.LinkError.{LinkError}
use Rattle.bl_link.specs.declared.error.LinkError.TheVariants as link
use Rattle.bl_build.specs.LoadStages.{AreTold, LabelledModule, LabelsRefuse, LinkingRefuses, ValidationRefuses, bad_labels, data_range, element_range, fault_of, mismatched_import, unknown_import, Named, Part, decoding, excess, labelling, linked_parts, linking, no_module, not_supported, validation, unknown, mismatched, element, segment, too_large}
use Rattle.bl_job.specs.Refusals.{Refusal}
use Rattle.bl_job.specs.WorkAnswers.{IsStaged, IsTold, Tells}
use Rattle.bl_build.specs.StageAnswers.{IsLinkingError, refusal_of_decoding, refusal_of_labels, ready_in, refusal_of_validation}
use Rattle.bl_build.specs.declared.loading.Ready.{Ready}
use Rattle.bl_job.specs.declared.refusal.WorkError.{WorkError}
use Rattle.bl_job.proofs.StageLemmas.{told_as, told_memory}

module _ {X : Type 0} (value : X → Named) (name : Bor (List ℕ)) where
  module _ (bytes : List ℕ) where
    abbrev part : Part
    part = record { name = name.now; bytes = bytes }

    -- bytes that aren't decoded
    pub not_spelled : (e : DecodeError) → Answers bytes (Err e) → (w : WorkError) → IsTold (refusal_of_decoding name.now e) w → IsStaged decoding value part (Err w)
    not_spelled decode.Malformed none = told_as _ (decoding.Refuses part) (no_module none refl)
    not_spelled decode.Unsupported is = told_as _ (decoding.Refuses part) (not_supported is.0 is.1 is.2 refl)
    not_spelled (decode.Limit which value) is = told_as _ (decoding.Refuses part) (excess is.0 which value is.1 is.2 is.3 refl)
    not_spelled decode.Memory is = told_memory (decoding.Refuses part)

-- a module that isn't valid
module _ {X : Type 0} (value : X → Named) (name : Bor (List ℕ)) (tree : Module) where
  abbrev named : Named
  named = record { name = name.now; tree = tree }

  pub not_valid : (reason : Invalid) → IsReason tree reason → (w : WorkError) → IsTold (refusal_of_validation name.now reason) w → IsStaged validation value named (Err w)
  not_valid (invalid.Function index) why = told_as _ (ValidationRefuses named) (record { reason = invalid.Function index; is_reason = why; is_refusal = refl })
  not_valid invalid.Module why = told_as _ (ValidationRefuses named) (record { reason = invalid.Module; is_reason = why; is_refusal = refl })
  not_valid invalid.Memory why = told_memory (ValidationRefuses named)

-- a module whose labels break a rule
module _ {X : Type 0} (value : X → LabelledModule) (name : Bor (List ℕ)) (tree : Module) where
  abbrev refuses : Refusal → Type 0
  refuses = LabelsRefuse (record { name = name.now; tree = tree })

  pub not_labelled : (error : LabelError) → AreTold tree (Err error) → (w : WorkError) → IsTold (refusal_of_labels name.now error) w
      → IsStaged labelling value (record { name = name.now; tree = tree }) (Err w)
  not_labelled error why = by_fault (fault_of error) refl
    where
      by_fault : (found : Option (List ℕ)) → fault_of error ≡ found → (w : WorkError) → IsTold (option_map (bad_labels name.now) found) w → Tells refuses w
      by_fault None e = told_memory refuses
      by_fault (Some wrong) e = told_as (bad_labels name.now wrong) refuses (record { error = error; wrong = wrong; told = why; is_fault = e; is_refusal = refl })

-- the name of a module by its number
named_by : (ready : List Ready) (place : ℕ) (name : Bor (List ℕ)) → slice_get (map (λ (one : Ready). one.name) ready) place ≡ Some name → (one : LabelledModule) × (slice_get (map ready_in ready) place ≡ Some one) × (one.name ≡ name.now)
named_by [] place name there = absurd (none-some name there)
named_by (one ∷ ready) zero name there = (ready_in one, refl, ap (λ (n : Bor (List ℕ)). n.now) (same_Some one.name name there))
named_by (one ∷ ready) (suc place) name there = named_by ready place name there

-- modules that aren't linked
module _ {X : Type 0} (value : X → Tree) (ready : List Ready) where
  abbrev all_named : List LabelledModule
  all_named = map ready_in ready

  pub not_linked : (fault : LinkError) (e : WorkError) → Gives (Err fault) (links (linked_parts all_named)) → IsLinkingError (map (λ (one : Ready). one.name) ready) fault e → IsStaged linking value all_named (Err e)
  not_linked (link.Unknown part import) e is h =
      let one = named_by ready part h.0 h.1 in
      told_as _ (LinkingRefuses all_named) (unknown part import one.0 is one.1 (ap (λ name. unknown_import name import) (sym one.2))) e h.2
  not_linked (link.Mismatch part import) e is h =
      let one = named_by ready part h.0 h.1 in
      told_as _ (LinkingRefuses all_named) (mismatched part import one.0 is one.1 (ap (λ name. mismatched_import name import) (sym one.2))) e h.2
  not_linked (link.ElementRange part) e is h =
      let one = named_by ready part h.0 h.1 in
      told_as _ (LinkingRefuses all_named) (element part one.0 is one.1 (ap element_range (sym one.2))) e h.2
  not_linked (link.DataRange part) e is h =
      let one = named_by ready part h.0 h.1 in
      told_as _ (LinkingRefuses all_named) (segment part one.0 is one.1 (ap data_range (sym one.2))) e h.2
  not_linked (link.Limit which amount) e is h = told_as _ (LinkingRefuses all_named) (too_large which amount is refl) e h
  not_linked link.Memory e is h = told_memory (LinkingRefuses all_named) e h

-- a fault of linking names one of the modules
module _ (ready : List Ready) (names : List (Bor (List ℕ))) (parts : List LinkPart) (are_names : names ≡ map (λ (one : Ready). one.name) ready) (are_parts : parts ≡ linked_parts (map ready_in ready)) where
  same_length : length parts ≡ length names
  same_length =
      ap length are_parts ∙ length-map (map ready_in ready) (λ (one : LabelledModule). part_of one.name one.tree one.labels) ∙ length-map ready ready_in
      ∙ sym (ap length are_names ∙ length-map ready (λ (one : Ready). one.name))

  named_fault : (fault : LinkError) → links parts ≡ Err fault → NamesPart (length names) fault
  named_fault fault is = subst (λ count. NamesPart count fault) same_length (faults_name_parts parts fault is)

  pub names_module : (fault : LinkError) → Gives (Err fault) (links parts) → NamesPart (length names) fault
  names_module (link.Unknown part import) is = named_fault (link.Unknown part import) is
  names_module (link.Mismatch part import) is = named_fault (link.Mismatch part import) is
  names_module (link.ElementRange part) is = named_fault (link.ElementRange part) is
  names_module (link.DataRange part) is = named_fault (link.DataRange part) is
  names_module (link.Limit which value) is = tt
  names_module link.Memory is = tt

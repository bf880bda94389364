-- The stages of one module always answer.
use Rattle.std.proofs.Common.{◌≡◌, ℕ, ◌+◌, List, [], ◌∷◌, length, Option, Some, None, refl, inl, inr, ap, sym, ◌∙◌}
use Rattle.std.specs.Prelude.{Result, Ok, Err, codes}
use Rattle.bl_base.proofs.Classical.{all_or_first}
use Rattle.bl_wasm.specs.Limits.{Excess, first_excess}
use Rattle.bl_wasm.specs.Modules.{Spells}
use Rattle.bl_wasm.specs.Validity.{HasTyping, imported, function_of}
use Rattle.bl_wasm.specs.declared.module.Module.{Module}
use Rattle.bl_decode.specs.Supported.{IsSupported}
use Rattle.bl_labels.specs.Entries.{section}
use Rattle.bl_labels.specs.Faults.{judged, sections_of}
use Rattle.bl_labels.specs.LabelledPlaces.{unlabelled}
use Rattle.bl_labels.specs.LabelAnswers.{Answers, InSection, Tells}
use Rattle.bl_labels.specs.declared.error.LabelError.{LabelError}
use Rattle.bl_labels.specs.declared.error.LabelError.TheVariants as label_error
use Rattle.bl_labels.specs.declared.labels.Labels.{Labels}
use Rattle.bl_validate.specs.declared.verdict.Invalid.TheVariants as reason
use Rattle.bl_build.specs.LoadStages.{DecodingRefuses, Decodes, Named, Part, bad_labels, invalid_function, invalid_module, malformed, unsupported, decoding, excess, fault_of, labelling, no_module, not_supported, validation}
use Rattle.bl_job.specs.Refusals.{Refusal, limit}
use Rattle.bl_job.specs.Stages.{Anything, IsTotalStage}
use Rattle.bl_labels.proofs.FaultLemmas.{never_memory}

-- ---- decoding and validation

module _ (part : Part) (made : (named : Named) → Decodes part named → ⊥) (refused : (refusal : Refusal) → DecodingRefuses part refusal → ⊥) where
  by_excess : (tree : Module) → Spells part.bytes tree → IsSupported tree → (found : Option Excess) → first_excess tree ≡ found → ⊥
  by_excess tree s is None e = made (record { name = part.name; tree = tree }) (record { same_name = refl; spelled = s; supported = is; within = e })
  by_excess tree s is (Some more) e = refused (limit more.0 more.1) (excess tree more.0 more.1 s is e refl)

  is_decoded : ⊥
  is_decoded = refused (malformed part.name) (no_module (λ tree s. refused (unsupported part.name) (not_supported tree s (λ is. by_excess tree s is (first_excess tree) refl) refl)) refl)

pub decoding_total : IsTotalStage Anything decoding
decoding_total = record { always = λ part given made refused. is_decoded part made refused }

pub validation_total : IsTotalStage Anything validation
validation_total = record {
  always = λ named given made refused.
      all_or_first (HasTyping named.tree) (length named.tree.functions)
      (λ all. refused (invalid_module named.name) (record {
        reason = reason.Module;
        is_reason = (all, λ valid. made named (record { same = refl; holds = record { functions = all; rules = valid } }));
        is_refusal = refl;
      }))
      (λ number lt untyped below. refused (invalid_function named.name (length (imported function_of named.tree) + number)) (record {
        reason = reason.Function (length (imported function_of named.tree) + number);
        is_reason = (number, refl, record { within = lt; untyped = untyped; least = below });
        is_refusal = refl;
      }));
}

-- ---- labels

-- an error that isn't want of memory is something wrong
wrong_of : (error : LabelError) → (error ≡ label_error.Memory → ⊥) → (wrong : List ℕ) × (fault_of error ≡ Some wrong)
wrong_of label_error.Malformed other = (codes " malformed", refl)
wrong_of label_error.Twice other = (codes " twice", refl)
wrong_of label_error.OutOfRange other = (codes " out of range", refl)
wrong_of label_error.OnImport other = (codes " on import", refl)
wrong_of label_error.Both other = (codes " both", refl)
wrong_of label_error.Memory other = absurd (other refl)

in_section : (tree : Module) (bytes : List ℕ) (error : LabelError) → Answers tree bytes (Err error) → InSection tree bytes (Err error)
in_section tree bytes label_error.Malformed h = h
in_section tree bytes label_error.Twice h = h
in_section tree bytes label_error.OutOfRange h = h
in_section tree bytes label_error.OnImport h = h
in_section tree bytes label_error.Both h = h
in_section tree bytes label_error.Memory h = tt

module _ (tree : Module) where
  tells : (sections : List (List ℕ)) → ((labels : Labels) → Tells tree sections (Ok labels) → ⊥) → ((error : LabelError) (wrong : List ℕ) → Tells tree sections (Err error) → fault_of error ≡ Some wrong → ⊥) → ⊥
  tells [] made wrong = made unlabelled refl
  tells (bytes ∷ []) made wrong = wrong label_error.Malformed (codes " malformed") (inr (refl, λ entries s. of_answer entries s (judged tree entries) refl)) refl
    where
      of_answer : (entries : List _) → section entries bytes → (answer : Result Labels LabelError) → judged tree entries ≡ answer → ⊥
      of_answer entries s (Ok labels) e = made labels (inl (entries, s, sym e))
      of_answer entries s (Err error) e =
          let known = wrong_of error (λ same. never_memory tree entries (e ∙ ap (λ (f : LabelError). Err f) same)) in
          wrong error known.0 (in_section tree bytes error (inl (entries, s, sym e))) known.1
  tells (first ∷ second ∷ more) made wrong = wrong label_error.Twice (codes " twice") refl refl

pub labelling_total : IsTotalStage Anything labelling
labelling_total = record {
  always = λ named given made refused.
      tells named.tree (sections_of named.tree.customs)
      (λ labels told. made (record { name = named.name; tree = named.tree; labels = labels }) (record { same_name = refl; same_tree = refl; told = told }))
      (λ error wrong told e. refused (bad_labels named.name wrong) (record { error = error; wrong = wrong; told = told; is_fault = e; is_refusal = refl }));
}

-- From the bytes of modules to the linked tree, in stages: all are decoded, then all validated, then the labels of each are read, and
-- then they are linked.
use Rattle.std.specs.Fmt.{decimal}
use Rattle.std.specs.Prelude.{◌≡◌, ◌≤◌, ◌++◌, ℕ, List, [], ◌∷◌, codes, length, map, slice_get, Option, Some, None, Result, Ok, Err}
use Rattle.std.specs.List.{All, AllZip, zip}
use Rattle.bl_base.specs.Fits.{AreBytes}
use Rattle.bl_base.specs.Quantity.{limit_of}
use Rattle.bl_base.specs.declared.quantity.Quantity.{Quantity}
use Rattle.bl_base.specs.declared.quantity.Quantity.TheVariants as quantity
use Rattle.bl_wasm.specs.Linked.{IsLinked}
use Rattle.bl_wasm.specs.Modules.{Spells}
use Rattle.bl_wasm.specs.Validity.{Typed}
use Rattle.bl_wasm.specs.declared.linked.Tree.{Tree}
use Rattle.bl_wasm.specs.declared.module.Module.{Module}
use Rattle.bl_wasm.specs.Limits.{first_excess}
use Rattle.bl_decode.specs.Supported.{IsSupported}
use Rattle.bl_validate.specs.Verdicts.{IsReason}
use Rattle.bl_validate.specs.declared.verdict.Invalid.{Invalid}
use Rattle.bl_validate.specs.declared.verdict.Invalid.TheVariants as reason
use Rattle.bl_labels.specs.Faults.{sections_of}
use Rattle.bl_labels.specs.LabelAnswers.{Tells}
use Rattle.bl_labels.specs.declared.error.LabelError.{LabelError}
use Rattle.bl_labels.specs.declared.error.LabelError.TheVariants as label_error
use Rattle.bl_labels.specs.declared.labels.Labels.{Labels}
use Rattle.bl_link.specs.Linkable.{NoSolidus}
use Rattle.bl_link.specs.Links.{links, part_of}
use Rattle.bl_link.specs.declared.part.Part.{Part as LinkPart}
use Rattle.bl_link.specs.declared.error.LinkError.TheVariants.{Unknown, Mismatch, ElementRange, DataRange, Limit}
use Rattle.bl_job.specs.Refusals.{Refusal, limit, refusal_of}
use Rattle.bl_job.specs.declared.status.Reason.TheVariants as why
use Rattle.bl_text.specs.Names.{module_name}
use Rattle.bl_job.specs.Stages.{Stage, chain, each}

-- a module's name and its bytes
pub record Part : Type 0 where
  pub name : List ℕ
  pub bytes : List ℕ

-- the modules of these files with these contents
abbrev pub parts_of : List (List ℕ) → List (List ℕ) → List Part
parts_of words contents = map (λ each. record { name = module_name each.0; bytes = each.1 }) (zip words contents)

-- there are as many contents as names of files, and each is short enough for a module
abbrev pub AreShort : List (List ℕ) → List (List ℕ) → Type 0
AreShort words contents = AllZip (λ word bytes. length bytes ≤ limit_of quantity.Module) words contents

-- a module's name is text without a solidus, and its bytes are short enough for a module
abbrev pub IsLoadable : Part → Type 0
IsLoadable part = NoSolidus part.name × (length part.bytes ≤ limit_of quantity.Module)

-- modules that can be loaded: few, each with such a name and such bytes, and no two of one name
pub record AreLoadable (parts : List Part) : Type 0 where
  pub few : length parts ≤ limit_of quantity.Modules
  pub each : All IsLoadable parts
  pub distinct : (i j : ℕ) (a b : Part) → slice_get parts i ≡ Some a → slice_get parts j ≡ Some b → a.name ≡ b.name → i ≡ j
  pub bytes : All (λ part. AreBytes part.bytes) parts

-- a module under its name
pub record Named : Type 0 where
  pub name : List ℕ
  pub tree : Module

-- ---- the stages of one module

-- the bytes spell a module, all of which is supported and within the limits
pub record Decodes (part : Part) (named : Named) : Type 0 where
  pub same_name : named.name ≡ part.name
  pub spelled : Spells part.bytes named.tree
  pub supported : IsSupported named.tree
  pub within : first_excess named.tree ≡ None

-- a module's bytes are not in the grammar
abbrev pub malformed : List ℕ → Refusal
malformed name = refusal_of why.Malformed (codes "malformed: " ∷ name ∷ [])

-- a module has something that isn't supported
abbrev pub unsupported : List ℕ → Refusal
unsupported name = refusal_of why.Unsupported (codes "unsupported: " ∷ name ∷ [])

pub data DecodingRefuses (part : Part) (refusal : Refusal) : Type 0 where
  -- the bytes spell no module
  no_module : ((tree : Module) → Spells part.bytes tree → ⊥) → refusal ≡ malformed part.name → DecodingRefuses part refusal
  -- the module has something that isn't supported
  not_supported : (tree : Module) → Spells part.bytes tree → (IsSupported tree → ⊥) → refusal ≡ unsupported part.name
      → DecodingRefuses part refusal
  -- it exceeds a quantity; the first one and its value
  excess : (tree : Module) (which : Quantity) (value : ℕ) → Spells part.bytes tree → IsSupported tree
      → first_excess tree ≡ Some (which, value) → refusal ≡ limit which value
      → DecodingRefuses part refusal

abbrev pub decoding : Stage Part Named
decoding = record { Passes = Decodes; Refuses = DecodingRefuses }

-- a module passes a test as it is
pub record IsPassed (Holds : Module → Type 0) (old new : Named) : Type 0 where
  pub same : new ≡ old
  pub holds : Holds old.tree

-- the first function of a module that has no typing, by its index, imports first
abbrev pub invalid_function : List ℕ → ℕ → Refusal
invalid_function name index = refusal_of why.Invalid (codes "invalid: " ∷ name ∷ codes " function " ∷ decimal index ∷ [])

-- each function of a module has a typing, and the module breaks another rule
abbrev pub invalid_module : List ℕ → Refusal
invalid_module name = refusal_of why.Invalid (codes "invalid: " ∷ name ∷ codes " module" ∷ [])

-- a reason for not being valid as a refusal; want of memory is none
abbrev pub IsRefusalOf : List ℕ → Invalid → Refusal → Type 0
IsRefusalOf name (reason.Function index) refusal = refusal ≡ invalid_function name index
IsRefusalOf name reason.Module refusal = refusal ≡ invalid_module name
IsRefusalOf name reason.Memory refusal = ⊥

-- a function of the module has no typing, or it breaks another rule
pub record ValidationRefuses (named : Named) (refusal : Refusal) : Type 0 where
  pub reason : Invalid
  pub is_reason : IsReason named.tree reason
  pub is_refusal : IsRefusalOf named.name reason refusal

abbrev pub validation : Stage Named Named
validation = record { Passes = IsPassed Typed; Refuses = ValidationRefuses }

-- ---- labels

-- a module under its name, with its labels
pub record LabelledModule : Type 0 where
  pub name : List ℕ
  pub tree : Module
  pub labels : Labels

-- the sections of labels that a module has say these labels, or what is wrong with them
abbrev pub AreTold : Module → Result Labels LabelError → Type 0
AreTold tree answer = Tells tree (sections_of tree.customs) answer

-- a module's labels are read
pub record ReadsLabels (named : Named) (labelled : LabelledModule) : Type 0 where
  pub same_name : labelled.name ≡ named.name
  pub same_tree : labelled.tree ≡ named.tree
  pub told : AreTold named.tree (Ok labelled.labels)

-- what is wrong with labels as a refusal says it; want of memory is nothing wrong
abbrev pub fault_of : LabelError → Option (List ℕ)
fault_of label_error.Malformed = Some (codes " malformed")
fault_of label_error.Twice = Some (codes " twice")
fault_of label_error.OutOfRange = Some (codes " out of range")
fault_of label_error.OnImport = Some (codes " on import")
fault_of label_error.Both = Some (codes " both")
fault_of label_error.Memory = None

-- the labels of a module break a rule
abbrev pub bad_labels : List ℕ → List ℕ → Refusal
bad_labels name wrong = refusal_of why.Labels (codes "labels: " ∷ name ∷ wrong ∷ [])

-- the labels of a module break a rule; the first one
pub record LabelsRefuse (named : Named) (refusal : Refusal) : Type 0 where
  pub error : LabelError
  pub wrong : List ℕ
  pub told : AreTold named.tree (Err error)
  pub is_fault : fault_of error ≡ Some wrong
  pub is_refusal : refusal ≡ bad_labels named.name wrong

abbrev pub labelling : Stage Named LabelledModule
labelling = record { Passes = ReadsLabels; Refuses = LabelsRefuse }

-- ---- all modules

-- modules with their labels as parts to be linked
abbrev pub linked_parts : List LabelledModule → List LinkPart
linked_parts labelled = map (λ each. part_of each.name each.tree each.labels) labelled

-- the modules are linked to that tree, which can be run
pub record Links (labelled : List LabelledModule) (tree : Tree) : Type 0 where
  pub is_tree : links (linked_parts labelled) ≡ Ok tree
  pub can_run : IsLinked tree

-- an import of a module, by its number, from 0, with what is wrong of it
abbrev pub bad_import : List ℕ → ℕ → List ℕ → Refusal
bad_import name import wrong = refusal_of why.Link (codes "link: " ∷ name ∷ (codes " import " ++ decimal import ++ wrong) ∷ [])

-- no module before this one is of the name that an import of it has and exports anything of the name
abbrev pub unknown_import : List ℕ → ℕ → Refusal
unknown_import name import = bad_import name import (codes " unknown")

-- what an import of a module is given doesn't match
abbrev pub mismatched_import : List ℕ → ℕ → Refusal
mismatched_import name import = bad_import name import (codes " mismatch")

-- an element segment of a module doesn't lie in its table
abbrev pub element_range : List ℕ → Refusal
element_range name = refusal_of why.Link (codes "link: " ∷ name ∷ codes " element" ∷ [])

-- a data segment of a module doesn't lie in the first bytes of its memory
abbrev pub data_range : List ℕ → Refusal
data_range name = refusal_of why.Link (codes "link: " ∷ name ∷ codes " data" ∷ [])

-- why modules aren't linked, with the name of the module whose import or segment it is
pub data LinkingRefuses (labelled : List LabelledModule) (refusal : Refusal) : Type 0 where
  -- nothing before a module is exported under the names of its import
  unknown : (part import : ℕ) (one : LabelledModule) → links (linked_parts labelled) ≡ Err (Unknown part import)
      → slice_get labelled part ≡ Some one
      → refusal ≡ unknown_import one.name import → LinkingRefuses labelled refusal
  -- what is doesn't match
  mismatched : (part import : ℕ) (one : LabelledModule) → links (linked_parts labelled) ≡ Err (Mismatch part import)
      → slice_get labelled part ≡ Some one
      → refusal ≡ mismatched_import one.name import → LinkingRefuses labelled refusal
  -- an element segment, or else a data segment, is out of range
  element : (part : ℕ) (one : LabelledModule) → links (linked_parts labelled) ≡ Err (ElementRange part) → slice_get labelled part ≡ Some one
      → refusal ≡ element_range one.name → LinkingRefuses labelled refusal
  segment : (part : ℕ) (one : LabelledModule) → links (linked_parts labelled) ≡ Err (DataRange part) → slice_get labelled part ≡ Some one
      → refusal ≡ data_range one.name → LinkingRefuses labelled refusal
  -- the modules together are too large
  too_large : (which : Quantity) (value : ℕ) → links (linked_parts labelled) ≡ Err (Limit which value) → refusal ≡ limit which value
      → LinkingRefuses labelled refusal

abbrev pub linking : Stage (List LabelledModule) Tree
linking = record { Passes = Links; Refuses = LinkingRefuses }

-- the linked tree of modules
abbrev pub loading : Stage (List Part) Tree
loading = chain (each decoding) (chain (each validation) (chain (each labelling) linking))

-- ---- modules that are linked

-- the bytes spell that module, which is supported, within the limits and valid, and has these labels
pub record Accepted (bytes : List ℕ) (tree : Module) (labels : Labels) : Type 0 where
  pub spelled : Spells bytes tree
  pub supported : IsSupported tree
  pub within : first_excess tree ≡ None
  pub valid : Typed tree
  pub told : AreTold tree (Ok labels)

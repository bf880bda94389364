-- What entries say, and what is wrong with them.
use Rattle.std.specs.Prelude.{◌≡◌, ℕ, ◌+◌, ◌<◌, nat_le, not, Bool, true, false, if◌then◌else◌, List, [], ◌∷◌, ◌++◌, length, drop, get_or, filter_map, slice_get, Option, Some, None, option_map, option_and_then, unwrap_or, Result, Ok, Err}
use Rattle.std.specs.Option.{option_or}
use Rattle.std.specs.Str.{bytes_eq}
use Rattle.bl_wasm.specs.Validity.{functions_of, function_of, global_of, imported, memory_of}
use Rattle.bl_wasm.specs.declared.module.CustomSection.{CustomSection}
use Rattle.bl_wasm.specs.declared.module.Module.{Module}
use Rattle.bl_wasm.specs.declared.types.FuncType.{FuncType}
use Rattle.bl_labels.specs.LabelledPlaces.{is_listed, is_place}
use Rattle.bl_labels.specs.declared.entry.Entry.{Entry}
use Rattle.bl_labels.specs.declared.entry.Entry.TheVariants.{SecretParam, SecretGlobal, SecretMemory, PublicResult, PublicGlobal}
use Rattle.bl_labels.specs.declared.error.LabelError.{LabelError}
use Rattle.bl_labels.specs.declared.error.LabelError.TheVariants.{Twice, OutOfRange, OnImport, Both}
use Rattle.bl_labels.specs.declared.labels.Labels.{Labels}
use Rattle.bl_labels.specs.declared.labels.Place.{Place}
use Rattle.bl_labels.specs.declared.spaces.Spaces.{Spaces}

-- ---- what entries name

abbrev pub param_in : Entry → Option Place
param_in (SecretParam param) = Some param
param_in other = None

abbrev pub global_in : Entry → Option ℕ
global_in (SecretGlobal global) = Some global
global_in other = None

abbrev pub memory_in : Entry → Option ℕ
memory_in (SecretMemory memory) = Some memory
memory_in other = None

abbrev pub result_in : Entry → Option Place
result_in (PublicResult found) = Some found
result_in other = None

abbrev pub demanded_in : Entry → Option ℕ
demanded_in (PublicGlobal global) = Some global
demanded_in other = None

-- the labels that entries give, each list in the order of the entries
abbrev pub labels_by : List Entry → Labels
labels_by entries = record {
  params = filter_map param_in entries;
  globals = filter_map global_in entries;
  memories = filter_map memory_in entries;
  results = filter_map result_in entries;
  demanded = filter_map demanded_in entries;
}

-- ---- what can be named

-- how many there are of what may be missing
abbrev pub count : {A : Type 0} → Option A → ℕ
count None = 0
count (Some x) = 1

-- its functions; and of each kind how many are imported and how many are defined
abbrev pub spaces_of : Module → Spaces
spaces_of tree = record {
  functions = functions_of tree;
  imported_functions = length (imported function_of tree);
  globals = length tree.globals;
  imported_globals = length (imported global_of tree);
  memories = length tree.memories;
  imported_memories = length (imported memory_of tree);
}

-- the type of a function, where it has one
abbrev pub function_type_at : List FuncType → Spaces → ℕ → Option FuncType
function_type_at types spaces function = option_and_then (slice_get types) (slice_get spaces.functions function)

-- how many parameters and results it has
abbrev pub params_of : List FuncType → Spaces → ℕ → ℕ
params_of types spaces function = unwrap_or (option_map (λ type. length type.params) (function_type_at types spaces function)) 0

abbrev pub results_of : List FuncType → Spaces → ℕ → ℕ
results_of types spaces function = unwrap_or (option_map (λ type. length type.results) (function_type_at types spaces function)) 0

-- ---- the rules

-- the first of the rules that an entry breaks: its index is in range, isn't imported, wasn't named so before, and wasn't named by the
-- other kind of entry on globals before
abbrev pub first_broken : Bool → Bool → Bool → Bool → Option LabelError
first_broken true on_import twice both = Some OutOfRange
first_broken false true twice both = Some OnImport
first_broken false false true both = Some Twice
first_broken false false false true = Some Both
first_broken false false false false = None

-- what is wrong with an entry, where those before it give such labels
abbrev pub fault : List FuncType → Spaces → Labels → Entry → Option LabelError
fault types spaces before (SecretParam param) =
    first_broken (nat_le (params_of types spaces param.function) param.index) (not (nat_le spaces.imported_functions param.function))
    (is_place before.params param.function param.index) false
fault types spaces before (SecretGlobal global) =
    first_broken (nat_le (spaces.imported_globals + spaces.globals) global) (not (nat_le spaces.imported_globals global))
    (is_listed before.globals global) (is_listed before.demanded global)
fault types spaces before (SecretMemory memory) =
    first_broken (nat_le (spaces.imported_memories + spaces.memories) memory) (not (nat_le spaces.imported_memories memory))
    (is_listed before.memories memory) false
fault types spaces before (PublicResult found) =
    first_broken (nat_le (results_of types spaces found.function) found.index) (not (nat_le spaces.imported_functions found.function))
    (is_place before.results found.function found.index) false
fault types spaces before (PublicGlobal global) =
    first_broken (nat_le (spaces.imported_globals + spaces.globals) global) (not (nat_le spaces.imported_globals global))
    (is_listed before.demanded global) (is_listed before.globals global)

-- what is wrong with the first entry that something is wrong with, behind others
abbrev pub first_fault : Module → List Entry → List Entry → Option LabelError
first_fault tree before [] = None
first_fault tree before (one ∷ later) =
    option_or (fault tree.types (spaces_of tree) (labels_by before) one) (first_fault tree (before ++ one ∷ []) later)

abbrev pub judged_by : Option LabelError → List Entry → Result Labels LabelError
judged_by None entries = Ok (labels_by entries)
judged_by (Some error) entries = Err error

-- the labels of entries, or what is wrong with them
abbrev pub judged : Module → List Entry → Result Labels LabelError
judged tree entries = judged_by (first_fault tree [] entries) entries

-- ---- the whole

-- "blade.labels"
abbrev pub labels_name : List ℕ
labels_name = 0x62 ∷ 0x6C ∷ 0x61 ∷ 0x64 ∷ 0x65 ∷ 0x2E ∷ 0x6C ∷ 0x61 ∷ 0x62 ∷ 0x65 ∷ 0x6C ∷ 0x73 ∷ []

-- the bytes of a custom section of that name
abbrev pub bytes_of : CustomSection → Option (List ℕ)
bytes_of custom = if bytes_eq custom.name labels_name then Some custom.bytes else None

-- the bytes of all sections of labels
abbrev pub sections_of : List CustomSection → List (List ℕ)
sections_of customs = filter_map bytes_of customs

-- the first section of labels from a place on stands at that place, before the others
pub record IsNext (customs : List CustomSection) (from place : ℕ) : Type 0 where
  pub inside : place < length customs
  pub is : (custom : CustomSection) → sections_of (drop from customs)
      ≡ (get_or customs place custom).bytes ∷ sections_of (drop (place + 1) customs)

-- ---- labels as they grow

-- labels with what one entry names
abbrev pub with_entry : Labels → Entry → Labels
with_entry labels (SecretParam param) = record labels { params = labels.params ++ param ∷ [] }
with_entry labels (SecretGlobal global) = record labels { globals = labels.globals ++ global ∷ [] }
with_entry labels (SecretMemory memory) = record labels { memories = labels.memories ++ memory ∷ [] }
with_entry labels (PublicResult found) = record labels { results = labels.results ++ found ∷ [] }
with_entry labels (PublicGlobal global) = record labels { demanded = labels.demanded ++ global ∷ [] }

-- no global is both secret and demanded public
abbrev pub IsConsistent : Labels → Type 0
IsConsistent labels = (index : ℕ) → is_listed labels.globals index ≡ true → is_listed labels.demanded index ≡ false

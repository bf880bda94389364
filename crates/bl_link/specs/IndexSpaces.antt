-- What is linked, and what stands in the tree of it (WebAssembly 1.0, sections 4.2 and 4.5).
use Rattle.std.specs.Prelude.{ℕ, zero, suc, ◌+◌, Bool, true, false, if◌then◌else◌, List, [], ◌∷◌, ◌++◌, length, get_or, take, drop, filter_map, Some, None, Result, Ok, Err}
use Rattle.std.specs.List.{range_with_len}
use Rattle.bl_wasm.specs.declared.module.ExportKind.{ExportKind}
use Rattle.bl_wasm.specs.declared.module.ExportKind.TheVariants as export
use Rattle.bl_wasm.specs.declared.module.Module.{Module}
use Rattle.bl_wasm.specs.IndexMaps.{Names}
pub use Rattle.bl_link.specs.declared.part.Part.{Part}
pub use Rattle.bl_link.specs.declared.store.External.{External}
pub use Rattle.bl_link.specs.declared.store.Spaces.{Spaces}
pub use Rattle.bl_link.specs.declared.store.Store.{Store}
pub use Rattle.bl_link.specs.declared.error.LinkError.{LinkError}
pub use Rattle.bl_link.specs.declared.error.LinkError.TheVariants.{Unknown, Mismatch, ElementRange, DataRange, Limit}

-- the number of an index
abbrev pub number : List ℕ → ℕ → ℕ
number space index = get_or space index 0

-- what the items of a part's bodies name
abbrev pub names : Spaces → Names
names spaces = record { type = number spaces.types; function = number spaces.functions; global = number spaces.globals }

-- whether two kinds are one
abbrev pub same_kind : ExportKind → ExportKind → Bool
same_kind export.Function export.Function = true
same_kind export.Table export.Table = true
same_kind export.Memory export.Memory = true
same_kind export.Global export.Global = true
same_kind a b = false

-- the numbers of the values of a kind
abbrev pub of_kind : ExportKind → List External → List ℕ
of_kind kind values = filter_map (λ value. if same_kind kind value.kind then Some value.number else None) values

-- the space of a kind
abbrev pub space : Spaces → ExportKind → List ℕ
space spaces export.Function = spaces.functions
space spaces export.Table = spaces.tables
space spaces export.Memory = spaces.memories
space spaces export.Global = spaces.globals

-- the spaces of a part whose imports are given those values: what it defines stands behind all that is linked so far
abbrev pub spaces_of : Store → Module → List External → Spaces
spaces_of store wasm given = record {
  types = range_with_len (length store.tree.types) (length wasm.types);
  functions = of_kind export.Function given ++ range_with_len (length store.tree.functions) (length wasm.functions);
  tables = of_kind export.Table given ++ range_with_len (length store.tree.tables) (length wasm.tables);
  memories = of_kind export.Memory given ++ range_with_len (length store.tree.memories) (length wasm.memories);
  globals = of_kind export.Global given ++ range_with_len (length store.tree.globals) (length wasm.globals);
}

-- ---- words on results and lists

-- and then
abbrev pub on_ok : {A B E : Type 0} → Result A E → (A → Result B E) → Result B E
on_ok (Ok x) next = next x
on_ok (Err e) next = Err e

-- all values, or the first fault
abbrev pub all_ok : {A E : Type 0} → List (Result A E) → Result (List A) E
all_ok [] = Ok []
all_ok (first ∷ later) = on_ok first (λ x. on_ok (all_ok later) (λ xs. Ok (x ∷ xs)))

-- the list with another element of that number
abbrev pub changed : {A : Type 0} → ℕ → (A → A) → List A → List A
changed n change [] = []
changed zero change (x ∷ xs) = change x ∷ xs
changed (suc n) change (x ∷ xs) = x ∷ changed n change xs

-- the list with others written over it from a place on
abbrev pub written : {A : Type 0} → ℕ → List A → List A → List A
written place new old = take place old ++ new ++ drop (place + length new) old

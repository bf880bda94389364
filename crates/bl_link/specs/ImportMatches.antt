-- Which import an external value can be given to (WebAssembly 1.0, section 4.5.2), and what each import is given.
use Rattle.std.specs.Prelude.{ℕ, nat_eq, nat_le, ◌&&◌, not, Bool, true, false, if◌then◌else◌, List, map, slice_get, Option, Some, None, Result, Ok, Err}
use Rattle.std.specs.List.{enumerate_from, list_any}
use Rattle.std.specs.Cmp.Lexicographic.{pointwise}
use Rattle.bl_base.specs.declared.names.ValueType.{ValueType}
use Rattle.bl_base.specs.declared.names.ValueType.TheVariants as value
use Rattle.bl_wasm.specs.Exports.{value_named}
use Rattle.bl_wasm.specs.Linked.{type_of}
use Rattle.bl_wasm.specs.declared.module.Import.{Import}
use Rattle.bl_wasm.specs.declared.module.ImportKind.{ImportKind}
use Rattle.bl_wasm.specs.declared.module.ImportKind.TheVariants as import
use Rattle.bl_wasm.specs.declared.module.ExportKind.{ExportKind}
use Rattle.bl_wasm.specs.declared.module.ExportKind.TheVariants as export
use Rattle.bl_wasm.specs.declared.module.Module.{Module}
use Rattle.bl_wasm.specs.declared.types.WasmType.{WasmType}
use Rattle.bl_wasm.specs.declared.types.WasmType.TheVariants.{I32, I64}
use Rattle.bl_wasm.specs.declared.types.FuncType.{FuncType}
use Rattle.bl_wasm.specs.declared.types.GlobalType.{GlobalType}
use Rattle.bl_wasm.specs.declared.types.Limits.{Limits}
use Rattle.bl_wasm.specs.declared.linked.Signature.{Signature}
use Rattle.bl_wasm.specs.declared.linked.Global.{Global}
use Rattle.bl_link.specs.ExportNames.{qualified}
use Rattle.bl_link.specs.IndexSpaces.{External, LinkError, Unknown, Mismatch, Store, all_ok}

-- ---- types of the tree

-- whether a type of the tree is a type of a module, which has integers alone
abbrev pub same : ValueType → WasmType → Bool
same value.I32 I32 = true
same value.I64 I64 = true
same a b = false

abbrev pub same_type : Signature → FuncType → Bool
same_type a b = pointwise same a.params b.params && pointwise same a.results b.results

abbrev pub same_mutable : Bool → Bool → Bool
same_mutable true b = b
same_mutable false b = not b

abbrev pub same_global : Global → GlobalType → Bool
same_global a b = same a.kind b.kind && same_mutable a.mutable b.mutable

-- ---- matching (section 4.5.2)

-- limits are within wanted ones: the minimum is no less, and where a maximum is wanted there is one that is no greater
abbrev pub max_within : Option ℕ → Option ℕ → Bool
max_within these None = true
max_within None (Some most) = false
max_within (Some max) (Some most) = nat_le max most

abbrev pub within : Limits → Limits → Bool
within these wanted = nat_le wanted.min these.min && max_within these.max wanted.max

-- a test of what may be missing
abbrev pub passes : {A : Type 0} → (A → Bool) → Option A → Bool
passes test None = false
passes test (Some x) = test x

-- whether an external value matches what an import of the module wants
abbrev pub matches : Store → Module → ImportKind → ExportKind → ℕ → Bool
matches store wasm (import.Function wanted) export.Function number =
    passes (λ type. passes (same_type type) (slice_get wasm.types wanted)) (type_of store.tree number)
matches store wasm (import.Table wanted) export.Table number = passes (λ limits. within limits wanted) (slice_get store.tables number)
matches store wasm (import.Memory wanted) export.Memory number = passes (λ limits. within limits wanted) (slice_get store.memories number)
matches store wasm (import.Global wanted) export.Global number =
    passes (λ global. same_global global wanted) (slice_get store.tree.globals number)
matches store wasm wanted kind number = false

-- ---- imports

-- the export that an import names: a part's name has no solidus
abbrev pub named : Store → Import → Option External
named store wanted = if list_any (nat_eq 0x2F) wanted.from then None else value_named (qualified wanted.from wanted.name) store.exports

-- what an import is given where that is exported, by the number of its part and its own
abbrev pub given_of : Store → Module → ℕ → ℕ × Import → Option External → Result External LinkError
given_of store wasm part wanted None = Err (Unknown part wanted.0)
given_of store wasm part wanted (Some value) =
    if matches store wasm wanted.1.kind value.kind value.number then Ok value else Err (Mismatch part wanted.0)

abbrev pub given : Store → Module → ℕ → ℕ × Import → Result External LinkError
given store wasm part wanted = given_of store wasm part wanted (named store wanted.1)

-- what the imports of a module are given, in order
abbrev pub all_given : Store → Module → ℕ → Result (List External) LinkError
all_given store wasm part = all_ok (map (given store wasm part) (enumerate_from 0 wasm.imports))

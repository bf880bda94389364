-- The spellings of the entries of a section are prefix-free.
use Rattle.std.specs.Prelude.{◌≡◌, ℕ, Bool, true, false, List, refl}
use Rattle.std.proofs.Common.{sym, ◌∙◌, ap, ap₂}
use Rattle.bl_leb.specs.Grammar.{Spellings, ◌⨾◌, byte}
use Rattle.bl_wasm.specs.Values.{u32, vec, byte_vec, name}
use Rattle.bl_wasm.specs.Types.{value_type, function_type, limits, table_type, mutability, global_type}
use Rattle.bl_wasm.specs.Instructions.{expression}
use Rattle.bl_wasm.specs.Sections.{import_kind, import_entry, global_entry, export_kind, export_entry, element_entry, local_run, function_code, code_entry, data_entry}
use Rattle.bl_wasm.specs.declared.types.FuncType.{FuncType}
use Rattle.bl_wasm.specs.declared.types.GlobalType.{GlobalType}
use Rattle.bl_wasm.specs.declared.module.Import.{Import}
use Rattle.bl_wasm.specs.declared.module.ImportKind.{ImportKind}
use Rattle.bl_wasm.specs.declared.module.ImportKind.TheVariants as import
use Rattle.bl_wasm.specs.declared.module.DefinedGlobal.{DefinedGlobal}
use Rattle.bl_wasm.specs.declared.module.Export.{Export}
use Rattle.bl_wasm.specs.declared.module.ExportKind.{ExportKind}
use Rattle.bl_wasm.specs.declared.module.ExportKind.TheVariants as export
use Rattle.bl_wasm.specs.declared.module.ElementSegment.{ElementSegment}
use Rattle.bl_wasm.specs.declared.module.LocalRun.{LocalRun}
use Rattle.bl_wasm.specs.declared.module.Code.{Code}
use Rattle.bl_wasm.specs.declared.module.DataSegment.{DataSegment}
use Rattle.bl_code.specs.Unique.{Same, PrefixFree}
use Rattle.bl_code.specs.Laws.{u32_prefix_free}
use Rattle.bl_code.proofs.Unique.{byte_same, seq_same, given_same, then_same, vec_prefix_free, byte_vec_prefix_free, name_prefix_free, sized_prefix_free}
use Rattle.bl_code.proofs.Limits.{limits_prefix_free}
use Rattle.bl_code.proofs.BlockTypes.{value_type_prefix_free}
use Rattle.bl_code.proofs.ExpressionLemmas.{expression_prefix_free}

-- one after another
pub seq_prefix_free : {A B : Type 0} {F : A → Spellings} {S : B → Spellings} → PrefixFree F → PrefixFree S
    → PrefixFree (λ (t : A × B). F t.0 ⨾ S t.1)
seq_prefix_free first second =
    record { same = λ s t. seq_same (first.same s.0 t.0) (λ e. then_same (λ f. ap₂ (λ x y. (x, y)) e f) (second.same s.1 t.1)) }

-- what has the parts of another thing
pub parts_prefix_free : {A T : Type 0} (B : A → Spellings) (parts : T → A) (whole : A → T) → ((x : T) → whole (parts x) ≡ x) → PrefixFree B
    → PrefixFree (λ x. B (parts x))
parts_prefix_free B parts whole back one =
    record { same = λ x y. then_same (λ e. sym (back x) ∙ ap whole e ∙ back y) (one.same (parts x) (parts y)) }

-- a byte that says nothing more
pub mark_prefix_free : (n : ℕ) → PrefixFree (λ (x : Unit {0}). byte n)
mark_prefix_free n = record { same = λ x y. then_same (λ e. refl) (byte_same n n) }

-- behind a byte
pub marked_prefix_free : {A : Type 0} (n : ℕ) (B : A → Spellings) → PrefixFree B → PrefixFree (λ x. byte n ⨾ B x)
marked_prefix_free n B one = record { same = λ x y. seq_same (byte_same n n) (λ e. one.same x y) }

pub function_type_prefix_free : PrefixFree function_type
function_type_prefix_free = marked_prefix_free 0x60 (λ (type : FuncType). vec value_type type.params ⨾ vec value_type type.results)
    (parts_prefix_free (λ (t : List _ × List _). vec value_type t.0 ⨾ vec value_type t.1) (λ (type : FuncType). (type.params, type.results))
    (λ t. record { params = t.0; results = t.1 }) (λ x. refl)
    (seq_prefix_free (vec_prefix_free value_type_prefix_free) (vec_prefix_free value_type_prefix_free)))

pub table_type_prefix_free : PrefixFree table_type
table_type_prefix_free = marked_prefix_free 0x70 limits limits_prefix_free

mutability_same : (x y : Bool) → Same (mutability x) (mutability y) (x ≡ y)
mutability_same false false = then_same (λ e. refl) (byte_same 0 0)
mutability_same true true = then_same (λ e. refl) (byte_same 1 1)
mutability_same false true = then_same (λ e. cc) (byte_same 0 1)
mutability_same true false = then_same (λ e. cc) (byte_same 1 0)

pub mutability_prefix_free : PrefixFree mutability
mutability_prefix_free = record { same = mutability_same }

pub global_type_prefix_free : PrefixFree global_type
global_type_prefix_free =
    parts_prefix_free (λ t. value_type t.0 ⨾ mutability t.1) (λ (type : GlobalType). (type.kind, type.mutable))
    (λ t. record { kind = t.0; mutable = t.1 }) (λ x. refl) (seq_prefix_free value_type_prefix_free mutability_prefix_free)

import_kind_same : (x y : ImportKind) → Same (import_kind x) (import_kind y) (x ≡ y)
import_kind_same (import.Function x) (import.Function y) =
    seq_same (byte_same 0 0) (λ e. then_same (ap import.Function) (u32_prefix_free.same x y))
import_kind_same (import.Function x) (import.Table y) = seq_same (byte_same 0 1) (λ e. absurd (let no : ⊥ = cc in no))
import_kind_same (import.Function x) (import.Memory y) = seq_same (byte_same 0 2) (λ e. absurd (let no : ⊥ = cc in no))
import_kind_same (import.Function x) (import.Global y) = seq_same (byte_same 0 3) (λ e. absurd (let no : ⊥ = cc in no))
import_kind_same (import.Table x) (import.Function y) = seq_same (byte_same 1 0) (λ e. absurd (let no : ⊥ = cc in no))
import_kind_same (import.Table x) (import.Table y) =
    seq_same (byte_same 1 1) (λ e. then_same (ap import.Table) (table_type_prefix_free.same x y))
import_kind_same (import.Table x) (import.Memory y) = seq_same (byte_same 1 2) (λ e. absurd (let no : ⊥ = cc in no))
import_kind_same (import.Table x) (import.Global y) = seq_same (byte_same 1 3) (λ e. absurd (let no : ⊥ = cc in no))
import_kind_same (import.Memory x) (import.Function y) = seq_same (byte_same 2 0) (λ e. absurd (let no : ⊥ = cc in no))
import_kind_same (import.Memory x) (import.Table y) = seq_same (byte_same 2 1) (λ e. absurd (let no : ⊥ = cc in no))
import_kind_same (import.Memory x) (import.Memory y) =
    seq_same (byte_same 2 2) (λ e. then_same (ap import.Memory) (limits_prefix_free.same x y))
import_kind_same (import.Memory x) (import.Global y) = seq_same (byte_same 2 3) (λ e. absurd (let no : ⊥ = cc in no))
import_kind_same (import.Global x) (import.Function y) = seq_same (byte_same 3 0) (λ e. absurd (let no : ⊥ = cc in no))
import_kind_same (import.Global x) (import.Table y) = seq_same (byte_same 3 1) (λ e. absurd (let no : ⊥ = cc in no))
import_kind_same (import.Global x) (import.Memory y) = seq_same (byte_same 3 2) (λ e. absurd (let no : ⊥ = cc in no))
import_kind_same (import.Global x) (import.Global y) =
    seq_same (byte_same 3 3) (λ e. then_same (ap import.Global) (global_type_prefix_free.same x y))

pub import_kind_prefix_free : PrefixFree import_kind
import_kind_prefix_free = record { same = import_kind_same }

pub import_entry_prefix_free : PrefixFree import_entry
import_entry_prefix_free =
    parts_prefix_free (λ t. name t.0 ⨾ (name t.1.0 ⨾ import_kind t.1.1)) (λ (entry : Import). (entry.from, (entry.name, entry.kind)))
    (λ t. record { from = t.0; name = t.1.0; kind = t.1.1 }) (λ x. refl)
    (seq_prefix_free name_prefix_free (seq_prefix_free name_prefix_free import_kind_prefix_free))

pub global_entry_prefix_free : PrefixFree global_entry
global_entry_prefix_free =
    parts_prefix_free (λ t. global_type t.0 ⨾ expression t.1) (λ (global : DefinedGlobal). (global.kind, global.initial))
    (λ t. record { kind = t.0; initial = t.1 }) (λ x. refl) (seq_prefix_free global_type_prefix_free expression_prefix_free)

export_kind_same : (x y : ExportKind) → Same (export_kind x) (export_kind y) (x ≡ y)
export_kind_same export.Function export.Function = then_same (λ e. refl) (byte_same 0 0)
export_kind_same export.Function export.Table = then_same (λ e. cc) (byte_same 0 1)
export_kind_same export.Function export.Memory = then_same (λ e. cc) (byte_same 0 2)
export_kind_same export.Function export.Global = then_same (λ e. cc) (byte_same 0 3)
export_kind_same export.Table export.Function = then_same (λ e. cc) (byte_same 1 0)
export_kind_same export.Table export.Table = then_same (λ e. refl) (byte_same 1 1)
export_kind_same export.Table export.Memory = then_same (λ e. cc) (byte_same 1 2)
export_kind_same export.Table export.Global = then_same (λ e. cc) (byte_same 1 3)
export_kind_same export.Memory export.Function = then_same (λ e. cc) (byte_same 2 0)
export_kind_same export.Memory export.Table = then_same (λ e. cc) (byte_same 2 1)
export_kind_same export.Memory export.Memory = then_same (λ e. refl) (byte_same 2 2)
export_kind_same export.Memory export.Global = then_same (λ e. cc) (byte_same 2 3)
export_kind_same export.Global export.Function = then_same (λ e. cc) (byte_same 3 0)
export_kind_same export.Global export.Table = then_same (λ e. cc) (byte_same 3 1)
export_kind_same export.Global export.Memory = then_same (λ e. cc) (byte_same 3 2)
export_kind_same export.Global export.Global = then_same (λ e. refl) (byte_same 3 3)

pub export_kind_prefix_free : PrefixFree export_kind
export_kind_prefix_free = record { same = export_kind_same }

pub export_entry_prefix_free : PrefixFree export_entry
export_entry_prefix_free =
    parts_prefix_free (λ t. name t.0 ⨾ (export_kind t.1.0 ⨾ u32 t.1.1)) (λ (entry : Export). (entry.name, (entry.kind, entry.index)))
    (λ t. record { name = t.0; kind = t.1.0; index = t.1.1 }) (λ x. refl)
    (seq_prefix_free name_prefix_free (seq_prefix_free export_kind_prefix_free u32_prefix_free))

pub element_entry_prefix_free : PrefixFree element_entry
element_entry_prefix_free =
    parts_prefix_free (λ t. u32 t.0 ⨾ (expression t.1.0 ⨾ vec u32 t.1.1))
    (λ (segment : ElementSegment). (segment.table, (segment.offset, segment.functions)))
    (λ t. record { table = t.0; offset = t.1.0; functions = t.1.1 }) (λ x. refl)
    (seq_prefix_free u32_prefix_free (seq_prefix_free expression_prefix_free (vec_prefix_free u32_prefix_free)))

pub local_run_prefix_free : PrefixFree local_run
local_run_prefix_free =
    parts_prefix_free (λ t. u32 t.0 ⨾ value_type t.1) (λ (run : LocalRun). (run.count, run.kind)) (λ t. record { count = t.0; kind = t.1 })
    (λ x. refl) (seq_prefix_free u32_prefix_free value_type_prefix_free)

code_parts_prefix_free : PrefixFree (λ (code : Code). vec local_run code.locals ⨾ expression code.items)
code_parts_prefix_free =
    parts_prefix_free (λ t. vec local_run t.0 ⨾ expression t.1) (λ (code : Code). (code.locals, code.items))
    (λ t. record { locals = t.0; items = t.1 }) (λ x. refl) (seq_prefix_free (vec_prefix_free local_run_prefix_free) expression_prefix_free)

pub function_code_prefix_free : PrefixFree function_code
function_code_prefix_free = record { same = λ x y. given_same (code_parts_prefix_free.same x y) }

pub code_entry_prefix_free : PrefixFree code_entry
code_entry_prefix_free = sized_prefix_free function_code_prefix_free

pub data_entry_prefix_free : PrefixFree data_entry
data_entry_prefix_free =
    parts_prefix_free (λ t. u32 t.0 ⨾ (expression t.1.0 ⨾ byte_vec t.1.1))
    (λ (segment : DataSegment). (segment.memory, (segment.offset, segment.bytes)))
    (λ t. record { memory = t.0; offset = t.1.0; bytes = t.1.1 }) (λ x. refl)
    (seq_prefix_free u32_prefix_free (seq_prefix_free expression_prefix_free byte_vec_prefix_free))

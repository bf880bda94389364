-- Sections in the binary format (WebAssembly 1.0, section 5.5).
use Rattle.std.specs.Prelude.{◌≡◌, ℕ, ◌<◌, ◌^◌, ◌⊎◌, List, [], Option, Some, None, sum_by}
use Rattle.bl_leb.specs.Grammar.{Spellings, ◌⨾◌, nothing, exactly, byte, given}
use Rattle.bl_wasm.specs.Values.{u32, vec, byte_vec, name, sized}
use Rattle.bl_wasm.specs.Types.{value_type, function_type, table_type, memory_type, global_type}
use Rattle.bl_wasm.specs.Instructions.{expression}
use Rattle.bl_wasm.specs.declared.types.FuncType.{FuncType}
use Rattle.bl_wasm.specs.declared.types.Limits.{Limits}
use Rattle.bl_wasm.specs.declared.module.Import.{Import}
use Rattle.bl_wasm.specs.declared.module.ImportKind.{ImportKind}
use Rattle.bl_wasm.specs.declared.module.ImportKind.TheVariants as import
use Rattle.bl_wasm.specs.declared.module.DefinedGlobal.{DefinedGlobal}
use Rattle.bl_wasm.specs.declared.module.Export.{Export}
use Rattle.bl_wasm.specs.declared.module.ExportKind.{ExportKind}
use Rattle.bl_wasm.specs.declared.module.ExportKind.TheVariants as export
use Rattle.bl_wasm.specs.declared.module.ElementSegment.{ElementSegment}
use Rattle.bl_wasm.specs.declared.module.DataSegment.{DataSegment}
use Rattle.bl_wasm.specs.declared.module.Code.{Code}
use Rattle.bl_wasm.specs.declared.module.LocalRun.{LocalRun}
use Rattle.bl_wasm.specs.declared.module.CustomSection.{CustomSection}

-- a section that stands there: its id, and its contents behind their size (section 5.5.2)
abbrev pub section : ℕ → Spellings → Spellings
section id Contents = byte id ⨾ sized Contents

-- section_N(vec(B)): a missing section is one of no elements (section 5.5.2)
abbrev pub vec_section : {A : Type 0} → ℕ → (A → Spellings) → List A → Spellings
vec_section id B xs bytes = section id (vec B xs) bytes ⊎ ((xs ≡ []) × nothing bytes)

-- customsec: a name, and then any bytes (section 5.5.3)
abbrev pub custom_section : CustomSection → Spellings
custom_section custom = section 0 (name custom.name ⨾ exactly custom.bytes)

-- typesec (section 5.5.4)
abbrev pub type_section : List FuncType → Spellings
type_section types = vec_section 1 function_type types

-- importdesc (section 5.5.5)
abbrev pub import_kind : ImportKind → Spellings
import_kind (import.Function type) = byte 0x00 ⨾ u32 type
import_kind (import.Table type) = byte 0x01 ⨾ table_type type
import_kind (import.Memory type) = byte 0x02 ⨾ memory_type type
import_kind (import.Global type) = byte 0x03 ⨾ global_type type

-- import: the other module's name, its own, and what it is (section 5.5.5)
abbrev pub import_entry : Import → Spellings
import_entry entry = name entry.from ⨾ name entry.name ⨾ import_kind entry.kind

-- importsec (section 5.5.5)
abbrev pub import_section : List Import → Spellings
import_section imports = vec_section 2 import_entry imports

-- funcsec: type indices (section 5.5.6)
abbrev pub function_section : List ℕ → Spellings
function_section functions = vec_section 3 u32 functions

-- tablesec (section 5.5.7)
abbrev pub table_section : List Limits → Spellings
table_section tables = vec_section 4 table_type tables

-- memsec (section 5.5.8)
abbrev pub memory_section : List Limits → Spellings
memory_section memories = vec_section 5 memory_type memories

-- global (section 5.5.9)
abbrev pub global_entry : DefinedGlobal → Spellings
global_entry global = global_type global.kind ⨾ expression global.initial

-- globalsec (section 5.5.9)
abbrev pub global_section : List DefinedGlobal → Spellings
global_section globals = vec_section 6 global_entry globals

-- exportdesc, before the index (section 5.5.10)
abbrev pub export_kind : ExportKind → Spellings
export_kind export.Function = byte 0x00
export_kind export.Table = byte 0x01
export_kind export.Memory = byte 0x02
export_kind export.Global = byte 0x03

-- export (section 5.5.10)
abbrev pub export_entry : Export → Spellings
export_entry entry = name entry.name ⨾ export_kind entry.kind ⨾ u32 entry.index

-- exportsec (section 5.5.10)
abbrev pub export_section : List Export → Spellings
export_section exports = vec_section 7 export_entry exports

-- startsec, which may be missing (section 5.5.11)
abbrev pub start_section : Option ℕ → Spellings
start_section (Some function) = section 8 (u32 function)
start_section None = nothing

-- elem (section 5.5.12)
abbrev pub element_entry : ElementSegment → Spellings
element_entry segment = u32 segment.table ⨾ expression segment.offset ⨾ vec u32 segment.functions

-- elemsec (section 5.5.12)
abbrev pub element_section : List ElementSegment → Spellings
element_section elements = vec_section 9 element_entry elements

-- locals (section 5.5.13)
abbrev pub local_run : LocalRun → Spellings
local_run run = u32 run.count ⨾ value_type run.kind

-- func: its locals are fewer than 2^32 (section 5.5.13)
abbrev pub function_code : Code → Spellings
function_code code = given (sum_by (λ run. run.count) code.locals < 2 ^ 32) (vec local_run code.locals ⨾ expression code.items)

-- code (section 5.5.13)
abbrev pub code_entry : Code → Spellings
code_entry code = sized (function_code code)

-- codesec (section 5.5.13)
abbrev pub code_section : List Code → Spellings
code_section bodies = vec_section 10 code_entry bodies

-- data (section 5.5.14)
abbrev pub data_entry : DataSegment → Spellings
data_entry segment = u32 segment.memory ⨾ expression segment.offset ⨾ byte_vec segment.bytes

-- datasec (section 5.5.14)
abbrev pub data_section : List DataSegment → Spellings
data_section segments = vec_section 11 data_entry segments

-- Types in the binary format (WebAssembly 1.0, section 5.3).
use Rattle.std.specs.Prelude.{ℕ, Bool, true, false, Option, Some, None, pos}
use Rattle.bl_wasm.specs.declared.types.BlockType.{BlockType}
use Rattle.bl_wasm.specs.declared.types.BlockType.TheVariants.{Empty, Value, Index}
use Rattle.bl_leb.specs.Numbers.{IsSigned}
use Rattle.bl_leb.specs.Grammar.{Spellings, ◌⨾◌, byte}
use Rattle.bl_wasm.specs.Values.{u32, vec}
use Rattle.bl_wasm.specs.declared.types.WasmType.{WasmType}
use Rattle.bl_wasm.specs.declared.types.WasmType.TheVariants.{I32, I64, F32, F64}
use Rattle.bl_wasm.specs.declared.types.FuncType.{FuncType}
use Rattle.bl_wasm.specs.declared.types.Limits.{Limits}
use Rattle.bl_wasm.specs.declared.types.GlobalType.{GlobalType}

-- valtype (section 5.3.1)
abbrev pub value_type : WasmType → Spellings
value_type I32 = byte 0x7F
value_type I64 = byte 0x7E
value_type F32 = byte 0x7D
value_type F64 = byte 0x7C

-- blocktype: nothing, one result, or the index of a type, a signed number of 33 bits that isn't negative
abbrev pub block_type : BlockType → Spellings
block_type Empty = byte 0x40
block_type (Value result) = value_type result
block_type (Index index) = λ bytes. IsSigned 33 bytes (pos index)

-- functype (section 5.3.3)
abbrev pub function_type : FuncType → Spellings
function_type type = byte 0x60 ⨾ vec value_type type.params ⨾ vec value_type type.results

-- the two forms of limits: without a maximum and with one
abbrev pub limits_of : ℕ → Option ℕ → Spellings
limits_of min None = byte 0x00 ⨾ u32 min
limits_of min (Some max) = byte 0x01 ⨾ u32 min ⨾ u32 max

-- limits (section 5.3.4)
abbrev pub limits : Limits → Spellings
limits these = limits_of these.min these.max

-- memtype (section 5.3.5)
abbrev pub memory_type : Limits → Spellings
memory_type these = limits these

-- tabletype: funcref, and limits (section 5.3.6)
abbrev pub table_type : Limits → Spellings
table_type these = byte 0x70 ⨾ limits these

-- mut: const or var (section 5.3.7)
abbrev pub mutability : Bool → Spellings
mutability false = byte 0x00
mutability true = byte 0x01

-- globaltype (section 5.3.7)
abbrev pub global_type : GlobalType → Spellings
global_type type = value_type type.kind ⨾ mutability type.mutable

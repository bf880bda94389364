-- The types of a module as types of the tree.
use Rattle.std.specs.Prelude.{map}
use Rattle.bl_base.specs.declared.names.ValueType.{ValueType}
use Rattle.bl_base.specs.declared.names.ValueType.TheVariants as value
use Rattle.bl_wasm.specs.declared.types.WasmType.{WasmType}
use Rattle.bl_wasm.specs.declared.types.WasmType.TheVariants.{I32, I64, F32, F64}
use Rattle.bl_wasm.specs.declared.types.FuncType.{FuncType}
use Rattle.bl_wasm.specs.declared.linked.Signature.{Signature}

-- a type of values; a valid module has no floats
abbrev pub value_of : WasmType → ValueType
value_of I32 = value.I32
value_of I64 = value.I64
value_of F32 = value.I32
value_of F64 = value.I64

-- a type of functions
abbrev pub signature : FuncType → Signature
signature type = record { params = map value_of type.params; results = map value_of type.results }

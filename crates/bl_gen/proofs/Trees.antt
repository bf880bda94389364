-- The tree of the module that a seed and a size give.
use Rattle.std.proofs.Common.{ℕ, zero, suc, ◌-◌, List, [], ◌∷◌, ◌++◌, map, None}
use Rattle.std.specs.Prelude.{◌==◌, if◌then◌else◌, replicate}
use Rattle.std.specs.List.{flat_map, range_with_len}
use Rattle.bl_ops.specs.declared.access.AccessKind.TheVariants.{I32Load}
use Rattle.bl_ops.specs.declared.op.Op.TheVariants.{I32Add}
use Rattle.bl_wasm.specs.declared.instruction.Instr.{Instr}
use Rattle.bl_wasm.specs.declared.instruction.Instr.TheVariants.{Loop, End, Call, LocalGet, LocalSet, Load, Integer}
use Rattle.bl_wasm.specs.declared.module.Code.{Code}
use Rattle.bl_wasm.specs.declared.module.Export.{Export}
use Rattle.bl_wasm.specs.declared.module.ExportKind.TheVariants as export
use Rattle.bl_wasm.specs.declared.module.LocalRun.{LocalRun}
use Rattle.bl_wasm.specs.declared.module.Module.{Module}
use Rattle.bl_wasm.specs.declared.types.BlockType.TheVariants.{Empty}
use Rattle.bl_wasm.specs.declared.types.FuncType.{FuncType}
use Rattle.bl_wasm.specs.declared.types.Limits.{Limits}
use Rattle.bl_wasm.specs.declared.types.WasmType.TheVariants.{I32}
use Rattle.bl_gen.specs.GeneratedModule.{item_kind}

abbrev pub load : Instr
load = Load I32Load (record { alignment = 2; offset = 0 })

-- the items by their kinds
abbrev pub code_0 : List Instr
code_0 = LocalGet 0 ∷ load ∷ LocalSet 1 ∷ []

abbrev pub code_1 : List Instr
code_1 = LocalGet 1 ∷ load ∷ LocalSet 1 ∷ []

abbrev pub inside_2 : List Instr
inside_2 = LocalGet 1 ∷ load ∷ LocalSet 0 ∷ []

abbrev pub code_2 : List Instr
code_2 = Loop Empty ∷ LocalGet 1 ∷ load ∷ LocalSet 0 ∷ End ∷ []

abbrev pub code_3 : List Instr
code_3 = LocalGet 0 ∷ LocalGet 1 ∷ Integer I32Add ∷ LocalSet 1 ∷ []

unfoldable pub code_of : ℕ → List Instr
code_of kind = if kind == 0 then code_0 else (if kind == 1 then code_1 else (if kind == 2 then code_2 else code_3))

abbrev pub call_code : ℕ → List Instr
call_code zero = []
call_code (suc before) = LocalGet 1 ∷ Call before ∷ LocalSet 1 ∷ []

-- the items of function i, before the last local.get 1
unfoldable pub first_code : ℕ → ℕ → List Instr
first_code seed i = flat_map (λ j. code_of (item_kind seed i j)) (range_with_len 0 8) ++ call_code i

abbrev pub run : LocalRun
run = record { count = 1; kind = I32 }

abbrev pub body : ℕ → ℕ → Code
body seed i = record { locals = run ∷ []; items = first_code seed i ++ LocalGet 1 ∷ [] }

abbrev pub type : FuncType
type = record { params = I32 ∷ []; results = I32 ∷ [] }

abbrev pub memory : Limits
memory = record { min = 1; max = None }

abbrev pub last : ℕ → Export
last size = record { name = 0x66 ∷ []; kind = export.Function; index = size - 1 }

abbrev pub tree : ℕ → ℕ → Module
tree seed size = record {
  types = type ∷ [];
  imports = [];
  functions = replicate size 0;
  tables = [];
  memories = memory ∷ [];
  globals = [];
  exports = last size ∷ [];
  start = None;
  elements = [];
  bodies = map (body seed) (range_with_len 0 size);
  segments = [];
  customs = [];
}

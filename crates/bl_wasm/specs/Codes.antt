-- The codes of instructions that stand in no other table (WebAssembly 1.0, section 5.4).
use Rattle.std.specs.Prelude.{◌≡◌, ℕ, ◌≤◌, Some}
use Rattle.bl_ops.specs.declared.op.Op.{Op}
use Rattle.bl_ops.specs.OperatorTable.{operator_code}
use Rattle.bl_wasm.specs.declared.float.FloatAccess.{FloatAccess}
use Rattle.bl_wasm.specs.declared.float.FloatAccess.TheVariants.{F32Load, F64Load, F32Store, F64Store}

-- a code from 45 to BF that isn't the code of an integer operator (section 5.4.5)
abbrev pub IsFloatCode : ℕ → Type 0
IsFloatCode code = (0x45 ≤ code) × (code ≤ 0xBF) × ((op : Op) → operator_code op ≡ Some code → ⊥)

-- the loads and stores of floats (section 5.4.4)
abbrev pub float_access_code : FloatAccess → ℕ
float_access_code F32Load = 0x2A
float_access_code F64Load = 0x2B
float_access_code F32Store = 0x38
float_access_code F64Store = 0x39

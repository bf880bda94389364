-- A linked tree with one table, and a function that calls through it.
use Rattle.std.specs.Prelude.{ℕ, Bool, false, List, [], ◌∷◌, Option, Some, None}
use Rattle.bl_base.specs.declared.names.Label.TheVariants.{Public}
use Rattle.bl_base.specs.declared.names.Label.{Label}
use Rattle.bl_base.specs.declared.names.ValueType.{ValueType}
use Rattle.bl_base.specs.declared.names.ValueType.TheVariants.{I32}
use Rattle.bl_wasm.specs.declared.instruction.Instr.{Instr}
use Rattle.bl_wasm.specs.declared.instruction.Instr.TheVariants.{LocalGet, CallIndirect, I32Const}
use Rattle.bl_wasm.specs.declared.linked.Function.{Function}
use Rattle.bl_wasm.specs.declared.linked.Signature.{Signature}
use Rattle.bl_wasm.specs.declared.linked.Tree.{Tree}

-- the type with these parameters and one i32
abbrev pub giving : List ValueType → Signature
giving params = record { params = params; results = I32 ∷ [] }

-- a function of a type with these items, over table 0
abbrev pub over_table : ℕ → List Label → List Instr → Function
over_table type labels items = record {
  type_index = type;
  labels = labels;
  demanded = false ∷ [];
  code = record { locals = []; items = items };
  memory = None;
  table = Some 0;
}

-- calls what is in the slot of the first argument, with the second one
abbrev pub calling : Function
calling = over_table 0 (Public ∷ Public ∷ []) (LocalGet 1 ∷ LocalGet 0 ∷ CallIndirect 1 ∷ [])

-- one of type 1, which is wanted; one of type 2, which is equal to it; and one of another type
abbrev pub giving_back : Function
giving_back = over_table 1 (Public ∷ []) (LocalGet 0 ∷ [])

abbrev pub giving_seven : Function
giving_seven = over_table 2 (Public ∷ []) (I32Const 7 ∷ [])

abbrev pub giving_nine : Function
giving_nine = over_table 3 [] (I32Const 9 ∷ [])

abbrev pub slots : List (Option ℕ)
slots = Some 1 ∷ Some 2 ∷ None ∷ Some 3 ∷ []

abbrev pub table_tree : Tree
table_tree = record {
  types = giving (I32 ∷ I32 ∷ []) ∷ giving (I32 ∷ []) ∷ giving (I32 ∷ []) ∷ giving [] ∷ [];
  functions = calling ∷ giving_back ∷ giving_seven ∷ giving_nine ∷ [];
  globals = [];
  memories = [];
  tables = slots ∷ [];
  exports = [];
}

-- Which places of a body can be reached (WebAssembly 1.0, section 3.3.5 and appendix A.3): those that don't stand behind an
-- unreachable, br, br_table or return of the same part of a construct, nor inside a construct that can't be reached.
use Rattle.std.specs.Prelude.{ℕ, Bool, true, false, List, [], ◌∷◌, fold, take}
use Rattle.bl_wasm.specs.declared.instruction.Instr.{Instr}
use Rattle.bl_wasm.specs.declared.instruction.Instr.TheVariants.{Unreachable, Nop, Block, Loop, If, Else, End, Br, BrIf, BrTable, Return, Call, CallIndirect, Drop, Select, LocalGet, LocalSet, LocalTee, GlobalGet, GlobalSet, Load, Store, FloatAccess, MemorySize, MemoryGrow, I32Const, I64Const, F32Const, F64Const, Integer, Float}

-- whether a place can be reached, and for each construct that is open there, innermost first, whether its beginning can: the
-- same behind an item
abbrev pub reached_behind : List Bool → Instr → List Bool
reached_behind [] item = []
reached_behind (here ∷ outer) Unreachable = false ∷ outer
reached_behind (here ∷ outer) Nop = here ∷ outer
reached_behind (here ∷ outer) (Block type) = here ∷ here ∷ outer
reached_behind (here ∷ outer) (Loop type) = here ∷ here ∷ outer
reached_behind (here ∷ outer) (If type) = here ∷ here ∷ outer
reached_behind (here ∷ []) Else = here ∷ []
reached_behind (here ∷ beginning ∷ outer) Else = beginning ∷ beginning ∷ outer
reached_behind (here ∷ outer) End = outer
reached_behind (here ∷ outer) (Br l) = false ∷ outer
reached_behind (here ∷ outer) (BrIf l) = here ∷ outer
reached_behind (here ∷ outer) (BrTable default others) = false ∷ outer
reached_behind (here ∷ outer) Return = false ∷ outer
reached_behind (here ∷ outer) (Call function) = here ∷ outer
reached_behind (here ∷ outer) (CallIndirect type) = here ∷ outer
reached_behind (here ∷ outer) Drop = here ∷ outer
reached_behind (here ∷ outer) Select = here ∷ outer
reached_behind (here ∷ outer) (LocalGet x) = here ∷ outer
reached_behind (here ∷ outer) (LocalSet x) = here ∷ outer
reached_behind (here ∷ outer) (LocalTee x) = here ∷ outer
reached_behind (here ∷ outer) (GlobalGet x) = here ∷ outer
reached_behind (here ∷ outer) (GlobalSet x) = here ∷ outer
reached_behind (here ∷ outer) (Load kind argument) = here ∷ outer
reached_behind (here ∷ outer) (Store kind argument) = here ∷ outer
reached_behind (here ∷ outer) (FloatAccess kind argument) = here ∷ outer
reached_behind (here ∷ outer) MemorySize = here ∷ outer
reached_behind (here ∷ outer) MemoryGrow = here ∷ outer
reached_behind (here ∷ outer) (I32Const n) = here ∷ outer
reached_behind (here ∷ outer) (I64Const n) = here ∷ outer
reached_behind (here ∷ outer) (F32Const bits) = here ∷ outer
reached_behind (here ∷ outer) (F64Const bits) = here ∷ outer
reached_behind (here ∷ outer) (Integer op) = here ∷ outer
reached_behind (here ∷ outer) (Float op) = here ∷ outer

-- of the place itself
abbrev pub innermost : List Bool → Bool
innermost [] = false
innermost (here ∷ outer) = here

-- whether a place of a body can be reached
abbrev pub is_reached : List Instr → ℕ → Bool
is_reached body place = innermost (fold reached_behind (true ∷ []) (take place body))

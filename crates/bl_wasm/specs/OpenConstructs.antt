-- What is open at the places of a body (WebAssembly 1.0, section 2.4.5): from it well nested items, the depth of a place, its
-- labels and the ends of constructs are read.
use Rattle.std.specs.Prelude.{◌≡◌, ℕ, List, [], ◌∷◌, take, length, Option, Some, None, option_and_then, unwrap_or}
use Rattle.bl_wasm.specs.declared.instruction.Instr.{Instr}
use Rattle.bl_wasm.specs.declared.instruction.Instr.TheVariants.{Unreachable, Nop, Block, Loop, If, Else, End, Br, BrIf, BrTable, Return, Call, CallIndirect, Drop, Select, LocalGet, LocalSet, LocalTee, GlobalGet, GlobalSet, Load, Store, FloatAccess, MemorySize, MemoryGrow, I32Const, I64Const, F32Const, F64Const, Integer, Float}
use Rattle.bl_wasm.specs.declared.types.BlockType.{BlockType}

-- the kinds of constructs that an `end` closes: a block, a loop, an if up to its `else` or its end, and an if behind its `else`
pub data Kind : Type 0 where
  of_block : Kind
  of_loop : Kind
  then_part : Kind
  else_part : Kind

-- a construct that is open
pub record Construct : Type 0 where
  pub kind : Kind
  pub type : BlockType

abbrev pub construct : Kind → BlockType → Construct
construct kind type = record { kind = kind; type = type }

-- the kind of what is open behind the `else` of a construct, where it may have one
abbrev pub kind_behind_else : Kind → Option Kind
kind_behind_else of_block = None
kind_behind_else of_loop = None
kind_behind_else then_part = Some else_part
kind_behind_else else_part = None

-- the then part of an if ends, and its else part begins
abbrev pub behind_else : List Construct → Option (List Construct)
behind_else [] = None
behind_else (innermost ∷ outer) = option_and_then (λ kind. Some (construct kind innermost.type ∷ outer)) (kind_behind_else innermost.kind)

-- the innermost construct ends
abbrev pub behind_end : List Construct → Option (List Construct)
behind_end [] = None
behind_end (innermost ∷ outer) = Some outer

-- what is open behind an item, innermost first, where the item may stand there
abbrev pub open_behind : Instr → List Construct → Option (List Construct)
open_behind Unreachable open_ones = Some open_ones
open_behind Nop open_ones = Some open_ones
open_behind (Block type) outer = Some (construct of_block type ∷ outer)
open_behind (Loop type) outer = Some (construct of_loop type ∷ outer)
open_behind (If type) outer = Some (construct then_part type ∷ outer)
open_behind Else open_ones = behind_else open_ones
open_behind End open_ones = behind_end open_ones
open_behind (Br l) open_ones = Some open_ones
open_behind (BrIf l) open_ones = Some open_ones
open_behind (BrTable default others) open_ones = Some open_ones
open_behind Return open_ones = Some open_ones
open_behind (Call function) open_ones = Some open_ones
open_behind (CallIndirect type) open_ones = Some open_ones
open_behind Drop open_ones = Some open_ones
open_behind Select open_ones = Some open_ones
open_behind (LocalGet x) open_ones = Some open_ones
open_behind (LocalSet x) open_ones = Some open_ones
open_behind (LocalTee x) open_ones = Some open_ones
open_behind (GlobalGet x) open_ones = Some open_ones
open_behind (GlobalSet x) open_ones = Some open_ones
open_behind (Load kind argument) open_ones = Some open_ones
open_behind (Store kind argument) open_ones = Some open_ones
open_behind (FloatAccess kind argument) open_ones = Some open_ones
open_behind MemorySize open_ones = Some open_ones
open_behind MemoryGrow open_ones = Some open_ones
open_behind (I32Const n) open_ones = Some open_ones
open_behind (I64Const n) open_ones = Some open_ones
open_behind (F32Const bits) open_ones = Some open_ones
open_behind (F64Const bits) open_ones = Some open_ones
open_behind (Integer op) open_ones = Some open_ones
open_behind (Float op) open_ones = Some open_ones

-- what is open behind items, where they may stand there
abbrev pub open_through : List Instr → List Construct → Option (List Construct)
open_through [] open_ones = Some open_ones
open_through (item ∷ items) open_ones = option_and_then (open_through items) (open_behind item open_ones)

-- what is open at a place of a body, before the item there, where the items before it may stand there
abbrev pub open_at : List Instr → ℕ → Option (List Construct)
open_at body place = open_through (take place body) []

-- how many constructs are open at a place
abbrev pub depth_at : List Instr → ℕ → ℕ
depth_at body place = length (unwrap_or (open_at body place) [])

-- the items close what is open, and what they open themselves
abbrev pub Closes : List Construct → List Instr → Type 0
Closes open_ones [] = open_ones ≡ []
Closes open_ones (item ∷ items) = (behind : List Construct) × (open_behind item open_ones ≡ Some behind) × Closes behind items

-- Worked programs.
use Rattle.std.proofs.Common.{◌≡◌, ℕ, zero, suc, List, [], ◌∷◌, ◌++◌, length, map, drop, replicate, true, Some, None, refl}
use Rattle.bl_base.specs.declared.names.ValueType.TheVariants as value
use Rattle.bl_ops.specs.declared.op.Op.TheVariants as op
use Rattle.bl_wasm.specs.declared.instruction.Instr.{Instr}
use Rattle.bl_wasm.specs.declared.instruction.Instr.TheVariants.{Loop, End, BrIf, LocalGet, LocalSet, LocalTee, Load, I32Const, Integer, Nop, If, Unreachable, Block, Br, BrTable, Call, CallIndirect, Drop, MemoryGrow}
use Rattle.bl_wasm.specs.declared.types.BlockType.TheVariants.{Empty, Index}
use Rattle.bl_wasm.specs.declared.linked.Signature.{Signature}
use Rattle.bl_wasm.specs.declared.linked.Tree.{Tree}
use Rattle.bl_program.specs.Outcomes.{opening}
use Rattle.bl_program.specs.Steps.{Plain, plain_step}
use Rattle.bl_program.specs.declared.command.Command.{Command}
use Rattle.bl_program.specs.declared.command.Command.TheVariants as command
use Rattle.bl_program.specs.declared.definitions.ProgramParts.{ProgramParts as Program}
use Rattle.bl_program.specs.declared.command.Operand.TheVariants.{Const}
use Rattle.bl_program.specs.declared.definitions.Demand.TheVariants as demand
use Rattle.bl_access.specs.Templates.{variable, jump_to, load_of, test_of, set_of, arg_of, out_of, set, move}
use Rattle.bl_base.specs.Runs.{Next, goes, ends, returned}
use Rattle.bl_base.specs.declared.names.Label.TheVariants as label
use Rattle.bl_ops.specs.Numerics.{meaning}
use Rattle.bl_ops.specs.declared.access.AccessKind.TheVariants as access
use Rattle.bl_wasm.specs.declared.instruction.MemoryArgument.{MemoryArgument}
use Rattle.bl_wasm.specs.declared.types.WasmType.{WasmType}
use Rattle.bl_wasm.specs.declared.types.WasmType.TheVariants.{I32}
use Rattle.bl_lower.specs.Trees.{low_tree, step_bound, rows_of}

abbrev one : Signature → List Instr → Tree
one type items = record {
  types = type ∷ [];
  functions = record { type_index = 0; labels = []; demanded = []; code = record { locals = []; items = items }; memory = None; table = None } ∷ [];
  globals = [];
  memories = [];
  tables = [];
  exports = [];
}

abbrev commands : Tree → List Command
commands tree = (low_tree tree).commands

-- two results
abbrev swap : Tree
swap = one (record { params = value.I32 ∷ value.I32 ∷ []; results = value.I32 ∷ value.I32 ∷ [] }) (LocalGet 1 ∷ LocalGet 0 ∷ [])

swapped : length (commands swap) ≡ 13
swapped = refl

-- a loop with a parameter: the entry's Set, the loop's Jump, and the branch
abbrev count : Tree
count = one (record { params = value.I32 ∷ []; results = value.I32 ∷ [] }) (LocalGet 0 ∷ Loop (Index 0) ∷ I32Const 4294967295 ∷ Integer op.I32Add ∷ LocalTee 0 ∷ LocalGet 0 ∷ BrIf 0 ∷ End ∷ [])

count_commands : drop 7 (commands count)
    ≡ jump_to 8 ∷ move 0 2 (variable 0) ∷ move 0 3 (variable 2) ∷ jump_to 11
    ∷ move 1 5 (Const 4294967295) ∷ set 1 op.I32Add 6 (variable 3) (variable 5) ∷ move 1 0 (variable 6) ∷ move 1 7 (variable 0)
    ∷ test_of (variable 7) 16 18 ∷ move 1 3 (variable 6) ∷ jump_to 10
    ∷ move 1 4 (variable 6) ∷ jump_to 20 ∷ out_of 0 0 (variable 4) ∷ command.Ret ∷ []
count_commands = refl

-- k: the returns run 2 * 1 + 2 commands
bound : step_bound count ≡ 4
bound = refl

-- n times nop are 9 + n commands
nops : length (commands (one (record { params = []; results = [] }) (Nop ∷ Nop ∷ Nop ∷ []))) ≡ 12
nops = refl

-- a dead end gives no commands, and the empty second part of a live if does
dead : length (commands (one (record { params = value.I32 ∷ []; results = [] }) (LocalGet 0 ∷ If Empty ∷ Unreachable ∷ Block Empty ∷ End ∷ End ∷ []))) ≡ 13
dead = refl

-- ---- memories

abbrev with_memory : Signature → List WasmType → List Instr → Tree
with_memory type locals items = record {
  types = type ∷ [];
  functions = record { type_index = 0; labels = []; demanded = []; code = record { locals = map (λ kind. record { count = 1; kind = kind }) locals; items = items }; memory = Some 0; table = None } ∷ [];
  globals = [];
  memories = record { pages = 1; reserve = 1; label = label.Public; bytes = [] } ∷ [];
  tables = [];
  exports = [];
}

abbrev i32 : ℕ → Signature
i32 params = record { params = replicate params value.I32; results = value.I32 ∷ [] }

abbrev at_offset : ℕ → MemoryArgument
at_offset offset = record { alignment = 2; offset = offset }

-- two loads: the first at 11, the second at 14
abbrev twice : Tree
twice = with_memory (i32 1) [] (LocalGet 0 ∷ Load access.I32Load (at_offset 0) ∷ Load access.I32Load (at_offset 0) ∷ [])

-- three loads: 22 commands
three_loads : length (commands (with_memory (i32 2) [] (LocalGet 0 ∷ Load access.I32Load (at_offset 0) ∷ LocalGet 1 ∷ Load access.I32Load (at_offset 0) ∷ Integer op.I32Add ∷ Load access.I32Load (at_offset 0) ∷ []))) ≡ 22
three_loads = refl

-- a local, and a load with an offset: 24 commands
offsets : length (commands (with_memory (i32 1) (I32 ∷ []) (LocalGet 0 ∷ Load access.I32Load (at_offset 0) ∷ LocalTee 1 ∷ Load access.I32Load (at_offset 0) ∷ LocalGet 1 ∷ Load access.I32Load (at_offset 4) ∷ Integer op.I32Add ∷ []))) ≡ 24
offsets = refl

-- a sum over words: 37 commands
summed : length (commands (with_memory (i32 2) (I32 ∷ []) (
    Block Empty ∷ LocalGet 1 ∷ Integer op.I32Eqz ∷ BrIf 0 ∷ Loop Empty ∷ LocalGet 0 ∷ Load access.I32Load (at_offset 0) ∷ LocalGet 2 ∷ Integer op.I32Add ∷ LocalSet 2
    ∷ LocalGet 0 ∷ I32Const 4 ∷ Integer op.I32Add ∷ LocalSet 0 ∷ LocalGet 1 ∷ I32Const 4294967295 ∷ Integer op.I32Add ∷ LocalTee 1 ∷ BrIf 0 ∷ End ∷ End ∷ LocalGet 2 ∷ []))) ≡ 37
summed = refl

-- ---- runs

abbrev ran : Program → ℕ → Next Plain → Next Plain
ran program zero next = next
ran program (suc n) (goes s) = ran program n (plain_step program s)
ran program (suc n) next = next

abbrev inc : Tree
inc = one (i32 1) (LocalGet 0 ∷ I32Const 1 ∷ Integer op.I32Add ∷ [])

inc_runs : ran (low_tree inc) 6 (goes (opening (low_tree inc) 0 (record { args = 4294967295 ∷ []; patches = [] }))) ≡ ends (returned (0 ∷ []) [])
unfolding meaning
inc_runs = refl

-- the loop with a parameter runs down to 0
count_runs : ran (low_tree count) 100 (goes (opening (low_tree count) 0 (record { args = 3 ∷ []; patches = [] }))) ≡ ends (returned (0 ∷ []) [])
unfolding meaning
count_runs = refl

-- ---- whole lists of commands, behind the traps

inc_commands : drop 7 (commands inc)
    ≡ jump_to 8 ∷ move 0 2 (variable 0) ∷ move 0 3 (Const 1) ∷ set 0 op.I32Add 4 (variable 2) (variable 3)
    ∷ out_of 0 0 (variable 4) ∷ command.Ret ∷ []
inc_commands = refl

twice_commands : drop 7 (commands twice)
    ≡ jump_to 8 ∷ move 0 3 (variable 1)
    ∷ set_of 0 op.Outside 4 (variable 3) (variable 0) (Const 4) ∷ test_of (variable 4) 3 11
    ∷ load_of 0 access.I32Load 0 5 0 (variable 3)
    ∷ set_of 0 op.Outside 6 (variable 5) (variable 0) (Const 4) ∷ test_of (variable 6) 3 14
    ∷ load_of 0 access.I32Load 0 7 0 (variable 5)
    ∷ out_of 0 0 (variable 7) ∷ command.Ret ∷ []
twice_commands = refl

-- a call in an if without `else`
deep_commands : drop 7 (commands (one (i32 1)
    (LocalGet 0 ∷ If Empty ∷ LocalGet 0 ∷ I32Const 1 ∷ Integer op.I32Sub ∷ Call 0 ∷ Drop ∷ End ∷ I32Const 7 ∷ [])))
    ≡ jump_to 8 ∷ move 0 2 (variable 0) ∷ test_of (variable 2) 10 18
    ∷ move 0 3 (variable 0) ∷ move 0 4 (Const 1) ∷ set 0 op.I32Sub 5 (variable 3) (variable 4)
    ∷ arg_of 0 0 0 (variable 5) ∷ command.Call 0 ∷ move 0 6 (variable 1) ∷ jump_to 17 ∷ jump_to 19
    ∷ jump_to 19 ∷ move 0 7 (Const 7) ∷ out_of 0 0 (variable 7) ∷ command.Ret ∷ []
deep_commands = refl

-- a signed quotient
quotient_commands : drop 7 (commands (one (i32 2) (LocalGet 0 ∷ LocalGet 1 ∷ Integer op.I32DivS ∷ [])))
    ≡ jump_to 8 ∷ move 0 3 (variable 0) ∷ move 0 4 (variable 1)
    ∷ set 0 op.I32Eqz 5 (variable 4) (Const 0) ∷ test_of (variable 5) 1 12
    ∷ set 0 op.I32Eq 6 (variable 3) (Const 2147483648) ∷ set 0 op.I32Eq 7 (variable 4) (Const 4294967295)
    ∷ set 0 op.I32And 8 (variable 6) (variable 7) ∷ test_of (variable 8) 2 16
    ∷ set 0 op.I32DivS 9 (variable 3) (variable 4) ∷ out_of 0 0 (variable 9) ∷ command.Ret ∷ []
quotient_commands = refl

-- a table of branches: its test, the default arm, the other arm; the inner end is dead
table_commands : drop 7 (commands (one (record { params = value.I32 ∷ []; results = [] })
    (Block Empty ∷ Block Empty ∷ LocalGet 0 ∷ BrTable 1 (0 ∷ []) ∷ End ∷ End ∷ [])))
    ≡ jump_to 8 ∷ jump_to 9 ∷ jump_to 10 ∷ move 0 1 (variable 0)
    ∷ set 0 op.I32Eq 2 (variable 1) (Const 0) ∷ test_of (variable 2) 14 13
    ∷ jump_to 16 ∷ jump_to 15 ∷ jump_to 16 ∷ command.Ret ∷ []
table_commands = refl

-- growth within a reserve of two pages
grow_commands : drop 7 (commands (record (with_memory (i32 1) [] (LocalGet 0 ∷ MemoryGrow ∷ [])) {
  memories = record { pages = 1; reserve = 2; label = label.Public; bytes = [] } ∷ [];
}))
    ≡ jump_to 8 ∷ move 0 3 (variable 1)
    ∷ set 0 op.I32Sub 4 (Const 2) (variable 0) ∷ set 0 op.I32GtU 5 (variable 3) (variable 4) ∷ test_of (variable 5) 15 12
    ∷ move 0 6 (variable 0) ∷ set 0 op.I32Add 0 (variable 0) (variable 3) ∷ jump_to 16
    ∷ move 0 6 (Const 4294967295) ∷ out_of 0 0 (variable 6) ∷ command.Ret ∷ []
grow_commands = refl

-- through a table of a function of another type, an empty slot and a function of the type
abbrev through : Tree
through = record {
  types = record { params = []; results = [] } ∷ i32 0 ∷ i32 1 ∷ [];
  functions = record { type_index = 0; labels = []; demanded = []; code = record { locals = []; items = [] }; memory = None; table = None }
      ∷ record { type_index = 1; labels = []; demanded = []; code = record { locals = []; items = I32Const 9 ∷ [] }; memory = None; table = None }
      ∷ record { type_index = 2; labels = []; demanded = true ∷ []; code = record { locals = []; items = LocalGet 0 ∷ CallIndirect 1 ∷ [] }; memory = None; table = Some 0 } ∷ [];
  globals = [];
  memories = [];
  tables = (Some 0 ∷ None ∷ Some 1 ∷ []) ∷ [];
  exports = [];
}

through_commands : drop 7 (commands through)
    ≡ jump_to 8 ∷ command.Ret
    ∷ jump_to 10 ∷ move 0 1 (Const 9) ∷ out_of 0 0 (variable 1) ∷ command.Ret
    ∷ jump_to 14 ∷ move 0 4 (variable 2)
    ∷ set 0 op.I32Eq 5 (variable 4) (Const 0) ∷ test_of (variable 5) 6 17
    ∷ set 0 op.I32Eq 6 (variable 4) (Const 1) ∷ test_of (variable 6) 5 19
    ∷ set 0 op.I32Eq 7 (variable 4) (Const 2) ∷ test_of (variable 7) 21 4
    ∷ command.Call 1 ∷ move 0 8 (variable 0) ∷ jump_to 24
    ∷ out_of 0 0 (variable 8) ∷ command.Ret ∷ []
through_commands = refl

through_demands : (low_tree through).demands ≡ demand.Result 2 0 ∷ []
through_demands = refl

-- an extension by sign: 12 commands
extended : length (commands (one (i32 1) (LocalGet 0 ∷ Integer op.I32Extend8S ∷ []))) ≡ 12
extended = refl

-- a branch to a loop that swaps its two parameters, by way of the locals
abbrev two : Signature
two = record { params = value.I32 ∷ value.I32 ∷ []; results = value.I32 ∷ value.I32 ∷ [] }

swapping_commands : drop 7 (commands (one two
    (LocalGet 0 ∷ LocalGet 1 ∷ Loop (Index 0) ∷ LocalSet 1 ∷ LocalSet 0 ∷ LocalGet 1 ∷ LocalGet 0 ∷ Br 0 ∷ End ∷ [])))
    ≡ jump_to 8 ∷ move 0 4 (variable 0) ∷ move 0 5 (variable 1)
    ∷ move 0 6 (variable 4) ∷ move 0 7 (variable 5) ∷ jump_to 13
    ∷ move 1 1 (variable 7) ∷ move 1 0 (variable 6) ∷ move 1 10 (variable 1) ∷ move 1 11 (variable 0)
    ∷ move 1 6 (variable 10) ∷ move 1 7 (variable 11) ∷ jump_to 12
    ∷ out_of 0 0 (variable 8) ∷ out_of 0 1 (variable 9) ∷ command.Ret ∷ []
swapping_commands = refl

-- ---- rows of a memory

filled_rows : rows_of (replicate 16 0 ++ 5 ∷ replicate 31 0) ≡ record { number = 1; bytes = 5 ∷ replicate 15 0 } ∷ []
filled_rows = refl

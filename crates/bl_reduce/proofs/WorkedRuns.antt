-- Runs of small trees, by computation.
use Rattle.std.proofs.Common.{◌≡◌, ℕ, length, List, [], ◌∷◌, Some, None, refl}
use Rattle.bl_base.specs.Runs.{Next, ends, returned, trapped}
use Rattle.bl_base.specs.declared.names.Label.TheVariants.{Public}
use Rattle.bl_base.specs.declared.trap.Trap.TheVariants as kind
use Rattle.bl_ops.specs.declared.access.AccessKind.TheVariants as access
use Rattle.bl_ops.specs.Numerics.{meaning, traps}
use Rattle.bl_ops.specs.declared.op.Op.TheVariants.{I32Eqz, I32Add, I32DivS, I32RemS, I32Sub}
use Rattle.bl_wasm.specs.declared.instruction.Instr.TheVariants.{Unreachable, Block, Loop, If, End, Br, BrIf, BrTable, Return, Call, CallIndirect, Drop, LocalGet, LocalSet, LocalTee, Load, Store, MemoryGrow, I32Const, Integer}
use Rattle.bl_wasm.specs.declared.types.BlockType.TheVariants.{Empty}
use Rattle.bl_wasm.specs.declared.linked.Tree.{Tree}
use Rattle.bl_reduce.specs.Configurations.{Config}
use Rattle.bl_reduce.proofs.WorkedTrees.{run, HasNotEnded, function, signature, tree_of, one, over}

-- local.get 0, i32.const 1, i32.add
abbrev inc : Tree
inc = one 1 1 0 (LocalGet 0 ∷ I32Const 1 ∷ Integer I32Add ∷ [])

inc_in_five : run inc 5 (4294967295 ∷ []) ≡ ends (returned (0 ∷ []) [])
unfolding meaning traps
inc_in_five = refl

inc_not_in_four : HasNotEnded (run inc 4 (4294967295 ∷ []))
unfolding meaning traps
inc_not_in_four = tt

abbrev div : Tree
div = one 2 1 0 (LocalGet 0 ∷ LocalGet 1 ∷ Integer I32DivS ∷ [])

div_overflows : run div 4 (2147483648 ∷ 4294967295 ∷ []) ≡ ends (trapped kind.Overflow [])
unfolding meaning traps
div_overflows = refl

div_by_zero : run div 4 (1 ∷ 0 ∷ []) ≡ ends (trapped kind.DivideByZero [])
unfolding meaning traps
div_by_zero = refl

rem_of_least : run (one 2 1 0 (LocalGet 0 ∷ LocalGet 1 ∷ Integer I32RemS ∷ [])) 5 (2147483648 ∷ 4294967295 ∷ []) ≡ ends (returned (0 ∷ []) [])
unfolding meaning traps
rem_of_least = refl

-- a function that calls itself, one deeper for each of its argument
abbrev deep : Tree
deep = one 1 1 0 (LocalGet 0 ∷ If Empty ∷ LocalGet 0 ∷ I32Const 1 ∷ Integer I32Sub ∷ Call 0 ∷ Drop ∷ End ∷ I32Const 7 ∷ [])

-- of argument 0: entering, local.get, if, the end of the empty part, i32.const, the return
deep_at_none : run deep 6 (0 ∷ []) ≡ ends (returned (7 ∷ []) [])
unfolding meaning traps
deep_at_none = refl

-- of argument n: 11 * n steps more, of which 7 before each call and 4 behind it are the caller's
deep_at_two : run deep 28 (2 ∷ []) ≡ ends (returned (7 ∷ []) [])
unfolding meaning traps
deep_at_two = refl

-- 1,024 frames
deep_enough : run deep 11259 (1023 ∷ []) ≡ ends (returned (7 ∷ []) [])
unfolding meaning traps
deep_enough = refl

-- the call at depth 1,024 traps in its step
too_deep : run deep 7168 (1024 ∷ []) ≡ ends (trapped kind.StackExhausted [])
unfolding meaning traps
too_deep = refl

-- a loop that counts down: loop, local.get 0, i32.const 1, i32.sub, local.tee 0, br_if 0, end, local.get 0
abbrev count : Tree
count = one 1 1 0 (Loop Empty ∷ LocalGet 0 ∷ I32Const 1 ∷ Integer I32Sub ∷ LocalTee 0 ∷ BrIf 0 ∷ End ∷ LocalGet 0 ∷ [])

-- entering, 6 steps a round (the loop is executed again), the end, local.get, the return
count_down : run count 22 (3 ∷ []) ≡ ends (returned (0 ∷ []) [])
unfolding meaning traps
count_down = refl

-- block, block, local.get 0, br_table 0 1 2, end, i32.const 10, return, end, i32.const 20
abbrev choose : Tree
choose = one 1 1 0 (Block Empty ∷ Block Empty ∷ LocalGet 0 ∷ BrTable 1 (0 ∷ 1 ∷ []) ∷ End ∷ I32Const 10 ∷ Return ∷ End ∷ I32Const 20 ∷ [])

choose_first : run choose 7 (0 ∷ []) ≡ ends (returned (10 ∷ []) [])
choose_first = refl

choose_default : run choose 7 (9 ∷ []) ≡ ends (returned (20 ∷ []) [])
choose_default = refl

-- through a table: slot 0 a function of another type, slot 1 empty, slot 2 a function that returns 9
abbrev through : Tree
through = tree_of (signature 1 1 ∷ signature 0 0 ∷ signature 0 1 ∷ [])
    (function 0 0 (LocalGet 0 ∷ CallIndirect 2 ∷ []) ∷ function 1 0 [] ∷ function 2 0 (I32Const 9 ∷ []) ∷ []) (Some 1 ∷ None ∷ Some 2 ∷ [])

through_two : run through 7 (2 ∷ []) ≡ ends (returned (9 ∷ []) [])
through_two = refl

through_one : run through 3 (1 ∷ []) ≡ ends (trapped kind.UninitializedElement [])
through_one = refl

through_none : run through 3 (0 ∷ []) ≡ ends (trapped kind.TypeMismatch [])
through_none = refl

through_three : run through 3 (3 ∷ []) ≡ ends (trapped kind.UndefinedElement [])
through_three = refl

-- br to the outermost label is a return, with the topmost value
out_of_all : run (one 1 1 0 (Block Empty ∷ I32Const 5 ∷ I32Const 6 ∷ Br 1 ∷ End ∷ I32Const 7 ∷ [])) 5 (0 ∷ []) ≡ ends (returned (6 ∷ []) [])
out_of_all = refl

-- ---- a memory

-- an offset past the memory
far_load : run (over 1 1 1 (1 ∷ 2 ∷ []) (LocalGet 0 ∷ Load access.I32Load (record { alignment = 2; offset = 4294967295 }) ∷ [])) 3 (1 ∷ [])
    ≡ ends (trapped kind.OutOfBounds (record { pages = 1; bytes = 1 ∷ 2 ∷ [] } ∷ []))
far_load = refl

-- the lowest byte first; the last bytes of the memory, and one past them
abbrev loads : Tree
loads = over 1 1 1 (1 ∷ 2 ∷ 3 ∷ 4 ∷ 255 ∷ []) (LocalGet 0 ∷ Load access.I32Load (record { alignment = 2; offset = 0 }) ∷ [])

load_first : run loads 4 (0 ∷ []) ≡ ends (returned (67305985 ∷ []) (record { pages = 1; bytes = 1 ∷ 2 ∷ 3 ∷ 4 ∷ 255 ∷ [] } ∷ []))
load_first = refl

load_last : run loads 4 (1 ∷ []) ≡ ends (returned (4278452994 ∷ []) (record { pages = 1; bytes = 1 ∷ 2 ∷ 3 ∷ 4 ∷ 255 ∷ [] } ∷ []))
load_last = refl

load_past : run loads 3 (2 ∷ []) ≡ ends (trapped kind.OutOfBounds (record { pages = 1; bytes = 1 ∷ 2 ∷ 3 ∷ 4 ∷ 255 ∷ [] } ∷ []))
load_past = refl

load_signed : run (over 1 1 1 (1 ∷ 255 ∷ []) (LocalGet 0 ∷ Load access.I32Load8S (record { alignment = 0; offset = 1 }) ∷ [])) 4 (0 ∷ [])
    ≡ ends (returned (4294967295 ∷ []) (record { pages = 1; bytes = 1 ∷ 255 ∷ [] } ∷ []))
load_signed = refl

-- 2 bytes of the argument at place 1
store_low : run (over 1 1 1 (9 ∷ 9 ∷ 9 ∷ 9 ∷ []) (I32Const 1 ∷ LocalGet 0 ∷ Store access.I32Store16 (record { alignment = 0; offset = 0 }) ∷ LocalGet 0 ∷ [])) 6 (66051 ∷ [])
    ≡ ends (returned (66051 ∷ []) (record { pages = 1; bytes = 9 ∷ 3 ∷ 2 ∷ 9 ∷ [] } ∷ []))
store_low = refl

-- memory.grow up to a reserve of 2 pages
abbrev grows : Tree
grows = over 1 1 2 [] (LocalGet 0 ∷ MemoryGrow ∷ [])

grow_none : run grows 4 (0 ∷ []) ≡ ends (returned (1 ∷ []) (record { pages = 1; bytes = [] } ∷ []))
grow_none = refl

-- what a run returns and the pages of its memory
abbrev ends_with : Next Config → List ℕ
ends_with (ends (returned values (memory ∷ []))) = memory.pages ∷ length memory.bytes ∷ values
ends_with other = []

grow_one : ends_with (run grows 4 (1 ∷ [])) ≡ 2 ∷ 65536 ∷ 1 ∷ []
grow_one = refl

grow_two : run grows 4 (2 ∷ []) ≡ ends (returned (4294967295 ∷ []) (record { pages = 1; bytes = [] } ∷ []))
grow_two = refl

-- the sum of so many numbers from an address on: block, local.get 1, i32.eqz, br_if 0, loop, .., br_if 0, end, end, local.get 2
abbrev sum : Tree
sum = record {
  types = signature 2 1 ∷ [];
  functions = record (function 0 1 (Block Empty ∷ LocalGet 1 ∷ Integer I32Eqz ∷ BrIf 0 ∷ Loop Empty
      ∷ LocalGet 0 ∷ Load access.I32Load (record { alignment = 2; offset = 0 }) ∷ LocalGet 2 ∷ Integer I32Add ∷ LocalSet 2
      ∷ LocalGet 0 ∷ I32Const 4 ∷ Integer I32Add ∷ LocalSet 0 ∷ LocalGet 1 ∷ I32Const 4294967295 ∷ Integer I32Add ∷ LocalTee 1 ∷ BrIf 0
      ∷ End ∷ End ∷ LocalGet 2 ∷ [])) { memory = Some 0 } ∷ [];
  globals = [];
  memories = record { pages = 1; reserve = 1; label = Public; bytes = 1 ∷ 0 ∷ 0 ∷ 0 ∷ 2 ∷ 0 ∷ 0 ∷ 0 ∷ 3 ∷ 0 ∷ 0 ∷ 0 ∷ [] } ∷ [];
  tables = [];
  exports = [];
}

-- entering, block, 3 items, 3 rounds of loop and 14 items, both ends, local.get, the return
sum_of_three : ends_with (run sum 54 (0 ∷ 3 ∷ [])) ≡ 1 ∷ 12 ∷ 6 ∷ []
unfolding meaning traps
sum_of_three = refl

-- the br_if leaves the block
sum_of_none : ends_with (run sum 7 (0 ∷ 0 ∷ [])) ≡ 1 ∷ 12 ∷ 0 ∷ []
unfolding meaning traps
sum_of_none = refl

unreachable : run (one 0 1 0 (Unreachable ∷ Integer I32Add ∷ [])) 2 [] ≡ ends (trapped kind.Unreachable [])
unreachable = refl

-- Runs of small trees: items on values, globals and memories, ifs with two parts, patches, and calls at the greatest depth.
use Rattle.std.proofs.Common.{◌≡◌, ℕ, true, false, List, [], ◌∷◌, ◌++◌, Some, refl}
use Rattle.bl_base.specs.Runs.{ends, returned, trapped}
use Rattle.bl_base.specs.declared.names.ValueType.TheVariants as value
use Rattle.bl_base.specs.declared.names.Label.TheVariants.{Public}
use Rattle.bl_base.specs.declared.trap.Trap.TheVariants as kind
use Rattle.bl_ops.specs.declared.access.AccessKind.TheVariants as access
use Rattle.bl_ops.specs.Numerics.{meaning, traps}
use Rattle.bl_ops.specs.declared.op.Op.TheVariants.{I32Add, I32Sub, I64Add}
use Rattle.bl_wasm.specs.declared.instruction.Instr.{Instr}
use Rattle.bl_wasm.specs.declared.instruction.Instr.TheVariants.{Nop, If, Else, End, Call, CallIndirect, Select, LocalGet, GlobalGet, GlobalSet, Load, Store, MemorySize, I32Const, I64Const, Integer}
use Rattle.bl_wasm.specs.declared.types.BlockType.TheVariants.{Value}
use Rattle.bl_wasm.specs.declared.types.WasmType.TheVariants as type
use Rattle.bl_wasm.specs.declared.linked.Tree.{Tree}
use Rattle.bl_reduce.proofs.WorkedTrees.{run, run_from, function, signature, tree_of, one, over}

-- local.get 0, local.get 1, local.get 2, select
abbrev selects : Tree
selects = one 3 1 0 (LocalGet 0 ∷ LocalGet 1 ∷ LocalGet 2 ∷ Select ∷ [])

select_first : run selects 6 (10 ∷ 20 ∷ 1 ∷ []) ≡ ends (returned (10 ∷ []) [])
unfolding meaning
select_first = refl

select_second : run selects 6 (10 ∷ 20 ∷ 0 ∷ []) ≡ ends (returned (20 ∷ []) [])
unfolding meaning
select_second = refl

-- global.get 0, i32.const 1, i32.add, global.set 0, global.get 0, of a global that is 5 at first
abbrev counter : Tree
counter = record (one 0 1 0 (GlobalGet 0 ∷ I32Const 1 ∷ Integer I32Add ∷ GlobalSet 0 ∷ GlobalGet 0 ∷ [])) {
  globals = record { kind = value.I32; mutable = true; initial = 5; label = Public; demanded = false } ∷ [];
}

counted : run counter 7 [] ≡ ends (returned (6 ∷ []) [])
unfolding meaning traps
counted = refl

-- memory.size, nop
sized : run (over 0 2 2 [] (MemorySize ∷ Nop ∷ [])) 4 [] ≡ ends (returned (2 ∷ []) (record { pages = 2; bytes = [] } ∷ []))
sized = refl

-- -1 and 1 as numbers of 64 bits
sum_of_two : run (one 0 1 0 (I64Const 18446744073709551615 ∷ I64Const 1 ∷ Integer I64Add ∷ [])) 5 [] ≡ ends (returned (0 ∷ []) [])
unfolding meaning traps
sum_of_two = refl

-- a number of 64 bits, and then the upper half of it by its sign
upper_half : run (over 0 1 1 (0 ∷ 0 ∷ 0 ∷ 0 ∷ 0 ∷ 0 ∷ 0 ∷ 0 ∷ 9 ∷ [])
    (I32Const 0 ∷ I64Const 9843086184167632639 ∷ Store access.I64Store (record { alignment = 3; offset = 0 })
    ∷ I32Const 4 ∷ Load access.I64Load32S (record { alignment = 2; offset = 0 }) ∷ [])) 7 []
    ≡ ends (returned (18446744071706356411 ∷ []) (record { pages = 1; bytes = 255 ∷ 238 ∷ 221 ∷ 204 ∷ 187 ∷ 170 ∷ 153 ∷ 136 ∷ 9 ∷ [] } ∷ []))
upper_half = refl

-- the eight bytes from place 1 on
load_eight : run (over 0 1 1 (1 ∷ 2 ∷ 3 ∷ 4 ∷ 5 ∷ 6 ∷ 7 ∷ 8 ∷ 9 ∷ []) (I32Const 1 ∷ Load access.I64Load (record { alignment = 0; offset = 0 }) ∷ [])) 4 []
    ≡ ends (returned (650777868590383874 ∷ []) (record { pages = 1; bytes = 1 ∷ 2 ∷ 3 ∷ 4 ∷ 5 ∷ 6 ∷ 7 ∷ 8 ∷ 9 ∷ [] } ∷ []))
load_eight = refl

-- ---- an if with an else part

abbrev chooses : Tree
chooses = one 1 1 0 (LocalGet 0 ∷ If (Value type.I32) ∷ I32Const 11 ∷ Else ∷ I32Const 22 ∷ End ∷ [])

chooses_then : run chooses 6 (1 ∷ []) ≡ ends (returned (11 ∷ []) [])
chooses_then = refl

chooses_else : run chooses 6 (0 ∷ []) ≡ ends (returned (22 ∷ []) [])
chooses_else = refl

-- one in the then part of another
abbrev nested : Tree
nested = one 1 1 0 (LocalGet 0 ∷ If (Value type.I32) ∷ I32Const 0 ∷ If (Value type.I32) ∷ I32Const 1 ∷ Else ∷ I32Const 2 ∷ End ∷ Else ∷ I32Const 3 ∷ End ∷ [])

nested_else : run nested 9 (5 ∷ []) ≡ ends (returned (2 ∷ []) [])
nested_else = refl

outer_else : run nested 6 (0 ∷ []) ≡ ends (returned (3 ∷ []) [])
outer_else = refl

-- ---- patches

-- the later one over the earlier one
overlapping : run_from (over 0 1 1 (0 ∷ 0 ∷ 0 ∷ 0 ∷ []) (I32Const 0 ∷ Load access.I32Load (record { alignment = 2; offset = 0 }) ∷ [])) 4
    (record { args = []; patches = record { memory = 0; offset = 1; bytes = 7 ∷ 8 ∷ [] } ∷ record { memory = 0; offset = 2; bytes = 9 ∷ [] } ∷ [] })
    ≡ ends (returned (591616 ∷ []) (record { pages = 1; bytes = 0 ∷ 7 ∷ 9 ∷ 0 ∷ [] } ∷ []))
overlapping = refl

-- ---- calls through a table at the greatest depth

-- calls itself, one deeper for each of its argument, and at 0 through slot 0, where it stands itself
abbrev deep_through : ℕ → List Instr → Tree
deep_through wanted given = tree_of (signature 1 1 ∷ signature 0 1 ∷ [])
    (function 0 0 (LocalGet 0 ∷ If (Value type.I32) ∷ LocalGet 0 ∷ I32Const 1 ∷ Integer I32Sub ∷ Call 0 ∷ Else ∷ (given ++ I32Const 0 ∷ CallIndirect wanted ∷ End ∷ [])) ∷ [])
    (Some 0 ∷ [])

-- the type is tested before the depth
wrong_type_at_depth : run (deep_through 1 []) 7166 (1023 ∷ []) ≡ ends (trapped kind.TypeMismatch [])
unfolding meaning traps
wrong_type_at_depth = refl

right_type_at_depth : run (deep_through 0 (I32Const 0 ∷ [])) 7167 (1023 ∷ []) ≡ ends (trapped kind.StackExhausted [])
unfolding meaning traps
right_type_at_depth = refl

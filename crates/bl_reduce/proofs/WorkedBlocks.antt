-- Runs of small trees whose blocks, branches and functions take and leave several values; extensions by sign.
use Rattle.std.proofs.Common.{◌≡◌, [], ◌∷◌, refl}
use Rattle.bl_base.specs.Runs.{ends, returned}
use Rattle.bl_ops.specs.Numerics.{meaning, traps}
use Rattle.bl_ops.specs.declared.op.Op.TheVariants.{I32Add, I32Sub, I32Extend8S, I32Extend16S, I64Extend32S}
use Rattle.bl_wasm.specs.declared.instruction.Instr.TheVariants.{Nop, Block, Loop, If, Else, End, Br, BrIf, Call, Drop, LocalGet, LocalTee, I32Const, Integer}
use Rattle.bl_wasm.specs.declared.types.BlockType.TheVariants.{Index}
use Rattle.bl_wasm.specs.declared.linked.Tree.{Tree}
use Rattle.bl_reduce.proofs.WorkedTrees.{run, function, signature, tree_of, one}

-- ---- extensions by sign

extend8 : run (one 1 1 0 (LocalGet 0 ∷ Integer I32Extend8S ∷ [])) 4 (200 ∷ []) ≡ ends (returned (4294967240 ∷ []) [])
unfolding meaning traps
extend8 = refl

extend16 : run (one 1 1 0 (LocalGet 0 ∷ Integer I32Extend16S ∷ [])) 4 (32768 ∷ []) ≡ ends (returned (4294934528 ∷ []) [])
unfolding meaning traps
extend16 = refl

extend32 : run (one 1 1 0 (LocalGet 0 ∷ Integer I64Extend32S ∷ [])) 4 (2147483648 ∷ []) ≡ ends (returned (18446744071562067968 ∷ []) [])
unfolding meaning traps
extend32 = refl

-- ---- several values

-- local.get 1, local.get 0: two results, in order
swapped : run (one 2 2 0 (LocalGet 1 ∷ LocalGet 0 ∷ [])) 4 (3 ∷ 4 ∷ []) ≡ ends (returned (4 ∷ 3 ∷ []) [])
swapped = refl

-- local.get 0, local.get 1, call 1, i32.sub: the called function swaps its arguments
swapping : run (tree_of (signature 2 1 ∷ signature 2 2 ∷ [])
    (function 0 0 (LocalGet 0 ∷ LocalGet 1 ∷ Call 1 ∷ Integer I32Sub ∷ []) ∷ function 1 0 (LocalGet 1 ∷ LocalGet 0 ∷ []) ∷ []) []) 10 (3 ∷ 4 ∷ []) ≡ ends (returned (1 ∷ []) [])
unfolding meaning traps
swapping = refl

-- a loop with a parameter, which a branch to it takes: entering, local.get, 6 steps a round, the end, the return
abbrev count_down : Tree
count_down = one 1 1 0 (LocalGet 0 ∷ Loop (Index 0) ∷ I32Const 4294967295 ∷ Integer I32Add ∷ LocalTee 0 ∷ LocalGet 0 ∷ BrIf 0 ∷ End ∷ [])

counted_down : run count_down 22 (3 ∷ []) ≡ ends (returned (0 ∷ []) [])
unfolding meaning traps
counted_down = refl

-- a block of two parameters and one result: a branch leaves its topmost value, and the one below the block stays
abbrev leaves : Tree
leaves = one 2 1 0 (I32Const 100 ∷ LocalGet 0 ∷ LocalGet 1 ∷ Block (Index 0) ∷ I32Const 7 ∷ LocalGet 0 ∷ Br 0 ∷ End ∷ Integer I32Add ∷ [])

left_behind : run leaves 10 (3 ∷ 4 ∷ []) ≡ ends (returned (103 ∷ []) [])
unfolding meaning traps
left_behind = refl

-- an if whose parts have two parameters and two results: one takes them and leaves two others by a return, the other keeps them
abbrev kept : Tree
kept = one 2 2 0 (LocalGet 0 ∷ LocalGet 1 ∷ LocalGet 0 ∷ If (Index 0) ∷ Drop ∷ Drop ∷ I32Const 8 ∷ I32Const 9 ∷ Br 1 ∷ Else ∷ Nop ∷ End ∷ [])

kept_not : run kept 10 (3 ∷ 4 ∷ []) ≡ ends (returned (8 ∷ 9 ∷ []) [])
kept_not = refl

kept_both : run kept 8 (0 ∷ 4 ∷ []) ≡ ends (returned (0 ∷ 4 ∷ []) [])
kept_both = refl

-- without an else part they are the results
kept_without : run (one 2 2 0 (LocalGet 0 ∷ LocalGet 1 ∷ LocalGet 0 ∷ If (Index 0) ∷ Drop ∷ Drop ∷ I32Const 8 ∷ I32Const 9 ∷ End ∷ [])) 7 (0 ∷ 4 ∷ [])
    ≡ ends (returned (0 ∷ 4 ∷ []) [])
kept_without = refl

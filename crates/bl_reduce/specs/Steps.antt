-- One step of a run (WebAssembly 1.0, sections 4.2.13 and 4.4).
use Rattle.std.specs.Prelude.{List, [], ◌∷◌, map}
use Rattle.bl_base.specs.Runs.{Next, stuck}
use Rattle.bl_base.specs.declared.trap.Trap.TheVariants as trap_kind
use Rattle.bl_ops.specs.Numerics.{meaning}
use Rattle.bl_ops.specs.declared.op.Op.TheVariants as op
use Rattle.bl_wasm.specs.Linked.{function_type}
use Rattle.bl_wasm.specs.Typing.{expanded}
use Rattle.bl_wasm.specs.declared.instruction.Instr.{Instr}
use Rattle.bl_wasm.specs.declared.instruction.Instr.TheVariants.{Unreachable, Nop, Block, Loop, If, Else, End, Br, BrIf, BrTable, Return, Call, CallIndirect, Drop, Select, LocalGet, LocalSet, LocalTee, GlobalGet, GlobalSet, Load, Store, FloatAccess, MemorySize, MemoryGrow, I32Const, I64Const, F32Const, F64Const, Integer, Float}
use Rattle.bl_wasm.specs.declared.linked.Tree.{Tree}
use Rattle.bl_reduce.specs.Configurations.{Config, entering, running, State, go, trap, known, pop, push, with_rest}
use Rattle.bl_reduce.specs.Numeric.{operate}
use Rattle.bl_reduce.specs.Variables.{local_get, local_set, local_tee, global_get, global_set}
use Rattle.bl_reduce.specs.Memory.{load, store, memory_size, memory_grow}
use Rattle.bl_reduce.specs.Control.{enter_block, enter_loop, enter_if, reach_end, reach_else, branch, branch_if, branch_by}
use Rattle.bl_reduce.specs.Returns.{return}
use Rattle.bl_reduce.specs.Calls.{enter, call, call_indirect}

-- executing one item; the state has what stands behind it left
abbrev pub execute : Tree → Instr → State → Next Config
-- numeric instructions (section 4.4.1)
execute tree (I32Const n) state = push n state
execute tree (I64Const n) state = push n state
execute tree (Integer op) state = operate op state
-- parametric instructions (section 4.4.2)
execute tree Drop state = pop state (λ value state. go state)
execute tree Select state = pop state (λ c state. pop state (λ b state. pop state (λ a state. push (meaning op.Select a b c) state)))
-- variable instructions (section 4.4.3)
execute tree (LocalGet x) state = local_get x state
execute tree (LocalSet x) state = local_set x state
execute tree (LocalTee x) state = local_tee x state
execute tree (GlobalGet x) state = global_get x state
execute tree (GlobalSet x) state = global_set x state
-- memory instructions (section 4.4.4)
execute tree (Load kind argument) state = load kind argument state
execute tree (Store kind argument) state = store kind argument state
execute tree MemorySize state = memory_size state
execute tree MemoryGrow state = memory_grow tree state
-- control instructions (sections 4.4.5 and 4.4.6); the type index of a block is in range
execute tree Nop state = go state
execute tree Unreachable state = trap trap_kind.Unreachable state
execute tree (Block immediate) state =
    known (expanded (map function_type tree.types) immediate) (λ type. enter_block type state.frame.rest state)
execute tree (Loop immediate) state =
    known (expanded (map function_type tree.types) immediate) (λ type. enter_loop immediate type state)
execute tree (If immediate) state =
    known (expanded (map function_type tree.types) immediate) (λ type. enter_if type state)
execute tree Else state = reach_else state
execute tree End state = reach_end state
execute tree (Br l) state = branch l state
execute tree (BrIf l) state = branch_if l state
execute tree (BrTable default labels) state = branch_by labels default state
execute tree Return state = return state
execute tree (Call number) state = call tree number state
execute tree (CallIndirect type_index) state = call_indirect tree type_index state
-- floats aren't in this profile
execute tree (FloatAccess kind argument) state = stuck
execute tree (F32Const bits) state = stuck
execute tree (F64Const bits) state = stuck
execute tree (Float op) state = stuck

-- a step of a frame: its next item, or its end, which is a return (section 4.4.7)
abbrev pub frame_step : Tree → List Instr → State → Next Config
frame_step tree [] state = return state
frame_step tree (item ∷ rest) state = execute tree item (with_rest rest state)

-- one step
abbrev pub source_step : Tree → Config → Next Config
source_step tree (entering store number arguments callers) = enter tree store number arguments callers
source_step tree (running state) = frame_step tree state.frame.rest state

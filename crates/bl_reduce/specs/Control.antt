-- Control instructions but for calls (WebAssembly 1.0, sections 4.4.5 and 4.4.6; blocks with parameters and several results,
-- version 2.0, sections 4.4.8 and 4.4.9).
use Rattle.std.specs.Prelude.{ℕ, ◌+◌, ◌==◌, if◌then◌else◌, List, [], ◌∷◌, ◌++◌, length, take, drop, slice_get, Option, Some, None, unwrap_or}
use Rattle.bl_base.specs.Runs.{Next, stuck}
use Rattle.bl_wasm.specs.OpenConstructs.{Construct, open_behind}
use Rattle.bl_wasm.specs.declared.instruction.Instr.{Instr}
use Rattle.bl_wasm.specs.declared.instruction.Instr.TheVariants.{Loop, Else, End}
use Rattle.bl_wasm.specs.declared.types.BlockType.{BlockType}
use Rattle.bl_wasm.specs.declared.types.FuncType.{FuncType}
use Rattle.bl_reduce.specs.Configurations.{ControlLabel, State, Config, go, pop}
use Rattle.bl_reduce.specs.Returns.{return}

-- ---- the parts of a construct in a flat list of items

-- what stands behind the `end` of a construct, from a place in it where these constructs are open within it
abbrev pub items_behind_end : List Construct → List Instr → List Instr
items_behind_end inner [] = []
items_behind_end [] (End ∷ items) = items
items_behind_end inner (item ∷ items) = items_behind_end (unwrap_or (open_behind item inner) inner) items

-- the else part of an if with its `end`, from a place in the then part where these constructs are open within it: what stands
-- behind `else`; where there is no `else`, an empty part
abbrev pub items_of_else : List Construct → List Instr → List Instr
items_of_else inner [] = []
items_of_else [] (Else ∷ items) = items
items_of_else [] (End ∷ items) = End ∷ items
items_of_else inner (item ∷ items) = items_of_else (unwrap_or (open_behind item inner) inner) items

-- ---- blocks (section 4.4.6)

-- entering items with a label: how many values a branch to it takes, how many are taken along, what is executed after such a
-- branch, and the items
abbrev pub enter_with : ℕ → ℕ → List Instr → List Instr → State → Next Config
enter_with arity count continuation inside state = go (record state {
  frame = record state.frame {
    labels = record { arity = arity; continuation = continuation; below = drop count state.frame.values } ∷ state.frame.labels;
    values = take count state.frame.values;
    rest = inside;
  };
})

-- block: its parameters are taken along; after a branch to it, what stands behind its end
abbrev pub enter_block : FuncType → List Instr → State → Next Config
enter_block type inside state = enter_with (length type.results) (length type.params) (items_behind_end [] state.frame.rest) inside state

-- loop: its parameters are taken along; after a branch to it, the loop again
abbrev pub enter_loop : BlockType → FuncType → State → Next Config
enter_loop immediate type state =
    enter_with (length type.params) (length type.params) (Loop immediate ∷ state.frame.rest) state.frame.rest state

-- if: a block of its then part where the condition isn't 0, else of its else part
abbrev pub enter_if : FuncType → State → Next Config
enter_if type state = pop state (λ condition state.
    if condition == 0 then enter_block type (items_of_else [] state.frame.rest) state else enter_block type state.frame.rest state)

-- the end of a block, loop or part of an if is reached: its label is taken off, and its values are left
abbrev pub leave_label : List ControlLabel → List Instr → State → Next Config
leave_label [] rest state = stuck
leave_label (label ∷ labels) rest state = go (record state {
  frame = record state.frame {
    labels = labels;
    values = state.frame.values ++ label.below;
    rest = rest;
  };
})

-- `end`
abbrev pub reach_end : State → Next Config
reach_end state = leave_label state.frame.labels state.frame.rest state

-- `else`: the end of the then part
abbrev pub reach_else : State → Next Config
reach_else state = leave_label state.frame.labels (items_behind_end [] state.frame.rest) state

-- ---- branches (section 4.4.5)

-- to a label of the frame: the labels within go with it, and with their values; or to the outermost one, which is the
-- function's
abbrev pub branch_to : Option ControlLabel → ℕ → State → Next Config
branch_to (Some label) l state = go (record state {
  frame = record state.frame {
    labels = drop (l + 1) state.frame.labels;
    values = take label.arity state.frame.values ++ label.below;
    rest = label.continuation;
  };
})
branch_to None l state = if l == length state.frame.labels then return state else stuck

-- br
abbrev pub branch : ℕ → State → Next Config
branch l state = branch_to (slice_get state.frame.labels l) l state

-- br_if
abbrev pub branch_if : ℕ → State → Next Config
branch_if l state = pop state (λ condition state. if condition == 0 then go state else branch l state)

-- br_table
abbrev pub branch_by : List ℕ → ℕ → State → Next Config
branch_by labels default state = pop state (λ index state. branch (unwrap_or (slice_get labels index) default) state)

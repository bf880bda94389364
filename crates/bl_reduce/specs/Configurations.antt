-- Configurations of a run (WebAssembly 1.0, sections 4.2.3, 4.2.12 and 4.2.13): a store, the frames of the calls that have
-- begun, and what is left to execute. The standard's one stack is cut at its labels and frames.
use Rattle.std.specs.Prelude.{ℕ, List, [], ◌∷◌, Option, Some, None}
use Rattle.bl_base.specs.Runs.{MemoryState, Next, goes, ends, stuck, trapped}
use Rattle.bl_base.specs.declared.trap.Trap.{Trap}
use Rattle.bl_wasm.specs.declared.instruction.Instr.{Instr}
use Rattle.bl_wasm.specs.declared.linked.Function.{Function}

-- the memories and the values of the globals, by their numbers (section 4.2.3)
pub record Store : Type 0 where
  pub memories : List MemoryState
  pub globals : List ℕ

-- a block, loop or if that was entered: how many values a branch to it takes, what is executed after such a branch, and the
-- values below it, topmost first (section 4.2.12)
pub record ControlLabel : Type 0 where
  pub arity : ℕ
  pub continuation : List Instr
  pub below : List ℕ

-- a function that was entered: its number, itself, how many values it returns, its locals by their indices, its labels
-- innermost first, the values above the innermost label, topmost first, and the items that are left (section 4.2.12)
pub record Frame : Type 0 where
  pub number : ℕ
  pub function : Function
  pub arity : ℕ
  pub locals : List ℕ
  pub labels : List ControlLabel
  pub values : List ℕ
  pub rest : List Instr

-- a frame that executes; its callers stand below it, innermost first, each at what is left behind its call
pub record State : Type 0 where
  pub store : Store
  pub frame : Frame
  pub callers : List Frame

-- a function is about to be entered with its arguments, or a frame executes (section 4.2.13)
pub data Config : Type 0 where
  entering : (store : Store) → (number : ℕ) → (arguments : List ℕ) → (callers : List Frame) → Config
  running : (state : State) → Config

-- ---- what steps are said in

-- the run goes on from a state
abbrev pub go : State → Next Config
go state = goes (running state)

-- the run ends by a trap
abbrev pub trap : Trap → State → Next Config
trap kind state = ends (trapped kind state.store.memories)

-- the state with other values, other labels or other items left in its frame
abbrev pub with_values : List ℕ → State → State
with_values values state = record state { frame = record state.frame { values = values } }

abbrev pub with_rest : List Instr → State → State
with_rest rest state = record state { frame = record state.frame { rest = rest } }

-- what there is goes into the step; where there is nothing, there is no step
abbrev pub known : {A : Type 0} → Option A → (A → Next Config) → Next Config
known None step = stuck
known (Some x) step = step x

-- the topmost of these values is taken off
abbrev pub pop_from : List ℕ → State → (ℕ → State → Next Config) → Next Config
pop_from [] state step = stuck
pop_from (value ∷ below) state step = step value (with_values below state)

-- a value is taken off the stack (section 4.2.12)
abbrev pub pop : State → (ℕ → State → Next Config) → Next Config
pop state step = pop_from state.frame.values state step

-- a value is put on the stack
abbrev pub push : ℕ → State → Next Config
push value state = go (with_values (value ∷ state.frame.values) state)

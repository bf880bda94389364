-- When a configuration is typed (WebAssembly 1.0, appendix A.5, "Soundness"): its values have the types of a typing of their
-- function's body. The entering of a function with arguments that fit is typed, a step keeps it, and what is typed has a step.
use Rattle.std.specs.Prelude.{◌≡◌, ℕ, ◌*◌, ◌^◌, ◌<◌, ◌≤◌, ◌++◌, List, [], ◌∷◌, length, map, drop, reverse, slice_get, Some}
use Rattle.std.specs.List.{AllZip}
use Rattle.bl_base.specs.Fits.{AreBytes, ArgumentFits}
use Rattle.bl_base.specs.Quantity.{most_calls}
use Rattle.bl_base.specs.Runs.{MemoryState, Outcome, returned, trapped, Next, goes, ends, stuck}
use Rattle.bl_base.specs.declared.names.ValueType.{ValueType}
use Rattle.bl_wasm.specs.Linked.{all_locals, context}
use Rattle.bl_wasm.specs.Typing.{Context, Open, Types, integer, taken_by}
use Rattle.bl_wasm.specs.declared.instruction.Instr.{Instr}
use Rattle.bl_wasm.specs.declared.types.WasmType.{WasmType}
use Rattle.bl_wasm.specs.declared.types.WasmType.TheVariants.{I32, I64, F32, F64}
use Rattle.bl_wasm.specs.declared.linked.Signature.{Signature}
use Rattle.bl_wasm.specs.declared.linked.Function.{Function}
use Rattle.bl_wasm.specs.declared.linked.Global.{Global}
use Rattle.bl_wasm.specs.declared.linked.Memory.{Memory}
use Rattle.bl_wasm.specs.declared.linked.Tree.{Tree}
use Rattle.bl_reduce.specs.Configurations.{Store, ControlLabel, Frame, State, Config, entering, running}

-- ---- values and stores

-- a value is one of a type: unsigned, below two to its width; a float by its bits
abbrev pub IsValue : WasmType → ℕ → Type 0
IsValue I32 value = value < 2 ^ 32
IsValue I64 value = value < 2 ^ 64
IsValue F32 value = value < 2 ^ 32
IsValue F64 value = value < 2 ^ 64

-- values, topmost first, are of these types, the last of which is the topmost one's
abbrev pub AreValues : List WasmType → List ℕ → Type 0
AreValues types values = AllZip IsValue (reverse types) values

-- a memory of the tree at some time of a run
pub record IsMemoryState (memory : Memory) (state : MemoryState) : Type 0 where
  pub most : state.pages ≤ memory.reserve
  pub size : length state.bytes ≡ state.pages * 65536
  pub bytes : AreBytes state.bytes

-- a value of a global
abbrev pub IsGlobalValue : Global → ℕ → Type 0
IsGlobalValue global value = ArgumentFits global.kind value

pub record IsStore (tree : Tree) (store : Store) : Type 0 where
  pub memories : AllZip IsMemoryState tree.memories store.memories
  pub globals : AllZip IsGlobalValue tree.globals store.globals

-- ---- places of a body

-- items are what is left of a body at a place where these constructs are open, and have a typing that begins with these
-- operands
pub record IsRest (c : Context) (body : List Instr) (open_ones : List Open) (stack : List WasmType) (rest : List Instr) : Type 0 where
  pub place : ℕ
  pub inside : place ≤ length body
  pub left : rest ≡ drop place body
  pub later : List (List WasmType)
  pub typing : Types c open_ones rest (stack ∷ later)

-- a label is that of an open construct: a branch takes its types, and goes on at a place outside of it where they lie on the
-- operands below it
pub record IsLabel (c : Context) (body : List Instr) (one : Open) (outer : List Open) (label : ControlLabel) : Type 0 where
  pub arity : label.arity ≡ length (taken_by one.kind one.type)
  pub continuation : IsRest c body outer (one.lower ++ taken_by one.kind one.type) label.continuation
  pub below : AreValues one.lower label.below

-- labels are those of the open constructs, innermost first
abbrev pub AreLabels : Context → List Instr → List Open → List ControlLabel → Type 0
AreLabels c body [] [] = Unit {0}
AreLabels c body (one ∷ outer) (label ∷ labels) = IsLabel c body one outer label × AreLabels c body outer labels
AreLabels c body open_ones labels = ⊥

-- ---- frames

-- a frame of a function of that type, whose values have these types above the innermost label
pub record IsFrame (tree : Tree) (type : Signature) (open_ones : List Open) (stack : List WasmType) (frame : Frame) : Type 0 where
  pub exists : slice_get tree.functions frame.number ≡ Some frame.function
  pub typed : slice_get tree.types frame.function.type_index ≡ Some type
  pub arity : frame.arity ≡ length type.results
  pub locals : AllZip IsValue (all_locals type frame.function) frame.locals
  pub labels : AreLabels (context tree type frame.function) frame.function.code.items open_ones frame.labels
  pub values : AreValues stack frame.values

-- what is left of a frame's body begins with operands of these types
abbrev pub BeginsWith : Tree → Signature → List Open → List WasmType → Frame → Type 0
BeginsWith tree type open_ones stack frame = IsRest (context tree type frame.function) frame.function.code.items open_ones stack frame.rest

-- a frame that called a function, and goes on with that function's results on its values
pub record IsCaller (tree : Tree) (type : Signature) (awaited : List ValueType) (frame : Frame) : Type 0 where
  pub open_ones : List Open
  pub stack : List WasmType
  pub frame_is : IsFrame tree type open_ones stack frame
  pub begins : BeginsWith tree type open_ones (stack ++ map integer awaited) frame

-- callers, innermost first: each awaits the results of the function within, and the outermost function's are the run's
abbrev pub AreCallers : Tree → List ValueType → List ValueType → List Frame → Type 0
AreCallers tree results awaited [] = awaited ≡ results
AreCallers tree results awaited (frame ∷ callers) =
    (type : Signature) × IsCaller tree type awaited frame × AreCallers tree results type.results callers

-- ---- configurations

-- a function is about to be entered
pub record IsEntering (tree : Tree) (results : List ValueType) (store : Store) (number : ℕ) (arguments : List ℕ)
    (callers : List Frame) : Type 0 where
  pub store_is : IsStore tree store
  pub function : Function
  pub exists : slice_get tree.functions number ≡ Some function
  pub type : Signature
  pub typed : slice_get tree.types function.type_index ≡ Some type
  pub arguments_are : AllZip ArgumentFits type.params arguments
  pub callers_are : AreCallers tree results type.results callers
  pub depth : length callers < most_calls

-- a frame executes
pub record IsRunning (tree : Tree) (results : List ValueType) (state : State) : Type 0 where
  pub store_is : IsStore tree state.store
  pub type : Signature
  pub open_ones : List Open
  pub stack : List WasmType
  pub frame_is : IsFrame tree type open_ones stack state.frame
  pub begins : BeginsWith tree type open_ones stack state.frame
  pub callers_are : AreCallers tree results type.results state.callers
  pub depth : length state.callers < most_calls

-- a configuration of a run whose function returns values of these types
abbrev pub IsTyped : Tree → List ValueType → Config → Type 0
IsTyped tree results (entering store number arguments callers) = IsEntering tree results store number arguments callers
IsTyped tree results (running state) = IsRunning tree results state

-- how such a run ends: with values of these types, and with memories of the tree
abbrev pub IsTypedEnd : Tree → List ValueType → Outcome → Type 0
IsTypedEnd tree results (returned values memories) = AllZip ArgumentFits results values × AllZip IsMemoryState tree.memories memories
IsTypedEnd tree results (trapped kind memories) = AllZip IsMemoryState tree.memories memories

-- a step of such a run: there is one, to a configuration of it or to its end
abbrev pub IsTypedStep : Tree → List ValueType → Next Config → Type 0
IsTypedStep tree results (goes config) = IsTyped tree results config
IsTypedStep tree results (ends outcome) = IsTypedEnd tree results outcome
IsTypedStep tree results stuck = ⊥

-- A configuration and a plain state that stand for each other.
use Rattle.std.specs.Prelude.{◌≡◌, ◌⊎◌, ℕ, option_and_then, Option, suc, ◌+◌, ◌≤◌, ◌<◌, List, [], ◌∷◌, ◌++◌, length, map, take, reverse, replicate, Some, slice_get}
use Rattle.std.specs.List.{AllZip}
use Rattle.bl_wasm.specs.Linked.{function_type}
use Rattle.bl_wasm.specs.Typing.{expanded}
use Rattle.bl_wasm.specs.Validity.{locals_of}
use Rattle.bl_wasm.specs.declared.types.BlockType.{BlockType}
use Rattle.bl_wasm.specs.declared.types.FuncType.{FuncType}
use Rattle.bl_wasm.specs.declared.linked.Signature.{Signature}
use Rattle.bl_wasm.specs.declared.linked.Function.{Function}
use Rattle.bl_wasm.specs.declared.linked.Memory.{Memory}
use Rattle.bl_wasm.specs.declared.linked.Tree.{Tree}
use Rattle.bl_reduce.specs.TypedConfigurations.{IsMemoryState}
use Rattle.bl_access.specs.Templates.{jump_to, shift}
use Rattle.bl_program.specs.Steps.{Registers, Plain, depth}
use Rattle.bl_program.specs.declared.command.Command.TheVariants.{Trap}
use Rattle.bl_program.specs.declared.command.Operand.{Operand}
use Rattle.bl_program.specs.declared.command.Operand.TheVariants.{Var, Const}
use Rattle.bl_lower.proofs.CodeLayout.{HasAt, live, target_point, floor, IsLaidOut, Stand}
use Rattle.bl_lower.proofs.Machine.{space_of, Program}
use Rattle.bl_emit.specs.Constructs.{reads, moves, mark_of, Target, point, taken, first_to}
use Rattle.bl_emit.specs.Shapes.{Shape, local, param, result, bottom, result_reads}
use Rattle.bl_reduce.specs.Configurations.{Store, ControlLabel, Frame, State, Config, entering, running}
use Rattle.bl_base.specs.Runs.{MemoryState}
use Rattle.bl_base.specs.Trap.{kinds}
use Rattle.bl_emit.specs.Numbers.{slot_of}

-- what an operand reads: a constant, or a variable of these
abbrev pub Holds : Registers → ℕ → ℕ → ℕ → Operand → ℕ → Type 0
Holds r d low next (Var x) v = (low ≤ x.0) × (x.0 < next) × (r d x.0 ≡ v)
Holds r d low next (Const c) v = c ≡ v

abbrev pub AllHold : Registers → ℕ → ℕ → ℕ → List Operand → List ℕ → Type 0
AllHold r d low next operands values = AllZip (Holds r d low next) operands values

-- the variables of a function but for its results
abbrev pub IsOwn : Shape → ℕ → Type 0
IsOwn shape x = (shape.first ≤ x) × (x < shape.limit) × (shape.first + shape.params ≤ x → shape.first + shape.params + shape.results ≤ x)

-- no result is one of them
pub record Layout (program : Program) : Type 0 where
  pub apart : (f g i x : ℕ) → i < (program.shape g).results → IsOwn (program.shape f) x → x ≡ result (program.shape g) i → ⊥
  pub room : (f : ℕ) → bottom (program.shape f) ≤ (program.shape f).limit
  pub above : (f : ℕ) → program.statics ≤ (program.shape f).first
  pub sizes : program.sizes + length program.memories ≤ program.statics
  pub traps : HasAt program.commands 0 (map Trap (take 7 kinds))

-- a function's commands stand, and so do its body's
pub record IsLowered (program : Program) (bound number : ℕ) (function : Function) (type : Signature) : Type 0 where
  pub params : (program.shape number).params ≡ length type.params
  pub results : (program.shape number).results ≡ length type.results
  pub locals : (program.shape number).locals ≡ length (locals_of function.code)
  pub entry : Stand program bound number (program.shape number).entry
      (moves 0 ((program.shape number).first + (program.shape number).params + (program.shape number).results) (replicate (program.shape number).locals (Const 0))
      ++ jump_to (suc (shift (program.shape number).locals (program.shape number).entry)) ∷ [])
  pub most : (program.shape number).locals + 1 ≤ bound
  pub body : IsLaidOut program bound number [] (live (point (suc (shift (program.shape number).locals (program.shape number).entry)) [] (bottom (program.shape number)))) function.code.items

pub record IsProgram (tree : Tree) (program : Program) (bound : ℕ) : Type 0 where
  pub layout : Layout program
  pub memory : (number : ℕ) (function : Function) (m : ℕ) (defined : Memory) → slice_get tree.functions number ≡ Some function → function.memory ≡ Some m → slice_get program.memories m ≡ Some defined
      → ((program.shape number).memory ≡ m) × ((program.shape number).size ≡ program.sizes + m) × ((program.shape number).reserve ≡ defined.reserve)
  pub tables : (number : ℕ) (function : Function) (table : List (Option ℕ)) (i : ℕ) (wanted : Signature) → slice_get tree.functions number ≡ Some function → option_and_then (slice_get tree.tables) function.table ≡ Some table
      → slice_get tree.types i ≡ Some wanted → ((program.shape number).slots i ≡ map (slot_of tree wanted) table)
  pub small : (m : ℕ) (defined : Memory) → slice_get program.memories m ≡ Some defined → defined.reserve ≤ 256
  pub memories : tree.memories ≡ program.memories
  pub blocks : (kind : BlockType) (type : FuncType) → expanded (map function_type tree.types) kind ≡ Some type → ((program.blocks kind).params ≡ length type.params) × ((program.blocks kind).results ≡ length type.results)
  pub functions : (number : ℕ) (function : Function) (type : Signature) → slice_get tree.functions number ≡ Some function → slice_get tree.types function.type_index ≡ Some type
      → IsLowered program bound number function type

-- globals and sizes lie at depth 0, and the memories' bytes in one space
pub record IsStore (program : Program) (r : Registers) (space : List ℕ) (store : Store) : Type 0 where
  pub few : length store.globals ≤ program.sizes
  pub globals : (x v : ℕ) → slice_get store.globals x ≡ Some v → r 0 x ≡ v
  pub within : AllZip IsMemoryState program.memories store.memories
  pub sizes : (i : ℕ) (state : MemoryState) → slice_get store.memories i ≡ Some state → r 0 (program.sizes + i) ≡ state.pages
  pub space_is : space ≡ space_of program.memories store.memories

module _ (program : Program) (bound : ℕ) where
  abbrev pub LocalsAt : Registers → ℕ → ℕ → List ℕ → Type 0
  LocalsAt r d number locals = (x v : ℕ) → slice_get locals x ≡ Some v → r d (local (program.shape number) x) ≡ v

  -- a label is that of an open construct
  pub record IsTarget (r : Registers) (d number : ℕ) (open_ones : List Target) (t : Target) (label : ControlLabel) : Type 0 where
    pub arity : label.arity ≡ taken t
    pub next : ℕ
    pub order : first_to t ≤ t.first
    pub reached : first_to t + taken t ≤ next
    pub limit : next ≤ (program.shape number).limit
    pub laid : IsLaidOut program bound number open_ones (live (target_point t next)) label.continuation
    pub below : AllHold r d (bottom (program.shape number)) (first_to t) t.below label.below
    pub above : floor program bound number open_ones ≤ first_to t

  abbrev pub AreTargets : Registers → ℕ → ℕ → List Target → List ControlLabel → Type 0
  AreTargets r d number [] [] = Unit {0}
  AreTargets r d number (t ∷ open_ones) (label ∷ labels) = IsTarget r d number open_ones t label × AreTargets r d number open_ones labels
  AreTargets r d number open_ones labels = ⊥

  pub record IsFrame (r : Registers) (d : ℕ) (open_ones : List Target) (stack : List Operand) (next : ℕ) (frame : Frame) : Type 0 where
    pub arity : frame.arity ≡ (program.shape frame.number).results
    pub size : length frame.locals ≡ (program.shape frame.number).params + (program.shape frame.number).locals
    pub locals : LocalsAt r d frame.number frame.locals
    pub labels : AreTargets r d frame.number open_ones frame.labels
    pub values : AllHold r d (bottom (program.shape frame.number)) next stack frame.values
    pub above : floor program bound frame.number open_ones ≤ next
    pub limit : next ≤ (program.shape frame.number).limit

  -- a frame that waits for the results of a function, behind whose call a position is
  pub record Waits (r : Registers) (d called : ℕ) (frame : Frame) (back : ℕ) : Type 0 where
    pub open_ones : List Target
    pub stack : List Operand
    pub next : ℕ
    pub frame_is : IsFrame r d open_ones stack next frame
    pub moves_are : Stand program bound frame.number back (moves (mark_of open_ones) next (result_reads (program.shape called) 0 (program.shape called).results))
    pub room : next + (program.shape called).results ≤ (program.shape frame.number).limit
    pub after_it : ℕ
    pub jumps : (after_it ≡ shift (program.shape called).results back) ⊎ (slice_get program.commands (shift (program.shape called).results back) ≡ Some (jump_to after_it))
    pub laid : IsLaidOut program bound frame.number open_ones
        (live (point after_it (reverse (reads next (program.shape called).results) ++ stack) (next + (program.shape called).results))) frame.rest

  abbrev pub AreCallers : Registers → ℕ → List Frame → List ℕ → Type 0
  AreCallers r called [] [] = Unit {0}
  AreCallers r called (frame ∷ callers) (back ∷ chain) = Waits r (suc (length chain)) called frame back × AreCallers r frame.number callers chain
  AreCallers r called callers chain = ⊥

  -- a state but for what is left
  pub record Here (open_ones : List Target) (stack : List Operand) (next : ℕ) (state : State) (s : Plain) : Type 0 where
    pub store : IsStore program s.registers s.space state.store
    pub frame_is : IsFrame s.registers (depth s) open_ones stack next state.frame
    pub callers : AreCallers s.registers state.frame.number state.callers s.chain

  pub record IsState (state : State) (s : Plain) : Type 0 where
    pub open_ones : List Target
    pub stack : List Operand
    pub next : ℕ
    pub here : Here open_ones stack next state s
    pub laid : IsLaidOut program bound state.frame.number open_ones (live (point s.position stack next)) state.frame.rest

  -- arguments are in the parameters from an index on
  abbrev pub ArgumentsAt : Registers → ℕ → ℕ → ℕ → List ℕ → Type 0
  ArgumentsAt r d number index [] = Unit {0}
  ArgumentsAt r d number index (v ∷ vs) = (r d (param (program.shape number) index) ≡ v) × ArgumentsAt r d number (suc index) vs

  pub record IsEntry (store : Store) (number : ℕ) (arguments : List ℕ) (callers : List Frame) (s : Plain) : Type 0 where
    pub store_is : IsStore program s.registers s.space store
    pub position : s.position ≡ (program.shape number).entry
    pub count : length arguments ≡ (program.shape number).params
    pub arguments_are : ArgumentsAt s.registers (depth s) number 0 arguments
    pub callers_are : AreCallers s.registers number callers s.chain

  abbrev pub Matches : Config → Plain → Type 0
  Matches (entering store number arguments callers) s = IsEntry store number arguments callers s
  Matches (running state) s = IsState state s

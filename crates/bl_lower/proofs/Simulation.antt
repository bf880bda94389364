-- Each source step from a configuration that matches is so many plain steps to one that matches again.
use Rattle.std.proofs.Common.{ℕ, ◌≤◌, ◌≡◌, List, [], ◌∷◌, map, drop, Some, slice_get, ap, ◌∙◌, arith}
use Rattle.bl_base.specs.Runs.{last, ends, trapped}
use Rattle.bl_base.specs.declared.trap.Trap.TheVariants as trap_kind
use Rattle.bl_wasm.specs.declared.instruction.Instr.{Instr}
use Rattle.bl_wasm.specs.declared.instruction.Instr.TheVariants.{Unreachable, Nop, Block, Loop, If, Else, End, Br, BrIf, BrTable, Return, Call, CallIndirect, Drop, Select, LocalGet, LocalSet, LocalTee, GlobalGet, GlobalSet, Load, Store, MemorySize, MemoryGrow, I32Const, I64Const, Integer}
use Rattle.bl_wasm.specs.declared.linked.Tree.{Tree}
use Rattle.bl_reduce.specs.Configurations.{State, Config, entering, running, with_rest}
use Rattle.bl_wasm.specs.Linked.{function_type, HasImmediates}
use Rattle.bl_wasm.specs.Typing.{expanded}
use Rattle.bl_reduce.specs.Control.{enter_block, enter_loop, enter_if}
use Rattle.bl_reduce.specs.Steps.{execute, frame_step, source_step}
use Rattle.bl_program.specs.Steps.{Plain}
use Rattle.bl_program.specs.declared.command.Command.TheVariants.{Trap}
use Rattle.bl_program.specs.declared.command.Operand.{Operand}
use Rattle.bl_program.specs.declared.command.Operand.TheVariants.{Const}
use Rattle.bl_lower.proofs.CodeLayout.{live, second_of, operands_of, IsLaidOut, ItemAt}
use Rattle.bl_lower.proofs.Machine.{Program}
use Rattle.bl_lower.proofs.MatchStates.{Here, IsProgram, Matches}
use Rattle.bl_emit.specs.Constructs.{mark_of, Target, point}
use Rattle.bl_emit.specs.Items.{after}
use Rattle.bl_lower.proofs.MemorySteps.{load_reaches, store_reaches, size_reaches, grow_reaches}
use Rattle.bl_lower.proofs.Blocks.{block_reaches, loop_reaches, if_reaches, end_reaches, else_reaches}
use Rattle.bl_lower.proofs.BranchSteps.{IsSmall, branch_reaches, branch_if_reaches, table_reaches}
use Rattle.bl_lower.proofs.CallSteps.{call_reaches, enter_reaches}
use Rattle.bl_lower.proofs.Frames.{Then, knowing, rebuilt}
use Rattle.bl_lower.proofs.IndirectCalls.{indirect_reaches}
use Rattle.bl_lower.proofs.StraightLineItems.{pushes, get_reaches, global_get_reaches, local_set_reaches, local_tee_reaches, global_set_reaches, jumps_on, drop_reaches, select_reaches}
use Rattle.bl_lower.proofs.OperatorSteps.{operate_reaches}
use Rattle.bl_lower.proofs.ReturnSteps.{return_reaches}
use Rattle.bl_lower.proofs.States.{states_are}
use Rattle.bl_lower.proofs.PlainRuns.{does, move_is}

-- where the topmost value is tested, it is an i32
abbrev pub Tested : List Instr → List ℕ → Type 0
Tested (If r ∷ rest) values = IsSmall values
Tested (BrIf l ∷ rest) values = IsSmall values
Tested (BrTable default ls ∷ rest) values = IsSmall values
Tested (Load kind argument ∷ rest) values = IsSmall values
Tested (Store kind argument ∷ rest) values = IsSmall (drop 1 values)
Tested (MemoryGrow ∷ rest) values = IsSmall values
Tested (CallIndirect i ∷ rest) values = IsSmall values
Tested items values = Unit {0}

-- the next item's immediates are numbers of their widths
abbrev pub Immediate : List Instr → Type 0
Immediate [] = Unit {0}
Immediate (item ∷ rest) = HasImmediates item

module _ (tree : Tree) (program : Program) (bound : ℕ) (is : IsProgram tree program bound) (some : 1 ≤ bound) where
  module _ (state : State) (s : Plain) (open_ones : List Target) (stack : List Operand) (next : ℕ) where
    -- an item behind which the code goes on
    pub gives : (item : Instr) → Here program bound open_ones stack next state s → Tested (item ∷ state.frame.rest) state.frame.values → HasImmediates item → slice_get tree.functions state.frame.number ≡ Some state.frame.function
        → ItemAt program bound state.frame.number open_ones item (point s.position stack next)
        → (after program.shape state.frame.number open_ones item (point s.position stack next)).next ≤ (program.shape state.frame.number).limit
        → IsLaidOut program bound state.frame.number open_ones (live (after program.shape state.frame.number open_ones item (point s.position stack next))) state.frame.rest
        → Then tree program bound 0 (execute tree item state) s
    gives (I32Const n) h small near exists at_ limit laid has =
        pushes tree program bound is.layout open_ones next 0 (mark_of open_ones) stack state s _ (Const n) (Const 0) (Const 0) n h at_.0 (move_is n 0 0) (omega (arith, some)) (omega (arith, limit)) laid
    gives (I64Const n) h small near exists at_ limit laid has =
        pushes tree program bound is.layout open_ones next 0 (mark_of open_ones) stack state s _ (Const n) (Const 0) (Const 0) n h at_.0 (move_is n 0 0) (omega (arith, some)) (omega (arith, limit)) laid
    gives (LocalGet x) h small near exists at_ limit laid has = get_reaches tree program bound is.layout open_ones next x (mark_of open_ones) stack state s h at_.0 some limit laid has
    gives (LocalSet x) h small near exists at_ limit laid has = local_set_reaches tree program bound is.layout open_ones next x (mark_of open_ones) stack state s h at_.0 some laid has
    gives (LocalTee x) h small near exists at_ limit laid has = local_tee_reaches tree program bound is.layout open_ones next x (mark_of open_ones) stack state s h at_.0 some laid has
    gives (GlobalGet x) h small near exists at_ limit laid has = global_get_reaches tree program bound is.layout open_ones next x (mark_of open_ones) stack state s h at_.0 some limit laid has
    gives (GlobalSet x) h small near exists at_ limit laid has = global_set_reaches tree program bound is.layout open_ones next x (mark_of open_ones) stack state s h at_.0 some laid has
    gives Select h small near exists at_ limit laid has = select_reaches tree program bound is.layout open_ones next (mark_of open_ones) stack state s h at_.0 some limit laid has
    gives (Integer o) h small near exists at_ limit laid has = operate_reaches tree program bound is.layout open_ones next o (mark_of open_ones) stack state s h at_ limit laid has
    gives (Load kind argument) h small near exists at_ limit laid has = load_reaches tree program bound is open_ones next (mark_of open_ones) kind argument stack state s h small near exists at_.0 at_.1 limit laid has
    gives (Store kind argument) h small near exists at_ limit laid has = store_reaches tree program bound is open_ones next (mark_of open_ones) kind argument stack state s h small near exists at_.0 at_.1 limit laid has
    gives MemorySize h small near exists at_ limit laid has = size_reaches tree program bound is open_ones next (mark_of open_ones) stack state s h exists at_.0 some limit laid has
    gives MemoryGrow h small near exists at_ limit laid has = grow_reaches tree program bound is open_ones next (mark_of open_ones) stack state s h small exists at_.0 at_.1 limit laid has
    gives Drop h small near exists at_ limit laid has = drop_reaches tree program bound is.layout open_ones next stack state s h at_.0 some laid has
    gives Nop h small near exists at_ limit laid has = jumps_on tree program bound is.layout open_ones next 0 stack state s h at_.0 (omega (arith, some)) laid
    gives (BrIf l) h small near exists at_ limit laid has = branch_if_reaches tree program bound is.layout open_ones next (mark_of open_ones) l _ stack state s h small at_.0.0 some at_.1 laid has
    gives (Call f) h small near exists at_ limit laid has = call_reaches tree program bound is f open_ones stack next state s h at_ limit laid has
    gives (CallIndirect i) h small near exists at_ limit laid has = indirect_reaches tree program bound is open_ones next i stack state s h small exists at_ limit _ at_.begins laid has
    gives item h small near exists at_ limit laid has = absurd at_

  -- the state behind an item
  item_reaches : (item : Instr) (open_ones : List Target) (stack : List Operand) (next : ℕ) (state : State) (s : Plain) → Here program bound open_ones stack next state s
      → Tested (item ∷ state.frame.rest) state.frame.values → HasImmediates item → slice_get tree.functions state.frame.number ≡ Some state.frame.function
      → IsLaidOut program bound state.frame.number open_ones (live (point s.position stack next)) (item ∷ state.frame.rest) → Then tree program bound 0 (execute tree item state) s
  item_reaches (Block r) open_ones stack next state s h small near exists laid has =
      knowing tree program bound 0 (expanded (map function_type tree.types) r) s (λ type. enter_block type state.frame.rest state) (λ type got has.
      block_reaches tree program bound is.layout open_ones r type (is.blocks r type got) laid.0 stack next state s h laid.1.0 some laid.3 laid.4) has
  item_reaches (Loop r) open_ones stack next state s h small near exists laid has =
      knowing tree program bound 0 (expanded (map function_type tree.types) r) s (λ type. enter_loop r type state) (λ type got has.
      loop_reaches tree program bound is.layout open_ones r type (is.blocks r type got) laid.0 laid.1 laid.2 laid.3 stack next state s h laid.4 some
      (record { jump = laid.5.0; enough = laid.6; order = laid.7; reached = laid.8; limit = laid.9; laid = laid.10 })) has
  item_reaches (If r) open_ones stack next state s h small near exists laid has =
      knowing tree program bound 0 (expanded (map function_type tree.types) r) s (λ type. enter_if type state) (λ type got.
      if_reaches tree program bound is.layout open_ones r type (is.blocks r type got) laid.0 laid.1 stack next state s h small laid.2.0 some laid.4 laid.5) has
  item_reaches Else [] stack next state s h small near exists laid has = absurd laid
  item_reaches Else (t ∷ open_ones) stack next state s h small near exists laid has = else_reaches tree program bound is.layout open_ones t (second_of t.kind) (operands_of t.kind) stack next state s h laid.0 laid.1 has
  item_reaches End [] stack next state s h small near exists laid has = absurd laid
  item_reaches End (t ∷ open_ones) stack next state s h small near exists laid has = end_reaches tree program bound is.layout open_ones t stack next state s h laid.0 laid.2 has
  item_reaches (Br l) open_ones stack next state s h small near exists laid has = branch_reaches tree program bound is.layout open_ones next 0 (mark_of open_ones) l stack state s h laid.0 has
  item_reaches (BrTable default ls) open_ones stack next state s h small near exists laid has = table_reaches tree program bound is.layout open_ones next default ls stack state s h small laid.0 has
  item_reaches Return open_ones stack next state s h small near exists laid has = return_reaches tree program bound is.layout 0 (mark_of open_ones) open_ones stack next state s h laid.0
  item_reaches Unreachable open_ones stack next state s h small near exists laid has =
      (1, omega arith, omega (arith, some), last s (trapped trap_kind.Unreachable state.store.memories) (does program s (Trap trap_kind.Unreachable) laid.0.0 ∙ ap (λ m. ends (trapped trap_kind.Unreachable m)) (states_are program s state.store h.store)))
  item_reaches item open_ones stack next state s h small near exists laid has = gives state s open_ones stack next item h small near exists laid.0 laid.1 laid.2 has

  frame_reaches : (items : List Instr) (open_ones : List Target) (stack : List Operand) (next : ℕ) (state : State) (s : Plain) → Here program bound open_ones stack next state s
      → Tested items state.frame.values → Immediate items → slice_get tree.functions state.frame.number ≡ Some state.frame.function → IsLaidOut program bound state.frame.number open_ones (live (point s.position stack next)) items → Then tree program bound 0 (frame_step tree items state) s
  frame_reaches [] open_ones stack next state s h small near exists laid has = return_reaches tree program bound is.layout 0 0 open_ones stack next state s h laid.1
  frame_reaches (item ∷ items) open_ones stack next state s h small near exists laid has =
      item_reaches item open_ones stack next (with_rest items state) s (rebuilt tree program bound open_ones next stack stack next state.frame.values items state s h h.frame_is.values h.frame_is.above h.frame_is.limit) small near exists laid has

  -- a tested value of a configuration is an i32
  abbrev pub TestedIn : Config → Type 0
  TestedIn (running state) = Tested state.frame.rest state.frame.values × Immediate state.frame.rest × (slice_get tree.functions state.frame.number ≡ Some state.frame.function)
  TestedIn (entering store number arguments callers) = Unit {0}

  pub step_reaches : (config : Config) (s : Plain) → Matches program bound config s → TestedIn config → Then tree program bound 0 (source_step tree config) s
  step_reaches (entering store number arguments callers) s h small = enter_reaches tree program bound is store number arguments callers s h
  step_reaches (running state) s h small = frame_reaches state.frame.rest h.open_ones h.stack h.next state s h.here small.0 small.1 small.2 h.laid

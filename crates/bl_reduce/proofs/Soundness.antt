-- What is typed has a step, which keeps it typed; a start that fits is typed.
use Rattle.std.proofs.Common.{◌≡◌, ℕ, zero, suc, ◌+◌, ◌*◌, ◌≤◌, List, [], ◌∷◌, ◌++◌, length, map, reverse, drop, Option, Some, None, slice_get, refl, sym, ap, ◌∙◌, subst, arith, append-nil}
use Rattle.std.specs.List.{All, AllZip, fold}
use Rattle.std.proofs.lemmas.List.Elements.{All-drop, All-get_or}
use Rattle.std.proofs.lemmas.Option.{slice_get-map}
use Rattle.std.specs.Prelude.{option_map}
use Rattle.bl_base.specs.Fits.{ArgumentFits, LiesIn, PatchFits}
use Rattle.bl_base.specs.Runs.{MemoryState, Next, goes, ends, stuck, HasStep, StepsTo}
use Rattle.bl_base.specs.declared.names.ValueType.{ValueType}
use Rattle.bl_base.specs.declared.start.Patch.{Patch}
use Rattle.bl_base.specs.declared.start.Start.{Start}
use Rattle.bl_base.specs.declared.trap.Trap.TheVariants as kind
use Rattle.bl_wasm.specs.Linked.{IsFunction, IsMemory, HasImmediates, context, function_type}
use Rattle.bl_reduce.specs.Runnable.{IsRunnable}
use Rattle.bl_wasm.specs.OpenConstructs.{Kind, of_block, of_loop, then_part, else_part}
use Rattle.bl_wasm.specs.Typing.{Open, opened, labels, Begins, Rule, Plain, integer, expanded}
use Rattle.bl_wasm.specs.declared.types.BlockType.{BlockType}
use Rattle.bl_wasm.specs.declared.instruction.Instr.{Instr}
use Rattle.bl_wasm.specs.declared.instruction.Instr.TheVariants.{Unreachable, Nop, Block, Loop, If, Else, End, Br, BrIf, BrTable, Return, Call, CallIndirect, Drop, Select, LocalGet, LocalSet, LocalTee, GlobalGet, GlobalSet, Load, Store, MemorySize, MemoryGrow, I32Const, I64Const, Integer}
use Rattle.bl_wasm.specs.declared.types.WasmType.{WasmType}
use Rattle.bl_wasm.specs.declared.types.WasmType.TheVariants.{I32, I64}
use Rattle.bl_wasm.specs.declared.linked.Memory.{Memory}
use Rattle.bl_wasm.specs.declared.linked.Signature.{Signature}
use Rattle.bl_wasm.specs.declared.linked.Tree.{Tree}
use Rattle.bl_reduce.specs.Configurations.{State, Config, entering, running, with_rest}
use Rattle.bl_reduce.specs.Control.{items_behind_end, enter_block, enter_loop, enter_if}
use Rattle.bl_reduce.specs.Memory.{write}
use Rattle.bl_reduce.specs.Outcomes.{first_memory, patched, patch_over, opening, IsStart}
use Rattle.bl_reduce.specs.Steps.{execute, frame_step, source_step}
use Rattle.bl_reduce.specs.TypedConfigurations.{IsMemoryState, IsGlobalValue, IsRest, IsRunning, IsTyped, IsTypedStep}
use Rattle.bl_reduce.proofs.CallItems.{enter_steps, call_steps, call_indirect_steps}
use Rattle.bl_reduce.proofs.ControlItems.{return_steps, br_steps, br_if_steps, br_table_steps, block_steps, loop_steps, if_steps, leave_steps}
use Rattle.bl_reduce.proofs.MemoryItems.{load_steps, store_steps, memory_size_steps, memory_grow_steps, written_state}
use Rattle.bl_reduce.proofs.NumericItems.{operate_steps}
use Rattle.bl_reduce.proofs.Places.{next_place, place_behind_end, at_last}
use Rattle.bl_reduce.proofs.Ready.{Ready, taken, trapping, knowing}
use Rattle.bl_reduce.proofs.VariableItems.{constant_steps, nop_steps, drop_steps, select_steps, local_get_steps, local_set_steps, local_tee_steps, global_get_steps, global_set_steps}
use Rattle.bl_base.proofs.Lists.{zip_got, zip_set, zip_each, zip_images, all_get}

-- the item at a place
pub drop_head : (xs : List Instr) (place : ℕ) (item : Instr) (rest : List Instr) → item ∷ rest ≡ drop place xs → slice_get xs place ≡ Some item
drop_head [] zero item rest e = absurd (subst IsCons e tt)
  where
    IsCons : List Instr → Type 0
    IsCons [] = ⊥
    IsCons (x ∷ xs) = Unit {0}
drop_head [] (suc place) item rest e = absurd (subst IsCons e tt)
  where
    IsCons : List Instr → Type 0
    IsCons [] = ⊥
    IsCons (x ∷ xs) = Unit {0}
drop_head (x ∷ xs) zero item rest e = ap Some (sym (subst (IsHead item) e refl))
  where
    IsHead : Instr → List Instr → Type 0
    IsHead item [] = ⊥
    IsHead item (y ∷ ys) = item ≡ y
drop_head (x ∷ xs) (suc place) item rest e = drop_head xs place item rest e

without_more : (lower params from : List WasmType) → from ≡ lower ++ (params ++ []) → from ≡ lower ++ params
without_more lower params from e = e ∙ ap (λ types. lower ++ types) (append-nil params)

module _ (tree : Tree) (linked : IsRunnable tree) (results : List ValueType) where
  abbrev Steps : Next Config → Type 0
  Steps next = IsTypedStep tree results next

  module _ (type : Signature) where
    -- what is left of a body, seen from a state
    abbrev RestOf : State → List Open → List WasmType → List Instr → Type 0
    RestOf state open_ones stack rest = IsRest (context tree type state.frame.function) state.frame.function.code.items open_ones stack rest

    plain_steps : (item : Instr) (open_ones : List Open) (from to : List WasmType) (state : State) → Plain (context tree type state.frame.function) (labels (context tree type state.frame.function) open_ones) item from to
        → HasImmediates item → Ready tree results type open_ones (reverse from) state → RestOf state open_ones to state.frame.rest → Steps (execute tree item state)
    plain_steps Unreachable open_ones from to state h fits ready begins = trapping tree results type open_ones (reverse from) kind.Unreachable state ready
    plain_steps Nop open_ones from to state h fits ready begins = nop_steps tree results type open_ones from to state h ready begins
    plain_steps (Br l) open_ones from to state h fits ready begins = br_steps tree results type open_ones l h.0 from state h.1 h.2 ready
    plain_steps (BrIf l) open_ones from to state h fits ready begins = br_if_steps tree results type open_ones l h.0 from to state h.1 h.2 ready begins
    plain_steps (BrTable default ls) open_ones from to state h fits ready begins = br_table_steps tree results type open_ones ls default h.0 from state h.1 h.2 ready
    plain_steps Return open_ones from to state h fits ready begins =
        return_steps tree results type open_ones (reverse h.lower) state (taken tree results type open_ones from h.lower (map integer type.results) state h.before ready)
    plain_steps (Call number) open_ones from to state h fits ready begins = call_steps tree linked results type open_ones number h.0 from to state h.1 h.2 ready begins
    plain_steps (CallIndirect index) open_ones from to state h fits ready begins =
        call_indirect_steps tree linked results type open_ones index h.0 from to state h.1 h.2 h.3 ready begins
    plain_steps Drop open_ones from to state h fits ready begins = drop_steps tree results type open_ones h.0 from to state h.1 ready begins
    plain_steps Select open_ones from to state h fits ready begins = select_steps tree results type open_ones h.0 from to state h.1 ready begins
    plain_steps (LocalGet x) open_ones from to state h fits ready begins = local_get_steps tree results type open_ones x h.0 from to state h.1 h.2 ready begins
    plain_steps (LocalSet x) open_ones from to state h fits ready begins = local_set_steps tree results type open_ones x h.0 from to state h.1 h.2 ready begins
    plain_steps (LocalTee x) open_ones from to state h fits ready begins = local_tee_steps tree results type open_ones x h.0 from to state h.1 h.2 ready begins
    plain_steps (GlobalGet x) open_ones from to state h fits ready begins = global_get_steps tree results type open_ones x h.0 from to state h.1 h.2 ready begins
    plain_steps (GlobalSet x) open_ones from to state h fits ready begins = global_set_steps tree results type open_ones x h.0 from to state h.1 h.3 ready begins
    plain_steps (Load kind argument) open_ones from to state h fits ready begins = load_steps tree linked results type open_ones kind argument from to state h.2 h.3 ready begins
    plain_steps (Store kind argument) open_ones from to state h fits ready begins = store_steps tree linked results type open_ones kind argument from to state h.2 h.3 ready begins
    plain_steps MemorySize open_ones from to state h fits ready begins = memory_size_steps tree linked results type open_ones from to state h.0 h.1 ready begins
    plain_steps MemoryGrow open_ones from to state h fits ready begins = memory_grow_steps tree linked results type open_ones from to state h.0 h.1 ready begins
    plain_steps (I32Const n) open_ones from to state h fits ready begins = constant_steps tree results type open_ones I32 n from to state fits h ready begins
    plain_steps (I64Const n) open_ones from to state h fits ready begins = constant_steps tree results type open_ones I64 n from to state fits h ready begins
    plain_steps (Integer op) open_ones from to state h fits ready begins = operate_steps tree results type open_ones op h.0 h.1 from to state h.2 ready begins
    plain_steps item open_ones from to state h fits ready begins = absurd h

    -- what is left inside a construct that begins
    inside_of : (kind : Kind) (immediate : BlockType) (over : List WasmType) (open_ones : List Open) (from : List WasmType) (behind : List Open) (to : List WasmType) (state : State)
        → (b : Begins (context tree type state.frame.function) kind immediate over open_ones from behind to) → RestOf state behind to state.frame.rest
        → RestOf state (opened kind b.type b.lower ∷ open_ones) b.type.params state.frame.rest
    inside_of kind immediate over open_ones from behind to state b begins =
        subst (λ o. RestOf state o b.type.params state.frame.rest) b.inside (subst (λ stack. RestOf state behind stack state.frame.rest) b.behind begins)

    execute_steps : (item : Instr) (open_ones : List Open) (from : List WasmType) (behind : List Open) (to : List WasmType) (state : State)
        → Rule (context tree type state.frame.function) item open_ones from behind to → HasImmediates item → Ready tree results type open_ones (reverse from) state
        → RestOf state open_ones from (item ∷ state.frame.rest) → RestOf state behind to state.frame.rest → Steps (execute tree item state)
    execute_steps (Block immediate) open_ones from behind to state rule fits ready now begins =
        knowing tree results (expanded (map function_type tree.types) immediate) rule.type (λ type. enter_block type state.frame.rest state) rule.named
        (block_steps tree results type open_ones rule.type rule.lower from state (without_more rule.lower rule.type.params from rule.before) ready
        (inside_of of_block immediate [] open_ones from behind to state rule begins))
    execute_steps (Loop immediate) open_ones from behind to state rule fits ready now begins =
        knowing tree results (expanded (map function_type tree.types) immediate) rule.type (λ type. enter_loop immediate type state) rule.named
        (loop_steps tree results type open_ones immediate rule.type rule.lower from state (without_more rule.lower rule.type.params from rule.before) ready now
        (inside_of of_loop immediate [] open_ones from behind to state rule begins))
    execute_steps (If immediate) open_ones from behind to state rule fits ready now begins =
        knowing tree results (expanded (map function_type tree.types) immediate) rule.type (λ type. enter_if type state) rule.named
        (if_steps tree results type open_ones rule.type from rule.lower state rule.before ready
        (inside_of then_part immediate (I32 ∷ []) open_ones from behind to state rule begins))
    execute_steps Else [] from behind to state rule fits ready now begins = absurd rule
    execute_steps Else (one ∷ outer) from behind to state rule fits ready now begins =
        let inside = subst (λ o. RestOf state o one.type.params state.frame.rest) rule.inside (subst (λ stack. RestOf state behind stack state.frame.rest) rule.behind begins) in
        leave_steps tree results type one outer state.frame.labels (items_behind_end [] state.frame.rest) one.type.results state ready.labels
        (subst (λ stack. Ready tree results type (one ∷ outer) (reverse stack) state) rule.before ready)
        (place_behind_end (context tree type state.frame.function) state.frame.function.code.items (opened else_part one.type one.lower) outer one.type.params state.frame.rest inside)
    execute_steps End [] from behind to state rule fits ready now begins = absurd rule
    execute_steps End (one ∷ outer) from behind to state rule fits ready now begins =
        leave_steps tree results type one outer state.frame.labels state.frame.rest one.type.results state ready.labels
        (subst (λ stack. Ready tree results type (one ∷ outer) (reverse stack) state) rule.before ready)
        (subst (λ o. RestOf state o (one.lower ++ one.type.results) state.frame.rest) rule.inside
        (subst (λ stack. RestOf state behind stack state.frame.rest) rule.behind begins))
    execute_steps item open_ones from behind to state rule fits ready now begins =
        plain_steps item open_ones from to state rule.rule fits ready (subst (λ o. RestOf state o to state.frame.rest) rule.inside begins)

    -- the state with other items left is ready for them
    ready_of : (state : State) (is : IsRunning tree results state) (rest : List Instr) → is.type ≡ type → Ready tree results type is.open_ones (reverse is.stack) (with_rest rest state)
    ready_of state is rest same = subst (λ type. Ready tree results type is.open_ones (reverse is.stack) (with_rest rest state)) same (record {
      store_is = is.store_is;
      exists = is.frame_is.exists;
      typed = is.frame_is.typed;
      arity = is.frame_is.arity;
      locals = is.frame_is.locals;
      labels = is.frame_is.labels;
      values = is.frame_is.values;
      callers_are = is.callers_are;
      depth = is.depth;
    })

  frame_steps : (items : List Instr) (state : State) (is : IsRunning tree results state)
      → IsRest (context tree is.type state.frame.function) state.frame.function.code.items is.open_ones is.stack items → Steps (frame_step tree items state)
  frame_steps [] state is begins =
      let last = at_last (context tree is.type state.frame.function) state.frame.function.code.items is.open_ones is.stack begins in
      let whole : reverse is.stack ≡ reverse (map integer is.type.results) ++ [] = ap reverse last.1 ∙ sym (append-nil (reverse (map integer is.type.results))) in
      return_steps tree results is.type is.open_ones [] (with_rest state.frame.rest state)
      (subst (λ top. Ready tree results is.type is.open_ones top (with_rest state.frame.rest state)) whole (ready_of is.type state is state.frame.rest refl))
  frame_steps (item ∷ rest) state is begins =
      let next = next_place (context tree is.type state.frame.function) state.frame.function.code.items item rest is.open_ones is.stack begins in
      let function : IsFunction tree state.frame.function = all_get (IsFunction tree) tree.functions state.frame.number state.frame.function linked.functions is.frame_is.exists in
      let there = drop_head state.frame.function.code.items begins.place item rest begins.left in
      execute_steps is.type item is.open_ones is.stack next.0 next.1 (with_rest rest state) next.2
      (all_get HasImmediates state.frame.function.code.items begins.place item function.immediates there)
      (ready_of is.type state is rest refl) begins next.3

  -- what is typed steps to what is typed again, or to a typed end
  pub preservation : (config : Config) → IsTyped tree results config → Steps (source_step tree config)
  preservation (entering store number arguments callers) is = enter_steps tree linked results store number arguments callers is
  preservation (running state) is = frame_steps state.frame.rest state is is.begins

  at_next : (next : Next Config) (config : Config) → next ≡ goes config → Steps next → IsTyped tree results config
  at_next next config e h = subst Steps e h

  -- every configuration of a run from what is typed is typed
  pub typed_run : (n : ℕ) (from to : Config) → IsTyped tree results from → StepsTo (source_step tree) n from to → IsTyped tree results to
  typed_run zero from to is comes = subst (IsTyped tree results) comes is
  typed_run (suc n) from to is comes = typed_run n comes.0 to (at_next (source_step tree from) comes.0 comes.1 (preservation from is)) comes.2

  has_step : (next : Next Config) → Steps next → HasStep next
  has_step (goes config) h = tt
  has_step (ends outcome) h = tt
  has_step stuck h = h

  -- what is typed has a step
  pub progress : (config : Config) → IsTyped tree results config → HasStep (source_step tree config)
  progress config is = has_step (source_step tree config) (preservation config is)

-- ---- the start

module _ (tree : Tree) (linked : IsRunnable tree) where
  -- a memory whose first pages stand, with patches written over them
  pub record IsOpening (memory : Memory) (state : MemoryState) : Type 0 where
    pub is : IsMemoryState memory state
    pub pages : state.pages ≡ memory.pages

  patch_one : (o : Option MemoryState) (states : List MemoryState) (patch : Patch) → slice_get states patch.memory ≡ o → PatchFits (map (λ memory. memory.pages) tree.memories) patch
      → AllZip IsOpening tree.memories states → AllZip IsOpening tree.memories (patch_over o states patch)
  patch_one None states patch e fits h = h
  patch_one (Some state) states patch e fits h =
      let found = zip_got IsOpening tree.memories states patch.memory state h e in
      let size : slice_get (map (λ memory. memory.pages) tree.memories) patch.memory ≡ Some found.0.pages =
      slice_get-map (λ memory. memory.pages) tree.memories patch.memory ∙ ap (option_map (λ memory. memory.pages)) found.1 in
      let lies : LiesIn patch.offset (length patch.bytes) (Some found.0.pages) = subst (LiesIn patch.offset (length patch.bytes)) size fits.0 in
      let times : state.pages * 65536 ≡ found.0.pages * 65536 = ap (λ n. n * 65536) found.2.pages in
      let le : patch.offset + length patch.bytes ≤ length state.bytes = omega (arith, lies, found.2.is.size, times) in
      zip_set IsOpening tree.memories states patch.memory found.0 (write state patch.offset patch.bytes) h found.1
      (record { is = written_state found.0 state patch.offset patch.bytes le fits.1 found.2.is; pages = found.2.pages })

  pub openings : (patches : List Patch) (states : List MemoryState) → All (PatchFits (map (λ memory. memory.pages) tree.memories)) patches
      → AllZip IsOpening tree.memories states → AllZip IsOpening tree.memories (fold patched states patches)
  openings [] states fits h = h
  openings (patch ∷ patches) states fits h =
      openings patches (patched states patch) (All-drop (PatchFits (map (λ memory. memory.pages) tree.memories)) 1 (patch ∷ patches) fits)
      (patch_one (slice_get states patch.memory) states patch refl
      (All-get_or (PatchFits (map (λ memory. memory.pages) tree.memories)) (patch ∷ patches) 0 patch (omega arith) fits) h)

  pub first_opening : (memory : Memory) → IsMemory memory → IsOpening memory (first_memory memory)
  first_opening memory is = record { is = record { most = is.first; size = is.size; bytes = is.bytes }; pages = refl }

  -- the entering of a function with a start that fits is typed
  pub typed_opening : (number : ℕ) (start : Start) (is : IsStart tree number start) → IsTyped tree is.type.results (opening tree number start)
  typed_opening number start is = record {
    store_is = record {
      memories = zip_each IsOpening IsMemoryState (λ memory state h. h.is) tree.memories (fold patched (map first_memory tree.memories) start.patches)
          (openings start.patches (map first_memory tree.memories) is.fits.patches
          (zip_images IsMemory IsOpening first_memory first_opening tree.memories linked.memories));
      globals = zip_images (λ global. ArgumentFits global.kind global.initial) IsGlobalValue (λ global. global.initial) (λ global h. h) tree.globals linked.globals;
    };
    function = is.function;
    exists = is.exists;
    type = is.type;
    typed = is.typed;
    arguments_are = is.fits.arguments;
    callers_are = refl;
    depth = omega arith;
  }

  -- no run from such a start gets stuck
  pub never_stuck : (number : ℕ) (start : Start) → IsStart tree number start → (n : ℕ) (config : Config) → StepsTo (source_step tree) n (opening tree number start) config
      → HasStep (source_step tree config)
  never_stuck number start is n config comes =
      progress tree linked is.type.results config (typed_run tree linked is.type.results n (opening tree number start) config (typed_opening number start is) comes)

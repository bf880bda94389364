-- The machine follows the rules.
use Rattle.bl_reduce.specs.Runnable.{runnable}
use Rattle.std.proofs.Common.{◌≡◌, ℕ, ◌+◌, ◌≤◌, List, [], ◌∷◌, ◌++◌, length, map, drop, get_or, Some, slice_get, refl, sym, ap, ◌∙◌, subst, arith, length-append}
use Rattle.std.specs.Prelude.{unwrap_or}
use Rattle.bl_base.specs.Runs.{HasStep, trapped as trapped_with}
use Rattle.bl_base.specs.declared.names.ValueType.{ValueType}
use Rattle.bl_base.specs.declared.trap.Trap.TheVariants as trap_kind
use Rattle.bl_wasm.specs.Linked.{IsLinked, context, function_type}
use Rattle.bl_wasm.specs.Typing.{Open, Rule, Plain, expanded, integer, labels}
use Rattle.bl_wasm.specs.declared.instruction.Instr.{Instr}
use Rattle.bl_wasm.specs.declared.instruction.Instr.TheVariants.{Unreachable, Nop, Block, Loop, If, Else, End, Br, BrIf, BrTable, Return, Call, CallIndirect, Drop, Select, LocalGet, LocalSet, LocalTee, GlobalGet, GlobalSet, Load, Store, MemorySize, MemoryGrow, I32Const, I64Const, Integer}
use Rattle.bl_wasm.specs.declared.types.BlockType.{BlockType}
use Rattle.bl_wasm.specs.declared.types.FuncType.{FuncType}
use Rattle.bl_wasm.specs.declared.types.WasmType.{WasmType}
use Rattle.bl_wasm.specs.declared.linked.Signature.{Signature}
use Rattle.bl_wasm.specs.declared.linked.Tree.{Tree}
use Rattle.bl_reduce.specs.Configurations.{State, Config, entering, running, known, with_rest}
use Rattle.bl_reduce.specs.Control.{enter_block, enter_loop, enter_if}
use Rattle.bl_reduce.specs.Steps.{execute, frame_step, source_step}
use Rattle.bl_reduce.specs.TypedConfigurations.{IsRest, IsRunning, IsTyped, AreLabels}
use Rattle.bl_reduce.proofs.Places.{next_place, at_last}
use Rattle.bl_reduce.proofs.Soundness.{progress as has_step}
use Rattle.bl_base.proofs.Lists.{all_chosen}
use Rattle.bl_machine.specs.Bodies.{body_of, prepared_of}
use Rattle.bl_machine.specs.Jumps.{counts_of, counts_of_type, jumps_of}
use Rattle.bl_machine.specs.Machines.{running as on, at_place}
use Rattle.bl_machine.specs.MatchStates.{IsState, match_states, simulates}
use Rattle.bl_machine.specs.Transitions.{executed, executed_at, executed_in, entered_at, advanced, no_jump, in_block, in_loop, chosen_part}
use Rattle.bl_machine.specs.declared.jumps.Jump.{Jump}
use Rattle.bl_machine.specs.declared.machine.Machine.{Machine}
use Rattle.bl_machine.specs.declared.machine.Progress.{Progress}
use Rattle.bl_machine.specs.declared.machine.Progress.TheVariants.{Running, Entering}
use Rattle.bl_machine.proofs.BlockSimulation.{HasCounts, block_simulates, loop_simulates, if_simulates, else_simulates, end_simulates}
use Rattle.bl_machine.proofs.CallSimulation.{bodies, body_got, enter_simulates, call_simulates}
use Rattle.bl_machine.proofs.ConstructEnds.{IsJump, behind, item_there, none_there, jump_there, counts_there}
use Rattle.bl_machine.proofs.MemorySimulation.{load_simulates, store_simulates, size_simulates, grow_simulates}
use Rattle.bl_machine.proofs.BranchSimulation.{branch_simulates, branch_if_simulates, branch_by_simulates, return_simulates}
use Rattle.bl_machine.proofs.Operators.{operate_simulates}
use Rattle.bl_machine.proofs.TypedOperands.{Typed, enough, enough_below, counts_are, wanted_are_there, returns_are_there, branches_are_there, operands_are_there, operator_operands}
use Rattle.bl_machine.proofs.IndirectCallSimulation.{call_indirect_simulates}
use Rattle.bl_machine.proofs.StraightLineSimulation.{Then, push_simulates, drop_simulates, select_simulates, local_get_simulates, local_set_simulates, local_tee_simulates, global_get_simulates, global_set_simulates}

-- a state at an item, behind which it stands, with what its typing says
record Stands (tree : Tree) (type : Signature) (open_ones : List Open) (from : List WasmType) (item : Instr) (place : ℕ) (jump : Jump) (m : Machine) (state : State) : Type 0 where
  is : IsState tree m state
  jumps : IsJump state.frame.function.code.items state.frame.rest jump.ends
  counts : jump.counts ≡ counts_of tree.types item
  here : item ∷ state.frame.rest ≡ drop place state.frame.function.code.items
  arity : state.frame.arity ≡ length type.results
  labels_are : AreLabels (context tree type state.frame.function) state.frame.function.code.items open_ones state.frame.labels
  values : Typed from state.frame.values

module _ (tree : Tree) (linked : IsLinked tree) where
  module _ (type : Signature) (open_ones : List Open) where
    abbrev Simulated : Instr → ℕ → Jump → Machine → State → Type 0
    Simulated item place jump m state = Then tree (executed tree (prepared_of tree) (body_of tree state.frame.function) place jump item m) (execute tree item state)

    plain_simulates : (item : Instr) (from to : List WasmType) (place : ℕ) (jump : Jump) (m : Machine) (state : State) → Plain (context tree type state.frame.function) (labels (context tree type state.frame.function) open_ones) item from to
        → Stands tree type open_ones from item place jump m state → Simulated item place jump m state
    plain_simulates Unreachable from to place jump m state h s = λ has. ap (trapped_with trap_kind.Unreachable) (sym s.is.memories)
    plain_simulates Nop from to place jump m state h s = λ has. s.is
    plain_simulates (Br l) from to place jump m state h s =
        branch_simulates tree m state l s.is
        (branches_are_there tree type state s.arity open_ones l h.0 state.frame.values s.labels_are h.1 (enough from h.2.lower h.0 state.frame.values h.2.before s.values))
    plain_simulates (BrIf l) from to place jump m state h s =
        branch_if_simulates tree m state l s.is (λ v vs e.
        branches_are_there tree type state s.arity open_ones l h.0 vs s.labels_are h.1 (enough_below from h.2.lower h.0 v vs state.frame.values h.2.before s.values e))
    plain_simulates (BrTable default ls) from to place jump m state h s =
        branch_by_simulates tree m state ls default s.is (λ v vs e.
        branches_are_there tree type state s.arity open_ones (unwrap_or (slice_get ls v) default) h.0 vs s.labels_are
        (all_chosen (λ l. slice_get (labels (context tree type state.frame.function) open_ones) l ≡ Some h.0) ls default v h.1)
        (enough_below from h.2.lower h.0 v vs state.frame.values h.2.before s.values e))
    plain_simulates Return from to place jump m state h s =
        λ has. return_simulates tree m state s.is (returns_are_there tree type state s.arity from h.lower h.before s.values)
    plain_simulates (Call number) from to place jump m state h s =
        call_simulates tree m state s.is number (operands_are_there tree type state s.arity number h.0 from h.2.lower h.1 h.2.before s.values)
    plain_simulates (CallIndirect index) from to place jump m state h s =
        call_indirect_simulates tree index m state s.is (λ v vs e.
        wanted_are_there tree index h.0 vs h.1 (enough_below from h.3.lower h.0.params v vs state.frame.values h.3.before s.values e))
    plain_simulates Drop from to place jump m state h s = drop_simulates tree m state s.is
    plain_simulates Select from to place jump m state h s = select_simulates tree m state s.is
    plain_simulates (LocalGet x) from to place jump m state h s = local_get_simulates tree m state x s.is
    plain_simulates (LocalSet x) from to place jump m state h s = local_set_simulates tree m state x s.is
    plain_simulates (LocalTee x) from to place jump m state h s = local_tee_simulates tree m state x s.is
    plain_simulates (GlobalGet x) from to place jump m state h s = global_get_simulates tree m state x s.is
    plain_simulates (GlobalSet x) from to place jump m state h s = global_set_simulates tree m state x s.is
    plain_simulates (Load kind argument) from to place jump m state h s = load_simulates tree kind argument m state s.is
    plain_simulates (Store kind argument) from to place jump m state h s = store_simulates tree kind argument m state s.is
    plain_simulates MemorySize from to place jump m state h s = size_simulates tree m state s.is
    plain_simulates MemoryGrow from to place jump m state h s = grow_simulates tree m state s.is
    plain_simulates (I32Const n) from to place jump m state h s = push_simulates tree m state n s.is
    plain_simulates (I64Const n) from to place jump m state h s = push_simulates tree m state n s.is
    plain_simulates (Integer op) from to place jump m state h s =
        operate_simulates tree op m state s.is
        (operator_operands tree type state s.arity op h.0 (integer h.0.from) from h.2.lower h.1 h.2.before s.values)
    plain_simulates item from to place jump m state h s = absurd h

    -- what is found for an item that opens a construct
    counts_of_item : (kind : BlockType) (found : FuncType) (jump : Jump) → expanded (map function_type tree.types) kind ≡ Some found → jump.counts ≡ counts_of_type tree.types kind
        → HasCounts tree jump found
    counts_of_item kind found jump named e =
        let are = counts_are tree.types kind found named in
        record { params = ap (λ counts. counts.params) e ∙ are.0; results = ap (λ counts. counts.results) e ∙ are.1 }

    params_are_there : (from lower : List WasmType) (found : FuncType) (state : State) → from ≡ lower ++ (found.params ++ []) → Typed from state.frame.values
        → length found.params ≤ length state.frame.values
    params_are_there from lower found state e h =
        let n = enough from lower (found.params ++ []) state.frame.values e h in
        omega (arith, n, length-append found.params [])

    item_simulates : (item : Instr) (from : List WasmType) (behind : List Open) (to : List WasmType) (place : ℕ) (jump : Jump) (m : Machine) (state : State)
        → Rule (context tree type state.frame.function) item open_ones from behind to → Stands tree type open_ones from item place jump m state → Simulated item place jump m state
    item_simulates (Block kind) from behind to place jump m state rule s =
        subst (λ o. Then tree (on (in_block jump m)) (known o (λ type. enter_block type state.frame.rest state))) (sym rule.named)
        (block_simulates tree m state rule.type jump s.is (counts_of_item kind rule.type jump rule.named s.counts) (params_are_there from rule.lower rule.type state rule.before s.values) s.jumps)
    item_simulates (Loop kind) from behind to place jump m state rule s =
        subst (λ o. Then tree (on (in_loop place jump m)) (known o (λ type. enter_loop kind type state))) (sym rule.named)
        (loop_simulates tree m state rule.type jump s.is (counts_of_item kind rule.type jump rule.named s.counts) (params_are_there from rule.lower rule.type state rule.before s.values) kind place s.here)
    item_simulates (If kind) from behind to place jump m state rule s =
        subst (λ o. Then tree (chosen_part jump m) (known o (λ type. enter_if type state))) (sym rule.named)
        (if_simulates tree m state rule.type jump s.is s.jumps (counts_of_item kind rule.type jump rule.named s.counts) (λ v vs e.
        enough_below from rule.lower rule.type.params v vs state.frame.values rule.before s.values e))
    item_simulates Else from behind to place jump m state rule s = else_simulates tree m state jump s.is s.jumps
    item_simulates End from behind to place jump m state rule s = end_simulates tree m state s.is
    item_simulates item from behind to place jump m state rule s = plain_simulates item from to place jump m state rule.rule s

  -- ---- a state

  module _ (results : List ValueType) (m : Machine) (state : State) (is : IsState tree m state) (typed : IsRunning tree results state) where
    abbrev items : List Instr
    items = state.frame.function.code.items

    -- behind the next item
    behind_it : (item : Instr) (rest : List Instr) → state.frame.rest ≡ item ∷ rest → IsState tree (at_place (m.current.place + 1) m) (with_rest rest state)
    behind_it item rest e = record {
      memories = is.memories;
      globals = is.globals;
      lower = is.lower;
      current = record {
        exists = is.current.exists;
        number = is.current.number;
        place = behind item rest m.current.place items (sym e ∙ is.current.place);
        arity = is.current.arity;
        values = is.current.values;
        locals = is.current.locals;
        exits = is.current.exits;
        labels = is.current.labels;
        are_exits = is.current.are_exits;
        values_below = is.current.values_below;
        locals_below = is.current.locals_below;
        labels_below = is.current.labels_below;
      };
      callers = is.callers;
    }

    at_item : (item : Instr) (rest : List Instr) → state.frame.rest ≡ item ∷ rest → HasStep (frame_step tree (item ∷ rest) state)
        → simulates tree (executed_at tree (prepared_of tree) (body_of tree state.frame.function) (slice_get items m.current.place) m) (frame_step tree (item ∷ rest) state)
    at_item item rest e has =
        let left : item ∷ rest ≡ drop m.current.place items = sym e ∙ is.current.place in
        let begins = subst (IsRest (context tree typed.type state.frame.function) items typed.open_ones typed.stack) e typed.begins in
        let next = next_place (context tree typed.type state.frame.function) items item rest typed.open_ones typed.stack begins in
        let jump : Jump = get_or (jumps_of tree.types items) m.current.place no_jump in
        subst (λ o. simulates tree (executed_at tree (prepared_of tree) (body_of tree state.frame.function) o m) (frame_step tree (item ∷ rest) state)) (sym (item_there item rest m.current.place items left))
        (item_simulates typed.type typed.open_ones item typed.stack next.0 next.1 m.current.place jump (at_place (m.current.place + 1) m) (with_rest rest state) next.2 (record {
          is = behind_it item rest e;
          jumps = jump_there tree.types m.current.place items item rest no_jump left;
          counts = counts_there tree.types m.current.place items item rest no_jump left;
          here = left;
          arity = typed.frame_is.arity;
          labels_are = typed.frame_is.labels;
          values = typed.frame_is.values;
        }) has)

    at_the_end : state.frame.rest ≡ [] → simulates tree (executed_at tree (prepared_of tree) (body_of tree state.frame.function) (slice_get items m.current.place) m) (frame_step tree [] state)
    at_the_end e =
        let begins = subst (IsRest (context tree typed.type state.frame.function) items typed.open_ones typed.stack) e typed.begins in
        let last = at_last (context tree typed.type state.frame.function) items typed.open_ones typed.stack begins in
        subst (λ o. simulates tree (executed_at tree (prepared_of tree) (body_of tree state.frame.function) o m) (frame_step tree [] state)) (sym (none_there m.current.place items (sym e ∙ is.current.place)))
        (return_simulates tree m state is
        (returns_are_there tree typed.type state typed.frame_is.arity typed.stack [] last.1 typed.frame_is.values))

    frame_simulates : (rest : List Instr) → state.frame.rest ≡ rest → HasStep (frame_step tree rest state)
        → simulates tree (executed_at tree (prepared_of tree) (body_of tree state.frame.function) (slice_get items m.current.place) m) (frame_step tree rest state)
    frame_simulates [] e has = at_the_end e
    frame_simulates (item ∷ rest) e has = at_item item rest e has

    state_simulates : HasStep (source_step tree (running state)) → simulates tree (advanced tree (prepared_of tree) Running m) (source_step tree (running state))
    state_simulates has =
        subst (λ n. simulates tree (executed_in tree (prepared_of tree) (slice_get tree.functions n) (slice_get (bodies tree) n) m) (source_step tree (running state))) (sym is.current.number)
        (subst (λ o. simulates tree (executed_in tree (prepared_of tree) o (slice_get (bodies tree) state.frame.number) m) (source_step tree (running state))) (sym is.current.exists)
        (subst (λ o. simulates tree (executed_in tree (prepared_of tree) (Some state.frame.function) o m) (source_step tree (running state))) (sym (body_got tree state.frame.number state.frame.function is.current.exists))
        (frame_simulates state.frame.rest refl has)))

  -- a step of the machine follows one of the rules
  pub step_simulates : (results : List ValueType) (progress : Progress) (m : Machine) (config : Config) → match_states tree progress m config → IsTyped tree results config
      → simulates tree (advanced tree (prepared_of tree) progress m) (source_step tree config)
  step_simulates results Running m (running state) is typed = state_simulates results m state is typed (has_step tree (runnable tree linked) results (running state) typed)
  step_simulates results (Entering called) m (entering store number arguments callers) is typed =
      subst (λ n. simulates tree (entered_at (slice_get (bodies tree) n) n m) (source_step tree (entering store number arguments callers))) (sym is.0)
      (enter_simulates tree results m store number arguments callers is.1 typed)
  step_simulates results progress m config is typed = absurd is

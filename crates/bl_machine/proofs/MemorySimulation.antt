-- The machine follows the memory items.
use Rattle.std.proofs.Common.{◌≡◌, ℕ, ◌+◌, List, length, set, get_or, Option, Some, None, slice_get, sym, ap, ◌∙◌, subst}
use Rattle.std.specs.Prelude.{nat_le, if◌then◌else◌, unwrap_or}
use Rattle.std.proofs.lemmas.Option.{get_or_from_slice_get}
use Rattle.bl_base.specs.Bytes.{bytes_of, number_of, write}
use Rattle.bl_base.specs.Runs.{MemoryState, Next, trapped as trapped_with}
use Rattle.bl_base.specs.declared.trap.Trap.TheVariants.{OutOfBounds}
use Rattle.bl_ops.specs.Access.{extended, narrowed, width_of}
use Rattle.bl_ops.specs.declared.access.AccessKind.{AccessKind}
use Rattle.bl_wasm.specs.declared.instruction.MemoryArgument.{MemoryArgument}
use Rattle.bl_wasm.specs.declared.linked.Memory.{Memory}
use Rattle.bl_wasm.specs.declared.linked.Tree.{Tree}
use Rattle.bl_reduce.specs.Configurations.{State, Config, go, trap, known, pop, push as push_value, with_values}
use Rattle.bl_reduce.specs.Memory.{read, grow, with_memory as with_memory_of, set_memory, load_at, load, store_at, store, memory_size, grow_within, memory_grow}
use Rattle.bl_machine.specs.Machines.{Stepped, running, trapped, top, popped, push, memory_at, with_memory, loaded, stored, load_from, store_to, grown}
use Rattle.bl_machine.specs.MatchStates.{IsState}
use Rattle.bl_memory.specs.Spaces.{loaded_at, no_memory, stored_at}
use Rattle.bl_machine.specs.Transitions.{grown_within, reserve_of}
use Rattle.bl_machine.specs.declared.machine.Machine.{Machine}
use Rattle.bl_machine.proofs.BlockSimulation.{either}
use Rattle.bl_machine.proofs.StraightLineSimulation.{Then, popping, knowing, push_simulates}

module _ (tree : Tree) where
  -- the number of the memory that the items of a state's function mean
  abbrev pub memory_number : State → ℕ
  memory_number state = unwrap_or state.frame.function.memory (length tree.memories)

  using_memory : (m : Machine) (state : State) → IsState tree m state → (step : ℕ → MemoryState → Next Config) (stepped : ℕ → Stepped)
      → ((number : ℕ) (memory : MemoryState) → memory_at number m ≡ memory → Then tree (stepped number) (step number memory))
      → Then tree (stepped (memory_number state)) (with_memory_of state step)
  using_memory m state is step stepped next = from state.frame.function.memory
    where
      from : (o : Option ℕ) → Then tree (stepped (unwrap_or o (length tree.memories))) (known o (λ number. known (slice_get state.store.memories number) (λ memory. step number memory)))
      from None has = absurd has
      from (Some number) has =
          knowing tree (slice_get state.store.memories number) (λ memory. step number memory) (stepped number) (λ memory got.
          next number memory (ap (λ memories. get_or memories number no_memory) is.memories ∙ get_or_from_slice_get state.store.memories number memory no_memory got)) has

  remembered : (m : Machine) (state : State) (is : IsState tree m state) (number : ℕ) (memory : MemoryState) → IsState tree (with_memory number memory m) (set_memory number memory state)
  remembered m state is number memory = record {
    memories = ap (λ memories. set memories number memory) is.memories;
    globals = is.globals;
    lower = is.lower;
    current = is.current;
    callers = is.callers;
  }

  -- ---- accesses

  loading : (kind : AccessKind) (address : ℕ) (m : Machine) (state : State) → IsState tree m state → (number : ℕ) (memory : MemoryState) → memory_at number m ≡ memory
      → Then tree (loaded kind address number m) (load_at kind address state number memory)
  loading kind address m state is number memory there =
      let value = extended kind (number_of (read memory address (width_of kind))) in
      subst (λ found. Then tree (if nat_le (address + width_of kind) (length found.bytes) then push (loaded_at kind address found) m else trapped OutOfBounds m) (load_at kind address state number memory))
      (sym there)
      (either tree (nat_le (address + width_of kind) (length memory.bytes)) (push value m) (trapped OutOfBounds m) (push_value value state) (trap OutOfBounds state)
      (push_simulates tree m state value is) (λ has. ap (trapped_with OutOfBounds) (sym is.memories)))

  pub load_simulates : (kind : AccessKind) (argument : MemoryArgument) (m : Machine) (state : State) → IsState tree m state
      → Then tree (load_from kind argument.offset (memory_number state) m) (load kind argument state)
  load_simulates kind argument m state is =
      popping tree m state is (λ address state. with_memory_of state (load_at kind (address + argument.offset) state)) (load_from kind argument.offset (memory_number state) m) (λ v vs e t below.
      subst (λ address. Then tree (loaded kind (address + argument.offset) (memory_number state) (popped m))
      (with_memory_of (with_values vs state) (load_at kind (v + argument.offset) (with_values vs state)))) (sym t)
      (using_memory (popped m) (with_values vs state) below (load_at kind (v + argument.offset) (with_values vs state)) (λ number. loaded kind (v + argument.offset) number (popped m))
      (loading kind (v + argument.offset) (popped m) (with_values vs state) below)))

  storing : (kind : AccessKind) (value address : ℕ) (m : Machine) (state : State) → IsState tree m state → (number : ℕ) (memory : MemoryState) → memory_at number m ≡ memory
      → Then tree (stored kind address value number m) (store_at kind value address state number memory)
  storing kind value address m state is number memory there =
      let new = write memory address (bytes_of (width_of kind) (narrowed kind value)) in
      subst (λ found. Then tree (if nat_le (address + width_of kind) (length found.bytes) then running (with_memory number (stored_at kind address value found) m) else trapped OutOfBounds m)
      (store_at kind value address state number memory)) (sym there)
      (either tree (nat_le (address + width_of kind) (length memory.bytes)) (running (with_memory number new m)) (trapped OutOfBounds m) (go (set_memory number new state)) (trap OutOfBounds state)
      (λ has. remembered m state is number new) (λ has. ap (trapped_with OutOfBounds) (sym is.memories)))

  pub store_simulates : (kind : AccessKind) (argument : MemoryArgument) (m : Machine) (state : State) → IsState tree m state
      → Then tree (store_to kind argument.offset (memory_number state) m) (store kind argument state)
  store_simulates kind argument m state is =
      popping tree m state is (λ value state. pop state (λ address state. with_memory_of state (store_at kind value (address + argument.offset) state)))
      (store_to kind argument.offset (memory_number state) m) (λ value above e t is_value.
      popping tree (popped m) (with_values above state) is_value (λ address state. with_memory_of state (store_at kind value (address + argument.offset) state))
      (store_to kind argument.offset (memory_number state) m) (λ v vs f u below.
      subst (λ x. Then tree (stored kind (top (popped m) + argument.offset) x (memory_number state) (popped (popped m)))
      (with_memory_of (with_values vs state) (store_at kind value (v + argument.offset) (with_values vs state)))) (sym t)
      (subst (λ address. Then tree (stored kind (address + argument.offset) value (memory_number state) (popped (popped m)))
      (with_memory_of (with_values vs state) (store_at kind value (v + argument.offset) (with_values vs state)))) (sym u)
      (using_memory (popped (popped m)) (with_values vs state) below (store_at kind value (v + argument.offset) (with_values vs state))
      (λ number. stored kind (v + argument.offset) value number (popped (popped m))) (storing kind value (v + argument.offset) (popped (popped m)) (with_values vs state) below)))))

  -- ---- sizes

  pub size_simulates : (m : Machine) (state : State) → IsState tree m state → Then tree (push (memory_at (memory_number state) m).pages m) (memory_size state)
  size_simulates m state is =
      using_memory m state is (λ number memory. push_value memory.pages state) (λ number. push (memory_at number m).pages m) (λ number memory there.
      subst (λ found. Then tree (push found.pages m) (push_value memory.pages state)) (sym there) (push_simulates tree m state memory.pages is))

  growing : (reserve delta : ℕ) (m : Machine) (state : State) → IsState tree m state → (number : ℕ) (memory : MemoryState) → memory_at number m ≡ memory
      → Then tree (grown reserve delta number m) (grow_within reserve delta number memory state)
  growing reserve delta m state is number memory there =
      subst (λ found. Then tree (if nat_le (found.pages + delta) reserve then push found.pages (with_memory number (grow found delta) m) else push 4294967295 m)
      (grow_within reserve delta number memory state)) (sym there)
      (either tree (nat_le (memory.pages + delta) reserve) (push memory.pages (with_memory number (grow memory delta) m)) (push 4294967295 m)
      (push_value memory.pages (set_memory number (grow memory delta) state)) (push_value 4294967295 state)
      (push_simulates tree (with_memory number (grow memory delta) m) (set_memory number (grow memory delta) state) memory.pages (remembered m state is number (grow memory delta)))
      (push_simulates tree m state 4294967295 is))

  pub grow_simulates : (m : Machine) (state : State) → IsState tree m state → Then tree (grown_within tree.memories (memory_number state) m) (memory_grow tree state)
  grow_simulates m state is =
      popping tree m state is (λ delta state. with_memory_of state (λ number memory. known (slice_get tree.memories number) (λ defined. grow_within defined.reserve delta number memory state)))
      (grown_within tree.memories (memory_number state) m) (λ v vs e t below.
      subst (λ delta. Then tree (grown (reserve_of (slice_get tree.memories (memory_number state))) delta (memory_number state) (popped m))
      (with_memory_of (with_values vs state) (λ number memory. known (slice_get tree.memories number) (λ defined. grow_within defined.reserve v number memory (with_values vs state))))) (sym t)
      (using_memory (popped m) (with_values vs state) below (λ number memory. known (slice_get tree.memories number) (λ defined. grow_within defined.reserve v number memory (with_values vs state)))
      (λ number. grown (reserve_of (slice_get tree.memories number)) v number (popped m)) (λ number memory there. from number memory there v vs below (slice_get tree.memories number))))
    where
      from : (number : ℕ) (memory : MemoryState) → memory_at number m ≡ memory → (v : ℕ) (vs : List ℕ) → IsState tree (popped m) (with_values vs state) → (o : Option Memory)
          → Then tree (grown (reserve_of o) v number (popped m)) (known o (λ defined. grow_within defined.reserve v number memory (with_values vs state)))
      from number memory there v vs below None has = absurd has
      from number memory there v vs below (Some defined) has = growing defined.reserve v (popped m) (with_values vs state) below number memory there has

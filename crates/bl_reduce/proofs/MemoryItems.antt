-- Steps of memory instructions keep types.
use Rattle.std.proofs.Common.{◌≡◌, ℕ, zero, suc, ◌+◌, ◌*◌, ◌/◌, ◌%◌, ◌<◌, ◌≤◌, ◌^◌, Bool, true, false, cond, leb, List, [], ◌∷◌, ◌++◌, length, replicate, reverse, take, drop, Option, Some, None, slice_get, refl, ap, ◌∙◌, arith, mod-lt, pow_pos, length-append, length-take, length-drop}
use Rattle.std.specs.Prelude.{IfSome}
use Rattle.std.specs.List.{All}
use Rattle.std.proofs.lemmas.Bool.{leb-true}
use Rattle.std.proofs.lemmas.List.{length-replicate}
use Rattle.std.proofs.lemmas.List.Elements.{All-nil, All-cons, All-append, All-take, All-drop, All-get_or, All-replicate}
use Rattle.std.proofs.lemmas.Nat.{pow-add}
use Rattle.bl_base.specs.Runs.{MemoryState, Next}
use Rattle.bl_base.specs.declared.names.ValueType.{ValueType}
use Rattle.bl_base.specs.declared.trap.Trap.TheVariants.{OutOfBounds}
use Rattle.bl_ops.proofs.Fits.{load_fits}
use Rattle.bl_ops.specs.Access.{access_type, width_of, extended, narrowed}
use Rattle.bl_ops.specs.declared.access.AccessKind.{AccessKind}
use Rattle.bl_wasm.specs.Linked.{IsFunction, IsMemory, seen}
use Rattle.bl_reduce.specs.Runnable.{IsRunnable}
use Rattle.bl_wasm.specs.Typing.{Open, Arrow, integer}
use Rattle.bl_wasm.specs.declared.instruction.MemoryArgument.{MemoryArgument}
use Rattle.bl_wasm.specs.declared.types.WasmType.{WasmType}
use Rattle.bl_wasm.specs.declared.types.WasmType.TheVariants.{I32}
use Rattle.bl_wasm.specs.declared.linked.Memory.{Memory}
use Rattle.bl_wasm.specs.declared.linked.Signature.{Signature}
use Rattle.bl_wasm.specs.declared.linked.Tree.{Tree}
use Rattle.bl_reduce.specs.Configurations.{State, Config, go, trap, known, pop, push, with_values}
use Rattle.bl_reduce.specs.Memory.{number_of, bytes_of, read, write, grow, with_memory, set_memory, within, load_at, load, store_at, store, memory_size, memory_grow, grow_within}
use Rattle.bl_reduce.specs.TypedConfigurations.{IsValue, IsMemoryState, BeginsWith, IsTypedStep}
use Rattle.bl_reduce.proofs.Ready.{Ready, Onto, onto, taken, going, pushing, popping, trapping, knowing, integer_value}
use Rattle.bl_base.proofs.Lists.{zip_get, zip_set, all_get, within_get}
use Rattle.bl_base.proofs.ByteLemmas.{length-bytes_of}

-- ---- bytes

eight_more : (n : ℕ) → 2 ^ (8 * suc n) ≡ 256 * 2 ^ (8 * n)
eight_more n = ap (λ k. 2 ^ k) {x = 8 * suc n} {y = 8 + 8 * n} (omega arith) ∙ pow-add 2 8 (8 * n)

-- a number of so many bytes
number_below : (bytes : List ℕ) (n : ℕ) → All (λ byte. byte < 2 ^ 8) bytes → length bytes ≤ n → number_of bytes < 2 ^ (8 * n)
number_below [] n all le = pow_pos (8 * n)
number_below (byte ∷ bytes) zero all le = absurd (omega (arith, le))
number_below (byte ∷ bytes) (suc n) all le =
    let first : byte < 2 ^ 8 = All-get_or (λ byte. byte < 2 ^ 8) (byte ∷ bytes) 0 0 (omega arith) all in
    let others = number_below bytes n (All-drop (λ byte. byte < 2 ^ 8) 1 (byte ∷ bytes) all) (omega (arith, le)) in
    omega (arith, first, others, eight_more n)

pub bytes_all : (width number : ℕ) → All (λ byte. byte < 2 ^ 8) (bytes_of width number)
bytes_all zero number = All-nil (λ byte. byte < 2 ^ 8)
bytes_all (suc width) number = All-cons (λ byte. byte < 2 ^ 8) (number % 256) (bytes_of width (number / 256)) (mod-lt number (omega arith)) (bytes_all width (number / 256))

-- ---- memories

pub written_state : (defined : Memory) (memory : MemoryState) (address : ℕ) (new : List ℕ) → address + length new ≤ length memory.bytes → All (λ byte. byte < 2 ^ 8) new
    → IsMemoryState defined memory → IsMemoryState defined (write memory address new)
written_state defined memory address new le all is = record {
  most = is.most;
  size =
      let front = length-take address memory.bytes in
      let back = length-drop (address + length new) memory.bytes in
      let whole = length-append (take address memory.bytes ++ new) (drop (address + length new) memory.bytes) in
      let halves = length-append (take address memory.bytes) new in
      omega (arith, le, front, back, whole, halves, is.size);
  bytes = All-append (λ byte. byte < 2 ^ 8) (take address memory.bytes ++ new) (drop (address + length new) memory.bytes)
      (All-append (λ byte. byte < 2 ^ 8) (take address memory.bytes) new (All-take (λ byte. byte < 2 ^ 8) address memory.bytes is.bytes) all)
      (All-drop (λ byte. byte < 2 ^ 8) (address + length new) memory.bytes is.bytes);
}

pub grown_state : (defined : Memory) (memory : MemoryState) (delta : ℕ) → memory.pages + delta ≤ defined.reserve → IsMemoryState defined memory → IsMemoryState defined (grow memory delta)
grown_state defined memory delta le is = record {
  most = le;
  size =
      let whole = length-append memory.bytes (replicate (delta * 65536) 0) in
      let zeros = length-replicate {A = ℕ} (delta * 65536) 0 in
      omega (arith, whole, zeros, is.size);
  bytes = All-append (λ byte. byte < 2 ^ 8) memory.bytes (replicate (delta * 65536) 0) is.bytes (All-replicate (λ byte. byte < 2 ^ 8) (delta * 65536) 0 (omega arith));
}

module _ (tree : Tree) (linked : IsRunnable tree) (results : List ValueType) (type : Signature) (open_ones : List Open) where
  abbrev Steps : Next Config → Type 0
  Steps next = IsTypedStep tree results next

  abbrev ReadyAt : List WasmType → State → Type 0
  ReadyAt top state = Ready tree results type open_ones top state

  abbrev OntoAt : List WasmType → State → Type 0
  OntoAt top state = Onto tree results type open_ones top state

  -- the memory of a function that has one
  abbrev Uses : State → (ℕ → MemoryState → Next Config) → Type 0
  Uses state step = (number : ℕ) (defined : Memory) (memory : MemoryState) → slice_get tree.memories number ≡ Some defined → slice_get state.store.memories number ≡ Some memory
      → IsMemoryState defined memory → Steps (step number memory)

  using_number : (o : Option ℕ) (state : State) (top : List WasmType) (step : ℕ → MemoryState → Next Config) → 1 ≤ seen o → IfSome o (λ number. number < length tree.memories)
      → ReadyAt top state → Uses state step → Steps (known o (λ number. known (slice_get state.store.memories number) (λ memory. step number memory)))
  using_number None state top step some exists ready next = absurd (omega (arith, some))
  using_number (Some number) state top step some exists ready next =
      let defined = within_get tree.memories number exists in
      let memory = zip_get IsMemoryState tree.memories state.store.memories number defined.0 ready.store_is.memories defined.1 in
      knowing tree results (slice_get state.store.memories number) memory.0 (λ memory. step number memory) memory.1 (next number defined.0 memory.0 defined.1 memory.1 memory.2)

  using_memory : (state : State) (top : List WasmType) (step : ℕ → MemoryState → Next Config) → 1 ≤ seen state.frame.function.memory → ReadyAt top state → Uses state step
      → Steps (with_memory state step)
  using_memory state top step some ready next =
      let function : IsFunction tree state.frame.function = all_get (IsFunction tree) tree.functions state.frame.number state.frame.function linked.functions ready.exists in
      using_number state.frame.function.memory state top step some function.memory ready next

  -- the state with another memory
  remembered : (number : ℕ) (defined : Memory) (memory : MemoryState) (top : List WasmType) (state : State) → slice_get tree.memories number ≡ Some defined → IsMemoryState defined memory
      → ReadyAt top state → ReadyAt top (set_memory number memory state)
  remembered number defined memory top state e is ready = record {
    store_is = record {
      memories = zip_set IsMemoryState tree.memories state.store.memories number defined memory ready.store_is.memories e is;
      globals = ready.store_is.globals;
    };
    exists = ready.exists;
    typed = ready.typed;
    arity = ready.arity;
    locals = ready.locals;
    labels = ready.labels;
    values = ready.values;
    callers_are = ready.callers_are;
    depth = ready.depth;
  }

  at_test : (test : Bool) (step other : Next Config) → (test ≡ true → Steps step) → Steps other → Steps (cond test step other)
  at_test true step other h i = h refl
  at_test false step other h i = i

  -- within a memory or not
  keeping_within : (memory : MemoryState) (address width : ℕ) (top : List WasmType) (state : State) (step : Next Config) → ReadyAt top state
      → (address + width ≤ length memory.bytes → Steps step) → Steps (within memory address width state step)
  keeping_within memory address width top state step ready next =
      at_test (leb (address + width) (length memory.bytes)) step (trap OutOfBounds state) (λ e. next (leb-true (address + width) (length memory.bytes) e))
      (trapping tree results type open_ones top OutOfBounds state ready)

  -- what a load makes of the bytes of a memory
  read_value : (kind : AccessKind) (address : ℕ) (defined : Memory) (memory : MemoryState) → IsMemoryState defined memory
      → IsValue (integer (access_type kind)) (extended kind (number_of (read memory address (width_of kind))))
  read_value kind address defined memory is =
      let bytes = All-take (λ byte. byte < 2 ^ 8) (width_of kind) (drop address memory.bytes) (All-drop (λ byte. byte < 2 ^ 8) address memory.bytes is.bytes) in
      let long : length (read memory address (width_of kind)) ≤ width_of kind = omega (arith, length-take (width_of kind) (drop address memory.bytes)) in
      integer_value (access_type kind) (extended kind (number_of (read memory address (width_of kind))))
      (load_fits kind (number_of (read memory address (width_of kind))) (number_below (read memory address (width_of kind)) (width_of kind) bytes long))

  loading : (kind : AccessKind) (address : ℕ) (low : List WasmType) (state : State) → ReadyAt low state → OntoAt (integer (access_type kind) ∷ low) state → Uses state (load_at kind address state)
  loading kind address low state ready on number defined memory e f is =
      keeping_within memory address (width_of kind) low state (push (extended kind (number_of (read memory address (width_of kind)))) state) ready
      (λ le. pushing tree results type open_ones low (integer (access_type kind)) (extended kind (number_of (read memory address (width_of kind)))) state ready
      (read_value kind address defined memory is) on)

  pub load_steps : (kind : AccessKind) (argument : MemoryArgument) (from to : List WasmType) (state : State) → 1 ≤ seen state.frame.function.memory
      → Arrow (I32 ∷ []) (integer (access_type kind) ∷ []) from to → ReadyAt (reverse from) state → BeginsWith tree type open_ones to state.frame → Steps (load kind argument state)
  load_steps kind argument from to state some a ready begins =
      popping tree results type open_ones (reverse a.lower) I32 state (λ address state. with_memory state (load_at kind (address + argument.offset) state))
      (taken tree results type open_ones from a.lower (I32 ∷ []) state a.before ready)
      (λ address below h r. using_memory (with_values below state) (reverse a.lower) (load_at kind (address + argument.offset) (with_values below state)) some r
      (loading kind (address + argument.offset) (reverse a.lower) (with_values below state) r
      (onto tree results type open_ones to a.lower (integer (access_type kind) ∷ []) (with_values below state) a.behind begins)))

  storing : (kind : AccessKind) (value address : ℕ) (low : List WasmType) (state : State) → ReadyAt low state → OntoAt low state → Uses state (store_at kind value address state)
  storing kind value address low state ready on number defined memory e f is =
      let new : List ℕ = bytes_of (width_of kind) (narrowed kind value) in
      keeping_within memory address (width_of kind) low state (go (set_memory number (write memory address new) state)) ready
      (λ le. going tree results type open_ones low (set_memory number (write memory address new) state)
      (remembered number defined (write memory address new) low state e
      (written_state defined memory address new (omega (arith, le, length-bytes_of (width_of kind) (narrowed kind value))) (bytes_all (width_of kind) (narrowed kind value)) is) ready)
      (record { stack = on.stack; turned = on.turned; begins = on.begins }))

  pub store_steps : (kind : AccessKind) (argument : MemoryArgument) (from to : List WasmType) (state : State) → 1 ≤ seen state.frame.function.memory
      → Arrow (I32 ∷ integer (access_type kind) ∷ []) [] from to → ReadyAt (reverse from) state → BeginsWith tree type open_ones to state.frame → Steps (store kind argument state)
  store_steps kind argument from to state some a ready begins =
      popping tree results type open_ones (I32 ∷ reverse a.lower) (integer (access_type kind)) state
      (λ value state. pop state (λ address state. with_memory state (store_at kind value (address + argument.offset) state)))
      (taken tree results type open_ones from a.lower (I32 ∷ integer (access_type kind) ∷ []) state a.before ready)
      (λ value below h r. popping tree results type open_ones (reverse a.lower) I32 (with_values below state)
      (λ address state. with_memory state (store_at kind value (address + argument.offset) state)) r
      (λ address below h r. using_memory (with_values below state) (reverse a.lower) (store_at kind value (address + argument.offset) (with_values below state)) some r
      (storing kind value (address + argument.offset) (reverse a.lower) (with_values below state) r
      (onto tree results type open_ones to a.lower [] (with_values below state) a.behind begins))))

  -- sizes are values
  pages_value : (number : ℕ) (defined : Memory) (memory : MemoryState) → slice_get tree.memories number ≡ Some defined → IsMemoryState defined memory → IsValue I32 memory.pages
  pages_value number defined memory e is =
      let bounds : IsMemory defined = all_get IsMemory tree.memories number defined linked.memories e in
      omega (arith, bounds.most, is.most)

  pub memory_size_steps : (from to : List WasmType) (state : State) → 1 ≤ seen state.frame.function.memory
      → Arrow [] (I32 ∷ []) from to → ReadyAt (reverse from) state → BeginsWith tree type open_ones to state.frame → Steps (memory_size state)
  memory_size_steps from to state some a ready begins =
      let r = taken tree results type open_ones from a.lower [] state a.before ready in
      using_memory state (reverse a.lower) (λ number memory. push memory.pages state) some r
      (λ number defined memory e f is. pushing tree results type open_ones (reverse a.lower) I32 memory.pages state r (pages_value number defined memory e is)
      (onto tree results type open_ones to a.lower (I32 ∷ []) state a.behind begins))

  growing : (number : ℕ) (defined : Memory) (memory : MemoryState) (delta : ℕ) (low : List WasmType) (state : State) → slice_get tree.memories number ≡ Some defined → IsMemoryState defined memory
      → ReadyAt low state → OntoAt (I32 ∷ low) state → Steps (grow_within defined.reserve delta number memory state)
  growing number defined memory delta low state e is ready on =
      at_test (leb (memory.pages + delta) defined.reserve) (push memory.pages (set_memory number (grow memory delta) state)) (push 4294967295 state)
      (λ le. pushing tree results type open_ones low I32 memory.pages (set_memory number (grow memory delta) state)
      (remembered number defined (grow memory delta) low state e (grown_state defined memory delta (leb-true (memory.pages + delta) defined.reserve le) is) ready)
      (pages_value number defined memory e is) (record { stack = on.stack; turned = on.turned; begins = on.begins }))
      (pushing tree results type open_ones low I32 4294967295 state ready (omega arith) on)

  pub memory_grow_steps : (from to : List WasmType) (state : State) → 1 ≤ seen state.frame.function.memory
      → Arrow (I32 ∷ []) (I32 ∷ []) from to → ReadyAt (reverse from) state → BeginsWith tree type open_ones to state.frame → Steps (memory_grow tree state)
  memory_grow_steps from to state some a ready begins =
      popping tree results type open_ones (reverse a.lower) I32 state
      (λ delta state. with_memory state (λ number memory. known (slice_get tree.memories number) (λ defined. grow_within defined.reserve delta number memory state)))
      (taken tree results type open_ones from a.lower (I32 ∷ []) state a.before ready)
      (λ delta below h r. using_memory (with_values below state) (reverse a.lower)
      (λ number memory. known (slice_get tree.memories number) (λ defined. grow_within defined.reserve delta number memory (with_values below state))) some r
      (λ number defined memory e f is. knowing tree results (slice_get tree.memories number) defined
      (λ defined. grow_within defined.reserve delta number memory (with_values below state)) e
      (growing number defined memory delta (reverse a.lower) (with_values below state) e is r
      (onto tree results type open_ones to a.lower (I32 ∷ []) (with_values below state) a.behind begins))))

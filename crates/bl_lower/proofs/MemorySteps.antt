-- Loads, stores, and the sizes of memories.
use Rattle.std.proofs.Common.{◌≡◌, ℕ, suc, ◌+◌, ◌-◌, ◌*◌, ◌%◌, ◌^◌, ◌<◌, ◌≤◌, Bool, true, false, List, [], ◌∷◌, ◌++◌, length, take, drop, set, Some, slice_get, refl, sym, ap, ◌∙◌, subst, arith, append_assoc, length-append, ◌⊎◌, inl, inr}
use Rattle.std.specs.Prelude.{nat_lt, if◌then◌else◌}
use Rattle.std.specs.List.{AllZip}
use Rattle.std.proofs.Math.Nat.{mod-eq_of_lt}
use Rattle.std.proofs.lemmas.Bool.{lt-ltb, le-ltb, le-leb, lt-leb, cases_lt}
use Rattle.std.proofs.lemmas.List.{take_all}
use Rattle.std.proofs.lemmas.Option.{slice_get_within, same_Some}
use Rattle.bl_base.specs.Runs.{MemoryState, Next, StepsTo, goes}
use Rattle.bl_base.proofs.RunLemmas.{comes_then}
use Rattle.bl_base.specs.declared.trap.Trap.TheVariants as trap_kind
use Rattle.bl_ops.specs.Access.{extended, narrowed, width_of}
use Rattle.bl_ops.specs.Numerics.{meaning}
use Rattle.bl_ops.specs.declared.access.AccessKind.{AccessKind}
use Rattle.bl_ops.specs.declared.op.Op.TheVariants as op
use Rattle.bl_wasm.specs.declared.instruction.MemoryArgument.{MemoryArgument}
use Rattle.bl_wasm.specs.declared.linked.Memory.{Memory}
use Rattle.bl_wasm.specs.declared.linked.Tree.{Tree}
use Rattle.bl_reduce.specs.Configurations.{State, Config, go, trap, known, push, pop, with_values}
use Rattle.bl_reduce.specs.Memory.{number_of, bytes_of, read, write, grow, with_memory, set_memory, within, load_at, load, store_at, store, grow_within, memory_size, memory_grow}
use Rattle.bl_reduce.specs.TypedConfigurations.{IsMemoryState}
use Rattle.bl_reduce.proofs.MemoryItems.{written_state, grown_state, bytes_all}
use Rattle.bl_base.proofs.Lists.{zip_set, zip_got}
use Rattle.bl_base.proofs.ByteLemmas.{length-bytes_of}
use Rattle.bl_lower.proofs.CodeLayout.{guard, grows, HasAt}
use Rattle.bl_access.specs.Templates.{variable, jump_to, load_of, shift, set as set_command, move}
use Rattle.bl_program.specs.Steps.{Registers, written, Plain, depth, overlay, on}
use Rattle.bl_program.specs.declared.command.Command.TheVariants.{Store}
use Rattle.bl_program.specs.declared.command.Operand.{Operand}
use Rattle.bl_program.specs.declared.command.Operand.TheVariants.{Const}
use Rattle.bl_lower.proofs.Machine.{Program, value_of, effective, place, plain_step, base, padded, space_of}
use Rattle.bl_lower.proofs.MatchStates.{Holds, IsStore, Here, IsProgram}
use Rattle.bl_emit.specs.Constructs.{Target, top}
use Rattle.bl_emit.specs.Shapes.{bottom}
use Rattle.bl_lower.proofs.BranchSteps.{IsSmall}
use Rattle.bl_lower.proofs.Frames.{static_low, static_next, next_low, here_above, store_kept, frame_kept, callers_kept, Reaches, Then, reaches_later, popping, knowing, with_stack}
use Rattle.bl_lower.proofs.StraightLineItems.{LaidOut, arrives, puts, pushes, raised, set_get}
use Rattle.bl_lower.proofs.OperatorSteps.{told, falls}
use Rattle.bl_lower.proofs.MemorySpace.{Segment, segment, reads_same, writes_same, grows_same, padded_length}
use Rattle.bl_lower.proofs.States.{states_are}
use Rattle.bl_lower.proofs.PlainRuns.{Kept, at, does, sets, holds_value, value_is, kept_value, kept_written, read_written, read_other, read_deeper, place_is, place_static, move_is}
use Rattle.bl_ops.proofs.AccessLemmas.{width_small}

-- the space has one length
abbrev all_reserves : List Memory → ℕ
all_reserves [] = 0
all_reserves (memory ∷ memories) = memory.reserve * 65536 + all_reserves memories

space_length : (memories : List Memory) (those : List MemoryState) → AllZip IsMemoryState memories those → length (space_of memories those) ≡ all_reserves memories
space_length [] [] h = refl
space_length [] (s ∷ those) h = absurd h
space_length (memory ∷ memories) [] h = absurd h
space_length (memory ∷ memories) (s ∷ those) h = omega (arith, length-append (padded memory s) (space_of memories those), padded_length memory s h.0, space_length memories those h.1)

-- what the test of an access gives
outside_is : (a pages reach : ℕ) → a < 2 ^ 32 → pages < 2 ^ 32 → reach < 2 ^ 34 → meaning op.Outside a pages reach ≡ (if nat_lt (pages * 65536) (a + reach) then 1 else 0)
unfolding meaning
outside_is a pages reach small few near =
    ap (λ n. if nat_lt (pages % 2 ^ 32 * 65536) (n + reach % 2 ^ 34) then 1 else 0) (mod-eq_of_lt small)
    ∙ ap (λ n. if nat_lt (n * 65536) (a + reach % 2 ^ 34) then 1 else 0) (mod-eq_of_lt few)
    ∙ ap (λ n. if nat_lt (pages * 65536) (a + n) then 1 else 0) (mod-eq_of_lt near)

-- what the commands of memory.grow compute
room_is : (reserve pages : ℕ) → reserve ≤ 256 → pages ≤ reserve → meaning op.I32Sub reserve pages 0 ≡ reserve - pages
unfolding meaning
room_is reserve pages few le =
    let small : reserve < 2 ^ 32 = omega (arith, few) in
    let small_too : pages < 2 ^ 32 = omega (arith, few, le) in
    ap (λ n. (n + 2 ^ 32 - pages % 2 ^ 32) % 2 ^ 32) (mod-eq_of_lt small) ∙ ap (λ n. (reserve + 2 ^ 32 - n) % 2 ^ 32) (mod-eq_of_lt small_too)
    ∙ mod_over (reserve - pages) (reserve + 2 ^ 32 - pages) (omega (arith, few, le)) (omega (arith, few))
  where
    mod_over : (n m : ℕ) → m ≡ n + 2 ^ 32 → n < 2 ^ 32 → m % 2 ^ 32 ≡ n
    mod_over n m e small = omega (arith, e, small)

past_is : (delta room : ℕ) → delta < 2 ^ 32 → room ≤ 256 → meaning op.I32GtU delta room 0 ≡ (if nat_lt room delta then 1 else 0)
unfolding meaning
past_is delta room small few =
    let near : room < 2 ^ 32 = omega (arith, few) in
    ap (λ n. if nat_lt (room % 2 ^ 32) n then 1 else 0) (mod-eq_of_lt small) ∙ ap (λ n. if nat_lt n delta then 1 else 0) (mod-eq_of_lt near)

sum_is : (pages delta : ℕ) → pages + delta ≤ 256 → meaning op.I32Add pages delta 0 ≡ pages + delta
unfolding meaning
sum_is pages delta few =
    let a : pages < 2 ^ 32 = omega (arith, few) in
    let b : delta < 2 ^ 32 = omega (arith, few) in
    let c : pages + delta < 2 ^ 32 = omega (arith, few) in
    ap (λ n. (n + delta % 2 ^ 32) % 2 ^ 32) (mod-eq_of_lt a) ∙ ap (λ n. (pages + n) % 2 ^ 32) (mod-eq_of_lt b) ∙ mod-eq_of_lt c

module _ (tree : Tree) (program : Program) (bound : ℕ) (is : IsProgram tree program bound) where
  -- the memory that the items of a function mean
  pub record Means (state : State) (m : ℕ) (memory : MemoryState) : Type 0 where
    pub got : slice_get state.store.memories m ≡ Some memory
    pub defined : Memory
    pub found : slice_get program.memories m ≡ Some defined
    pub within_it : IsMemoryState defined memory
    pub memory_is : (program.shape state.frame.number).memory ≡ m
    pub size_is : (program.shape state.frame.number).size ≡ program.sizes + m
    pub reserve_is : (program.shape state.frame.number).reserve ≡ defined.reserve
    pub few : memory.pages ≤ 256

  means : (state : State) (s : Plain) (m : ℕ) (memory : MemoryState) → IsStore program s.registers s.space state.store → slice_get tree.functions state.frame.number ≡ Some state.frame.function → state.frame.function.memory ≡ Some m
      → slice_get state.store.memories m ≡ Some memory → Means state m memory
  means state s m memory stored exists named got =
      let d = zip_got IsMemoryState program.memories state.store.memories m memory stored.within got in
      let k = is.memory state.frame.number state.frame.function m d.0 exists named d.1 in
      record {
        got = got;
        defined = d.0;
        found = d.1;
        within_it = d.2;
        memory_is = k.0;
        size_is = k.1;
        reserve_is = k.2;
        few = omega (arith, is.small m d.0 d.1, d.2.most);
      }

  -- a memory is known
  using : (used : ℕ) (state : State) (s : Plain) (step : ℕ → MemoryState → Next Config) → IsStore program s.registers s.space state.store → slice_get tree.functions state.frame.number ≡ Some state.frame.function
      → ((m : ℕ) (memory : MemoryState) → Means state m memory → Then tree program bound used (step m memory) s) → Then tree program bound used (with_memory state step) s
  using used state s step stored exists next =
      knowing tree program bound used state.frame.function.memory s (λ m. known (slice_get state.store.memories m) (λ memory. step m memory)) (λ m named.
      knowing tree program bound used (slice_get state.store.memories m) s (λ memory. step m memory) (λ memory got. next m memory (means state s m memory stored exists named got)))

  -- a size is read
  size_value : (state : State) (s t : Plain) (m : ℕ) (memory : MemoryState) → IsStore program t.registers t.space state.store → Means state m memory → value_of program (variable (program.shape state.frame.number).size) t ≡ memory.pages
  size_value state s t m memory stored u =
      let l = is.layout.sizes in
      ap (λ x. value_of program (variable x) t) u.size_is
      ∙ ap (λ d. t.registers d (program.sizes + m)) (place_static program t (program.sizes + m) (omega (arith, l, slice_get_within program.memories m u.defined u.found)))
      ∙ stored.sizes m memory u.got

  -- ---- the test of an access

  -- what the test leaves
  pub record Guarded (s : Plain) (t : ℕ) (to : ℕ) : Type 0 where
    pub w : ℕ
    pub comes : StepsTo (plain_step program) 2 s (at to (written s.registers (depth s) t w) s)

  guarded : (state : State) (s : Plain) (mark t v reach m : ℕ) (memory : MemoryState) (a : Operand) (b : Bool) → HasAt program.commands s.position (guard mark s.position t a (program.shape state.frame.number).size reach) → program.statics ≤ t
      → value_of program a s ≡ v → v < 2 ^ 32 → reach < 2 ^ 34 → IsStore program s.registers s.space state.store → Means state m memory → nat_lt (memory.pages * 65536) (v + reach) ≡ b
      → Guarded s t (if b then 3 else suc (suc s.position))
  guarded state s mark t v reach m memory a b stands static value small near stored u e =
      let w : ℕ = (if b then 1 else 0) in
      let r' : Registers = written s.registers (depth s) t w in
      let s' : Plain = at (suc s.position) r' s in
      let is_w : meaning op.Outside (value_of program a s) (value_of program (variable (program.shape state.frame.number).size) s) reach ≡ w =
      ap (λ n. meaning op.Outside n (value_of program (variable (program.shape state.frame.number).size) s) reach) value ∙ ap (λ n. meaning op.Outside v n reach) (size_value state s s m memory stored u)
      ∙ outside_is v memory.pages reach small (omega (arith, u.few)) near ∙ ap (λ t. if t then 1 else 0) e in
      record {
        w = w;
        comes = (
          s',
          sets program s mark op.Outside t w a (variable (program.shape state.frame.number).size) (Const reach) stands.0 static is_w,
          (
            at (if b then 3 else suc (suc s.position)) r' s,
            told tree program bound is.layout s' (variable t) 3 (suc (suc s.position)) b stands.1.0 (value_is program s' (variable t) w (static, read_written s.registers (depth s) t w)),
            refl,
          ),
        );
      }

  module _ (open_ones : List Target) (next : ℕ) where
    abbrev low_of : State → ℕ
    low_of state = bottom (program.shape state.frame.number)

    -- behind the test
    behind_test : (stack : List Operand) (state : State) (s : Plain) (w : ℕ) → Here program bound open_ones stack next state s → suc next ≤ (program.shape state.frame.number).limit
        → Here program bound open_ones stack (suc next) state (at (suc (suc s.position)) (written s.registers (depth s) next w) s)
    behind_test stack state s w h limit =
        raised tree program bound is.layout open_ones next stack (suc next) state (at (suc (suc s.position)) (written s.registers (depth s) next w) s) (omega arith) limit
        (here_above program bound is.layout open_ones stack next next 1 (suc (suc s.position)) (written s.registers (depth s) next w) state s (omega arith) (kept_written s.registers (depth s) next 0 w) h)

    -- an access beyond the end
    beyond : (used : ℕ) (stack : List Operand) (state : State) (s : Plain) → Here program bound open_ones stack next state s → used + 3 ≤ bound → (g : Guarded s next 3) → Reaches tree program bound used (trap trap_kind.OutOfBounds state) s
    beyond used stack state s h most g = (
      3,
      omega arith,
      omega (arith, most),
      falls tree program bound is.layout state.store.memories s (at 3 (written s.registers (depth s) next g.w) s) 2 trap_kind.OutOfBounds g.comes is.layout.traps.1.1.1.0
          (states_are program (at 3 (written s.registers (depth s) next g.w) s) state.store
          (store_kept program bound is.layout s.registers (written s.registers (depth s) next g.w) s state.store (λ y lt. kept_written s.registers (depth s) next 0 g.w 0 y (λ same above below. omega (arith, same))) h.store)),
    )

    -- the test decides as the rule does
    accesses : (used : ℕ) (state : State) (s : Plain) (mark v offset width m : ℕ) (memory : MemoryState) (a : Operand) (stack : List Operand) (step : Next Config) → Here program bound open_ones stack next state s
        → HasAt program.commands s.position (guard mark s.position next a (program.shape state.frame.number).size (offset + width)) → value_of program a s ≡ v → v < 2 ^ 32 → offset + width < 2 ^ 34 → Means state m memory → used + 3 ≤ bound
        → (v + offset + width ≤ length memory.bytes → Guarded s next (suc (suc s.position)) → Reaches tree program bound used step s)
        → Reaches tree program bound used (within memory (v + offset) width state step) s
    accesses used state s mark v offset width m memory a stack step h stands value small near u most onward = from (cases_lt (memory.pages * 65536) (v + (offset + width)))
      where
        static : program.statics ≤ next
        static = static_next program bound is.layout open_ones stack next state s h

        from : (memory.pages * 65536 < v + (offset + width)) ⊎ (v + (offset + width) ≤ memory.pages * 65536) → Reaches tree program bound used (within memory (v + offset) width state step) s
        from (inl lt) =
            subst (λ b. Reaches tree program bound used (if b then step else trap trap_kind.OutOfBounds state) s) (sym (lt-leb (v + offset + width) (length memory.bytes) (omega (arith, lt, u.within_it.size))))
            (beyond used stack state s h most (guarded state s mark next v (offset + width) m memory a true stands static value small near h.store u (lt-ltb (memory.pages * 65536) (v + (offset + width)) lt)))
        from (inr le) =
            subst (λ b. Reaches tree program bound used (if b then step else trap trap_kind.OutOfBounds state) s) (sym (le-leb (v + offset + width) (length memory.bytes) (omega (arith, le, u.within_it.size))))
            (onward (omega (arith, le, u.within_it.size)) (guarded state s mark next v (offset + width) m memory a false stands static value small near h.store u (le-ltb (memory.pages * 65536) (v + (offset + width)) le)))

    -- ---- loads

    pub load_reaches : (mark : ℕ) (kind : AccessKind) (argument : MemoryArgument) (stack : List Operand) (state : State) (s : Plain) → Here program bound open_ones stack next state s → IsSmall state.frame.values → argument.offset < 2 ^ 32
        → slice_get tree.functions state.frame.number ≡ Some state.frame.function
        → HasAt program.commands s.position (guard mark s.position next (top stack) (program.shape state.frame.number).size (argument.offset + width_of kind) ++ load_of mark kind (program.shape state.frame.number).memory (suc next) argument.offset (top stack) ∷ [])
        → 3 ≤ bound → suc (suc next) ≤ (program.shape state.frame.number).limit
        → LaidOut tree program bound is.layout state open_ones (suc (shift 2 s.position)) (variable (suc next) ∷ drop 1 stack) (suc (suc next)) → Then tree program bound 0 (load kind argument state) s
    load_reaches mark kind argument stack state s h small near exists stands most limit laid =
        popping tree program bound open_ones next 0 stack state s (λ address state. with_memory state (load_at kind (address + argument.offset) state)) h (λ v vs e holds here.
        using 0 (with_values vs state) s (load_at kind (v + argument.offset) (with_values vs state)) here.store exists (λ m memory u has.
        loads v vs (subst IsSmall e small) holds here m memory u))
      where
        loads : (v : ℕ) (vs : List ℕ) → v < 2 ^ 32 → Holds s.registers (depth s) (low_of state) next (top stack) v → Here program bound open_ones (drop 1 stack) next (with_values vs state) s → (m : ℕ) (memory : MemoryState) → Means (with_values vs state) m memory
            → Reaches tree program bound 0 (load_at kind (v + argument.offset) (with_values vs state) m memory) s
        loads v vs fits holds here m memory u =
            let w = width_of kind in
            accesses 0 (with_values vs state) s mark v argument.offset w m memory (top stack) (drop 1 stack) (push (extended kind (number_of (read memory (v + argument.offset) w))) (with_values vs state)) here
            (stands.0, (stands.1.0, tt)) (holds_value program s (low_of state) next (top stack) v (static_low program bound is.layout state.frame.number) holds) fits (omega (arith, near, width_small kind)) u (omega (arith, most)) (λ le g.
            let r' = written s.registers (depth s) next g.w in
            let t = at (suc (suc s.position)) r' s in
            let value = extended kind (number_of (read memory (v + argument.offset) w)) in
            let a_is : value_of program (top stack) t ≡ v = kept_value program s (suc (suc s.position)) r' next 1 (low_of state) next (top stack) v (static_low program bound is.layout state.frame.number) (omega arith) (kept_written s.registers (depth s) next 0 g.w) holds in
            let place_of : effective program (program.shape state.frame.number).memory argument.offset (value_of program (top stack) t) ≡ base program.memories m + (v + argument.offset) =
            ap (λ n. base program.memories n + (value_of program (top stack) t % 2 ^ 32 + argument.offset)) u.memory_is
            ∙ ap (λ n. base program.memories m + (n + argument.offset)) (ap (λ n. n % 2 ^ 32) a_is ∙ mod-eq_of_lt fits) in
            let bytes : take w (drop (effective program (program.shape state.frame.number).memory argument.offset (value_of program (top stack) t)) s.space) ≡ read memory (v + argument.offset) w =
            ap (λ n. take w (drop n s.space)) place_of ∙ ap (λ l. take w (drop (base program.memories m + (v + argument.offset)) l)) here.store.space_is
            ∙ reads_same program.memories state.store.memories m memory (segment program.memories state.store.memories m memory here.store.within u.got) (v + argument.offset) w le in
            let step : plain_step program t ≡ goes (at (suc (suc (suc s.position))) (written r' (depth s) (suc next) value) t) =
            does program t (load_of mark kind (program.shape state.frame.number).memory (suc next) argument.offset (top stack)) stands.1.1.0
            ∙ ap (λ d. on t (written r' d (suc next) (extended kind (number_of (take w (drop (effective program (program.shape state.frame.number).memory argument.offset (value_of program (top stack) t)) s.space))))))
            (place_is program t (suc next) (let a = static_next program bound is.layout open_ones (drop 1 stack) next (with_values vs state) s here in omega (arith, a)))
            ∙ ap (λ l. on t (written r' (depth s) (suc next) (extended kind (number_of l)))) bytes in
            reaches_later tree program bound 0 2 (push value (with_values vs state)) s t g.comes
            (puts tree program bound is.layout open_ones (suc next) (0 + 2) (drop 1 stack) (with_values vs state) t value (behind_test (drop 1 stack) (with_values vs state) s g.w here (omega (arith, limit))) step (omega (arith, most)) limit laid))

    -- ---- stores

    overlaid : (state : State) (s : Plain) (m : ℕ) (memory : MemoryState) (at_ : ℕ) (new : List ℕ) → IsStore program s.registers s.space state.store → Means state m memory → at_ + length new ≤ length memory.bytes
        → AllZip IsMemoryState program.memories (set state.store.memories m (write memory at_ new))
        → overlay (base program.memories m + at_) new s.space ≡ space_of program.memories (set state.store.memories m (write memory at_ new))
    overlaid state s m memory at_ new stored u le after_ =
        let those = state.store.memories in
        let space = space_of program.memories those in
        let place_of = base program.memories m + at_ in
        let result = space_of program.memories (set those m (write memory at_ new)) in
        let same : take place_of space ++ new ++ drop (place_of + length new) space ≡ result =
        append_assoc (take place_of space) new (drop (place_of + length new) space) ∙ writes_same program.memories those m memory (segment program.memories those m memory stored.within u.got) at_ new le in
        ap (λ l. overlay place_of new l) stored.space_is ∙ ap (take (length space)) same
        ∙ take_all (length space) result (omega (arith, space_length program.memories those stored.within, space_length program.memories (set those m (write memory at_ new)) after_))

    pub store_reaches : (mark : ℕ) (kind : AccessKind) (argument : MemoryArgument) (stack : List Operand) (state : State) (s : Plain) → Here program bound open_ones stack next state s → IsSmall (drop 1 state.frame.values) → argument.offset < 2 ^ 32
        → slice_get tree.functions state.frame.number ≡ Some state.frame.function
        → HasAt program.commands s.position (guard mark s.position next (top (drop 1 stack)) (program.shape state.frame.number).size (argument.offset + width_of kind) ++ Store kind (program.shape state.frame.number).memory argument.offset (top (drop 1 stack)) (top stack) ∷ [])
        → 3 ≤ bound → suc next ≤ (program.shape state.frame.number).limit
        → LaidOut tree program bound is.layout state open_ones (suc (suc (suc s.position))) (drop 1 (drop 1 stack)) (suc next) → Then tree program bound 0 (store kind argument state) s
    store_reaches mark kind argument stack state s h small near exists stands most limit laid =
        popping tree program bound open_ones next 0 stack state s (λ value state. pop state (λ address state. with_memory state (store_at kind value (address + argument.offset) state))) h (λ x xs e_x holds_x here_x.
        popping tree program bound open_ones next 0 (drop 1 stack) (with_values xs state) s (λ address state. with_memory state (store_at kind x (address + argument.offset) state)) here_x (λ v vs e holds here.
        using 0 (with_values vs state) s (store_at kind x (v + argument.offset) (with_values vs state)) here.store exists (λ m memory u has.
        saves x v vs (subst IsSmall (ap (drop 1) e_x ∙ e) small) holds_x holds here m memory u)))
      where
        saves : (x v : ℕ) (vs : List ℕ) → v < 2 ^ 32 → Holds s.registers (depth s) (low_of state) next (top stack) x → Holds s.registers (depth s) (low_of state) next (top (drop 1 stack)) v → Here program bound open_ones (drop 1 (drop 1 stack)) next (with_values vs state) s
            → (m : ℕ) (memory : MemoryState) → Means (with_values vs state) m memory → Reaches tree program bound 0 (store_at kind x (v + argument.offset) (with_values vs state) m memory) s
        saves x v vs fits holds_x holds here m memory u =
            let w = width_of kind in
            accesses 0 (with_values vs state) s mark v argument.offset w m memory (top (drop 1 stack)) (drop 1 (drop 1 stack)) (go (set_memory m (write memory (v + argument.offset) new) (with_values vs state))) here
            (stands.0, (stands.1.0, tt)) (holds_value program s (low_of state) next (top (drop 1 stack)) v (static_low program bound is.layout state.frame.number) holds) fits (omega (arith, near, width_small kind)) u (omega (arith, most)) (λ le g.
            let r' = written s.registers (depth s) next g.w in
            let t = at (suc (suc s.position)) r' s in
            let later : (c : Operand) (n : ℕ) → Holds s.registers (depth s) (low_of state) next c n → value_of program c t ≡ n =
            λ c n k. kept_value program s (suc (suc s.position)) r' next 1 (low_of state) next c n (static_low program bound is.layout state.frame.number) (omega arith) (kept_written s.registers (depth s) next 0 g.w) k in
            let there : effective program (program.shape state.frame.number).memory argument.offset (value_of program (top (drop 1 stack)) t) ≡ base program.memories m + (v + argument.offset) =
            ap (λ n. base program.memories n + (value_of program (top (drop 1 stack)) t % 2 ^ 32 + argument.offset)) u.memory_is
            ∙ ap (λ n. base program.memories m + (n + argument.offset)) (ap (λ n. n % 2 ^ 32) (later (top (drop 1 stack)) v holds) ∙ mod-eq_of_lt fits) in
            let inside : v + argument.offset + length new ≤ length memory.bytes = omega (arith, le, length-bytes_of w (narrowed kind x)) in
            let here_t = behind_test (drop 1 (drop 1 stack)) (with_values vs state) s g.w here limit in
            let within_after = zip_set IsMemoryState program.memories state.store.memories m u.defined (write memory (v + argument.offset) new) here.store.within u.found
            (written_state u.defined memory (v + argument.offset) new inside (bytes_all w (narrowed kind x)) u.within_it) in
            let space_after = overlay (base program.memories m + (v + argument.offset)) new s.space in
            let t2 : Plain = record t { position = suc (suc (suc s.position)); space = space_after } in
            let step : plain_step program t ≡ goes t2 = does program t (Store kind (program.shape state.frame.number).memory argument.offset (top (drop 1 stack)) (top stack)) stands.1.1.0
            ∙ ap (λ n. goes (record t { position = suc (suc (suc s.position)); space = overlay n (bytes_of w (narrowed kind (value_of program (top stack) t))) s.space })) there
            ∙ ap (λ n. goes (record t { position = suc (suc (suc s.position)); space = overlay (base program.memories m + (v + argument.offset)) (bytes_of w (narrowed kind n)) s.space })) (later (top stack) x holds_x) in
            arrives tree program bound is.layout 0 3 open_ones (drop 1 (drop 1 stack)) (suc next) (set_memory m (write memory (v + argument.offset) new) (with_values vs state)) s t2 (omega arith) (omega (arith, most))
            (comes_then (plain_step program) 2 1 s t t2 g.comes (t2, step, refl))
            (record {
              store = record {
                few = here_t.store.few;
                globals = here_t.store.globals;
                within = within_after;
                sizes = sizes_after r' here_t m memory u (write memory (v + argument.offset) new) refl;
                space_is = overlaid (with_values vs state) s m memory (v + argument.offset) new here.store u inside within_after;
              };
              frame_is = here_t.frame_is;
              callers = here_t.callers;
            }) laid)
          where
            new : List ℕ
            new = bytes_of (width_of kind) (narrowed kind x)

            sizes_after : (r' : Registers) → Here program bound open_ones (drop 1 (drop 1 stack)) (suc next) (with_values vs state) (at (suc (suc s.position)) r' s) → (m : ℕ) (memory : MemoryState) → Means (with_values vs state) m memory → (other : MemoryState)
                → memory.pages ≡ other.pages → (i : ℕ) (one : MemoryState) → slice_get (set state.store.memories m other) i ≡ Some one → r' 0 (program.sizes + i) ≡ one.pages
            sizes_after r' k m memory u other same i one found = elim (set_get state.store.memories m i memory other one u.got found) [
              | inl f ↦ subst (λ i. r' 0 (program.sizes + i) ≡ one.pages) f.0 (k.store.sizes m memory u.got ∙ same ∙ ap (λ o. o.pages) f.1)
              | inr f ↦ k.store.sizes i one f.1
            ]

    -- ---- sizes

    pub size_reaches : (mark : ℕ) (stack : List Operand) (state : State) (s : Plain) → Here program bound open_ones stack next state s → slice_get tree.functions state.frame.number ≡ Some state.frame.function
        → slice_get program.commands s.position ≡ Some (move mark next (variable (program.shape state.frame.number).size)) → 1 ≤ bound → suc next ≤ (program.shape state.frame.number).limit
        → LaidOut tree program bound is.layout state open_ones (suc s.position) (variable next ∷ stack) (suc next) → Then tree program bound 0 (memory_size state) s
    size_reaches mark stack state s h exists command most limit laid =
        using 0 state s (λ number memory. push memory.pages state) h.store exists (λ m memory u has.
        pushes tree program bound is.layout open_ones next 0 mark stack state s op.Move (variable (program.shape state.frame.number).size) (Const 0) (Const 0) memory.pages h command
        (move_is (value_of program (variable (program.shape state.frame.number).size) s) 0 0 ∙ size_value state s s m memory h.store u) (omega (arith, most)) limit laid)

    module _ (mark : ℕ) (a : Operand) (stack : List Operand) (state : State) (s : Plain) (v m : ℕ) (memory : MemoryState)
        (stands : HasAt program.commands s.position (grows mark s.position next (program.shape state.frame.number).size (program.shape state.frame.number).reserve a)) (fits : v < 2 ^ 32)
        (holds : Holds s.registers (depth s) (bottom (program.shape state.frame.number)) next a v) (here : Here program bound open_ones stack next state s) (u : Means state m memory) (most : 6 ≤ bound)
        (limit : suc (shift 2 next) ≤ (program.shape state.frame.number).limit)
        (laid : LaidOut tree program bound is.layout state open_ones (suc (shift 6 s.position)) (variable (shift 2 next) ∷ stack) (suc (shift 2 next))) where
      abbrev d : ℕ
      d = depth s

      abbrev z : ℕ
      z = (program.shape state.frame.number).size

      abbrev room : ℕ
      room = u.defined.reserve - memory.pages

      abbrev w : ℕ
      w = if nat_lt room v then 1 else 0

      abbrev r1 : Registers
      r1 = written s.registers d next room

      abbrev r2 : Registers
      r2 = written r1 d (suc next) w

      abbrev r3 : Registers
      r3 = written r2 d (suc (suc next)) memory.pages

      abbrev r4 : Registers
      r4 = written r3 0 (program.sizes + m) (memory.pages + v)

      k1 : Kept s.registers r1 d next 1
      k1 = kept_written s.registers d next 0 room

      k2 : Kept s.registers r2 d next 2
      k2 = λ e y out. kept_written r1 d (suc next) 0 w e y (λ same above below. out same (omega (arith, above)) (omega (arith, below))) ∙ k1 e y (λ same above below. out same above (omega (arith, below)))

      k3 : Kept s.registers r3 d next 3
      k3 = λ e y out. kept_written r2 d (suc (suc next)) 0 memory.pages e y (λ same above below. out same (omega (arith, above)) (omega (arith, below))) ∙ k2 e y (λ same above below. out same above (omega (arith, below)))

      static : program.statics ≤ next
      static = static_next program bound is.layout open_ones stack next state s here

      fewer : u.defined.reserve ≤ 256
      fewer = is.small m u.defined u.found

      stored : (position : ℕ) (r' : Registers) (count : ℕ) → Kept s.registers r' d next count → IsStore program r' s.space state.store
      stored position r' count kept = store_kept program bound is.layout s.registers r' s state.store (λ y lt. kept 0 y (λ same above below. omega (arith, same))) here.store

      value_a : (position : ℕ) (r' : Registers) (count : ℕ) → Kept s.registers r' d next count → value_of program a (at position r' s) ≡ v
      value_a position r' count kept = kept_value program s position r' next count (low_of state) next a v (static_low program bound is.layout state.frame.number) (omega arith) kept holds

      step1 : plain_step program s ≡ goes (at (suc s.position) r1 s)
      step1 = sets program s mark op.I32Sub next room (Const (program.shape state.frame.number).reserve) (variable z) (Const 0) stands.0 static
          (ap (λ n. meaning op.I32Sub n (value_of program (variable z) s) 0) u.reserve_is ∙ ap (λ n. meaning op.I32Sub u.defined.reserve n 0) (size_value state s s m memory here.store u)
          ∙ room_is u.defined.reserve memory.pages fewer u.within_it.most)

      step2 : plain_step program (at (suc s.position) r1 s) ≡ goes (at (suc (suc s.position)) r2 s)
      step2 = sets program (at (suc s.position) r1 s) mark op.I32GtU (suc next) w a (variable next) (Const 0) stands.1.0 (omega (arith, static))
          (ap (λ n. meaning op.I32GtU n (value_of program (variable next) (at (suc s.position) r1 s)) 0) (value_a (suc s.position) r1 1 k1)
          ∙ ap (λ n. meaning op.I32GtU v n 0) (value_is program (at (suc s.position) r1 s) (variable next) room (static, read_written s.registers d next room)) ∙ past_is v room fits (omega (arith, fewer)))

      to_test : (b : Bool) → nat_lt room v ≡ b → StepsTo (plain_step program) 3 s (at (if b then shift 6 s.position else shift 3 s.position) r2 s)
      to_test b e = (
        at (suc s.position) r1 s,
        step1,
        (
          at (suc (suc s.position)) r2 s,
          step2,
          (
            at (if b then shift 6 s.position else shift 3 s.position) r2 s,
            told tree program bound is.layout (at (suc (suc s.position)) r2 s) (variable (suc next)) (shift 6 s.position) (shift 3 s.position) b stands.1.1.0
                (value_is program (at (suc (suc s.position)) r2 s) (variable (suc next)) w (omega (arith, static), read_written r1 d (suc next) w) ∙ ap (λ t. if t then 1 else 0) e),
            refl,
          ),
        ),
      )

      -- the memory doesn't grow
      refused : nat_lt room v ≡ true → Reaches tree program bound 0 (push 4294967295 state) s
      refused e =
          let t = at (shift 6 s.position) r2 s in
          let high = raised tree program bound is.layout open_ones next stack (shift 2 next) state t (omega arith) (omega (arith, limit)) (here_above program bound is.layout open_ones stack next next 2 (shift 6 s.position) r2 state s (omega arith) k2 here) in
          reaches_later tree program bound 0 3 (push 4294967295 state) s t (to_test true e)
          (pushes tree program bound is.layout open_ones (shift 2 next) (0 + 3) mark stack state t op.Move (Const 4294967295) (Const 0) (Const 0) 4294967295 high stands.1.1.1.1.1.1.0 (move_is 4294967295 0 0) (omega (arith, most)) limit laid)

      -- it grows
      grown : nat_lt room v ≡ false → memory.pages + v ≤ u.defined.reserve → Reaches tree program bound 0 (push memory.pages (set_memory m (grow memory v) state)) s
      grown e le =
          arrives tree program bound is.layout 0 6 open_ones (variable (shift 2 next) ∷ stack) (suc (shift 2 next)) (with_values (memory.pages ∷ state.frame.values) (set_memory m (grow memory v) state)) s s6 (omega arith) (omega (arith, most))
          (comes_then (plain_step program) 3 3 s s3 s6 (to_test false e) (s4, step4, (s5, step5, (s6, does program s5 (jump_to (shift 7 s.position)) stands.1.1.1.1.1.0, refl))))
          (record {
            store = record {
              few = here.store.few;
              globals = λ x n got. read_other r3 0 (program.sizes + m) (memory.pages + v) 0 x (λ same. omega (arith, same, slice_get_within state.store.globals x n got, here.store.few)) ∙ (stored 0 r3 3 k3).globals x n got;
              within = zip_set IsMemoryState program.memories state.store.memories m u.defined (grow memory v) here.store.within u.found (grown_state u.defined memory v le u.within_it);
              sizes = sizes_after;
              space_is = here.store.space_is ∙ sym (grows_same program.memories state.store.memories m memory seg v (subst (λ x. memory.pages + v ≤ x.reserve) (same_Some u.defined seg.memory (sym u.found ∙ seg.found)) le));
            };
            frame_is = frame_kept program bound is.layout r3 r4 d open_ones (variable (shift 2 next) ∷ stack) (suc (shift 2 next)) (record state.frame { values = memory.pages ∷ state.frame.values }) (λ y own side. deeper d y (λ f. omega (arith, f))) pushed.frame_is;
            callers = callers_kept program bound is.layout r3 r4 state.frame.number state.callers s.chain (λ e y some le. deeper e y (λ f. omega (arith, some, f))) pushed.callers;
          }) laid
        where
          seg : Segment program.memories state.store.memories m memory
          seg = segment program.memories state.store.memories m memory here.store.within u.got

          s3 : Plain
          s3 = at (shift 3 s.position) r2 s

          s4 : Plain
          s4 = at (shift 4 s.position) r3 s

          s5 : Plain
          s5 = at (shift 5 s.position) r4 s

          s6 : Plain
          s6 = at (shift 7 s.position) r4 s

          step4 : plain_step program s3 ≡ goes s4
          step4 = sets program s3 mark op.Move (suc (suc next)) memory.pages (variable z) (Const 0) (Const 0) stands.1.1.1.0 (omega (arith, static))
              (move_is (value_of program (variable z) s3) 0 0 ∙ size_value state s s3 m memory (stored (shift 3 s.position) r2 2 k2) u)

          z_is : place program z s4 ≡ 0
          z_is = let l = is.layout.sizes in ap (λ x. place program x s4) u.size_is ∙ place_static program s4 (program.sizes + m) (omega (arith, l, slice_get_within program.memories m u.defined u.found))

          step5 : plain_step program s4 ≡ goes s5
          step5 = does program s4 (set_command mark op.I32Add z (variable z) a) stands.1.1.1.1.0
              ∙ ap (λ e. on s4 (written r3 e z (meaning op.I32Add (value_of program (variable z) s4) (value_of program a s4) 0))) z_is
              ∙ ap (λ n. on s4 (written r3 0 z (meaning op.I32Add n (value_of program a s4) 0))) (size_value state s s4 m memory (stored (shift 4 s.position) r3 3 k3) u)
              ∙ ap (λ n. on s4 (written r3 0 z (meaning op.I32Add memory.pages n 0))) (value_a (shift 4 s.position) r3 3 k3)
              ∙ ap (λ n. on s4 (written r3 0 z n)) (sum_is memory.pages v (omega (arith, le, fewer)))
              ∙ ap (λ x. on s4 (written r3 0 x (memory.pages + v))) u.size_is

          deeper : (e y : ℕ) → (e ≡ 0 → ⊥) → r4 e y ≡ r3 e y
          deeper e y ne = read_deeper r3 0 (program.sizes + m) (memory.pages + v) e y ne

          high : Here program bound open_ones stack (suc (shift 2 next)) state (at (shift 7 s.position) r3 s)
          high = raised tree program bound is.layout open_ones next stack (suc (shift 2 next)) state (at (shift 7 s.position) r3 s) (omega arith) limit
              (here_above program bound is.layout open_ones stack next next 3 (shift 7 s.position) r3 state s (omega arith) k3 here)

          pushed : Here program bound open_ones (variable (shift 2 next) ∷ stack) (suc (shift 2 next)) (with_values (memory.pages ∷ state.frame.values) state) (at (shift 7 s.position) r3 s)
          pushed = with_stack tree program bound open_ones (suc (shift 2 next)) stack (variable (shift 2 next) ∷ stack) (memory.pages ∷ state.frame.values) state (at (shift 7 s.position) r3 s) high
              ((let b = next_low program bound is.layout open_ones stack next state s here in omega (arith, b), omega arith, read_written r2 d (suc (suc next)) memory.pages), high.frame_is.values)

          sizes_after : (i : ℕ) (one : MemoryState) → slice_get (set state.store.memories m (grow memory v)) i ≡ Some one → r4 0 (program.sizes + i) ≡ one.pages
          sizes_after i one found = elim (set_get state.store.memories m i memory (grow memory v) one u.got found) [
            | inl f ↦ subst (λ i. r4 0 (program.sizes + i) ≡ one.pages) f.0 (read_written r3 0 (program.sizes + m) (memory.pages + v) ∙ ap (λ o. o.pages) f.1)
            | inr f ↦ read_other r3 0 (program.sizes + m) (memory.pages + v) 0 (program.sizes + i) (λ same. f.0 (omega (arith, same))) ∙ (stored 0 r3 3 k3).sizes i one f.1
          ]

      pub grow_within_reaches : Reaches tree program bound 0 (grow_within u.defined.reserve v m memory state) s
      grow_within_reaches = elim (cases_lt room v) [
        | inl lt ↦ subst (λ b. Reaches tree program bound 0 (if b then push memory.pages (set_memory m (grow memory v) state) else push 4294967295 state) s)
            (sym (lt-leb (memory.pages + v) u.defined.reserve (omega (arith, lt, u.within_it.most)))) (refused (lt-ltb room v lt))
        | inr le ↦ subst (λ b. Reaches tree program bound 0 (if b then push memory.pages (set_memory m (grow memory v) state) else push 4294967295 state) s)
            (sym (le-leb (memory.pages + v) u.defined.reserve (omega (arith, le, u.within_it.most)))) (grown (le-ltb room v le) (omega (arith, le, u.within_it.most)))
      ]

    pub grow_reaches : (mark : ℕ) (stack : List Operand) (state : State) (s : Plain) → Here program bound open_ones stack next state s → IsSmall state.frame.values → slice_get tree.functions state.frame.number ≡ Some state.frame.function
        → HasAt program.commands s.position (grows mark s.position next (program.shape state.frame.number).size (program.shape state.frame.number).reserve (top stack)) → 6 ≤ bound → suc (shift 2 next) ≤ (program.shape state.frame.number).limit
        → LaidOut tree program bound is.layout state open_ones (suc (shift 6 s.position)) (variable (shift 2 next) ∷ drop 1 stack) (suc (shift 2 next)) → Then tree program bound 0 (memory_grow tree state) s
    grow_reaches mark stack state s h small exists stands most limit laid =
        popping tree program bound open_ones next 0 stack state s (λ delta state. with_memory state (λ number memory. known (slice_get tree.memories number) (λ defined. grow_within defined.reserve delta number memory state))) h (λ v vs e holds here.
        using 0 (with_values vs state) s (λ number memory. known (slice_get tree.memories number) (λ defined. grow_within defined.reserve v number memory (with_values vs state))) here.store exists (λ m memory u.
        knowing tree program bound 0 (slice_get tree.memories m) s (λ defined. grow_within defined.reserve v m memory (with_values vs state)) (λ defined found has.
        let same : u.defined ≡ defined = same_Some u.defined defined (sym u.found ∙ ap (λ ms. slice_get ms m) (sym is.memories) ∙ found) in
        subst (λ d. Reaches tree program bound 0 (grow_within d.reserve v m memory (with_values vs state)) s) same
        (grow_within_reaches mark (top stack) (drop 1 stack) (with_values vs state) s v m memory stands (subst IsSmall e small) holds here u most limit laid))))

-- Items that neither open nor close nor leave anything.
use Rattle.std.proofs.Common.{◌≡◌, ℕ, zero, suc, ◌+◌, ◌%◌, ◌^◌, ◌<◌, ◌≤◌, Bool, true, false, List, [], ◌∷◌, drop, set, Some, slice_get, refl, sym, ap, ◌∙◌, subst, arith, ◌⊎◌, inl, inr}
use Rattle.std.specs.Prelude.{◌==◌, if◌then◌else◌}
use Rattle.std.proofs.Math.Nat.{mod-eq_of_lt}
use Rattle.std.proofs.lemmas.List.{length-set}
use Rattle.std.proofs.lemmas.Option.{slice_get_within, none-some, same_Some}
use Rattle.bl_base.specs.Runs.{Next, StepsTo, goes}
use Rattle.bl_ops.specs.Numerics.{meaning}
use Rattle.bl_ops.specs.declared.op.Op.{Op}
use Rattle.bl_ops.specs.declared.op.Op.TheVariants as op
use Rattle.bl_wasm.specs.declared.linked.Tree.{Tree}
use Rattle.bl_reduce.specs.Configurations.{State, Config, go, push, pop, with_values}
use Rattle.bl_reduce.specs.Variables.{local_get, local_set, local_tee, set_local, global_get, global_set, set_global}
use Rattle.bl_access.specs.Templates.{variable, set_of, test_of, jump_to, move}
use Rattle.bl_program.specs.Steps.{Registers, written, Plain, depth, on}
use Rattle.bl_program.specs.declared.command.Operand.{Operand}
use Rattle.bl_program.specs.declared.command.Operand.TheVariants.{Const}
use Rattle.bl_lower.proofs.CodeLayout.{live, IsLaidOut}
use Rattle.bl_lower.proofs.Machine.{Program, value_of, plain_step}
use Rattle.bl_lower.proofs.MatchStates.{Layout, LocalsAt, Here}
use Rattle.bl_emit.specs.Constructs.{Target, top, point}
use Rattle.bl_emit.specs.Shapes.{bottom, local}
use Rattle.bl_lower.proofs.Frames.{is_local, locals_apart, frame_kept, static_low, static_next, next_low, store_kept, frame_later, callers_kept, here_above, Reaches, Then, rebuilt, with_stack, popping, knowing}
use Rattle.bl_lower.proofs.PlainRuns.{at, does, sets, place_static, value_is, holds_value, all_later, kept_written, read_written, read_other, read_deeper, move_is}

-- an element of a list in which one was replaced
pub set_get : {X : Type 0} (xs : List X) (i j : ℕ) (old w v : X) → slice_get xs i ≡ Some old → slice_get (set xs i w) j ≡ Some v → (i ≡ j) × (w ≡ v) ⊎ (i ≡ j → ⊥) × (slice_get xs j ≡ Some v)
set_get [] i j old w v e f = absurd (none-some old e)
set_get (x ∷ xs) zero zero old w v e f = inl (refl, same_Some w v f)
set_get (x ∷ xs) zero (suc j) old w v e f = inr (λ g. omega (arith, g), f)
set_get (x ∷ xs) (suc i) zero old w v e f = inr (λ g. omega (arith, g), f)
set_get (x ∷ xs) (suc i) (suc j) old w v e f = elim (set_get xs i j old w v e f) [
  | inl h ↦ inl (ap suc h.0, h.1)
  | inr h ↦ inr (λ g. h.0 (omega (arith, g)), h.1)
]

module _ (tree : Tree) (program : Program) (bound : ℕ) (layout : Layout program) where
  abbrev pub LaidOut : State → List Target → ℕ → List Operand → ℕ → Type 0
  LaidOut state open_ones position stack next = IsLaidOut program bound state.frame.number open_ones (live (point position stack next)) state.frame.rest

  -- where a way leads to a place that is laid out
  pub arrives : (used j : ℕ) (open_ones : List Target) (stack : List Operand) (next : ℕ) (state : State) (s t : Plain) → 1 ≤ j → used + j ≤ bound → StepsTo (plain_step program) j s t
      → Here program bound open_ones stack next state t → LaidOut state open_ones t.position stack next → Reaches tree program bound used (go state) s
  arrives used j open_ones stack next state s t le most way here laid =
      (j, t, le, most, way, record { open_ones = open_ones; stack = stack; next = next; here = here; laid = laid })

  module _ (open_ones : List Target) (next : ℕ) where
    -- operands below a variable are below a later one
    pub raised : (stack : List Operand) (to : ℕ) (state : State) (s : Plain) → next ≤ to → to ≤ (program.shape state.frame.number).limit
        → Here program bound open_ones stack next state s → Here program bound open_ones stack to state s
    raised stack to state s le limit h =
        let low = bottom (program.shape state.frame.number) in
        rebuilt tree program bound open_ones next stack stack to state.frame.values state.frame.rest state s h
        (all_later s.registers s.registers (depth s) low next low to stack state.frame.values (λ x above below. refl) (omega arith) le h.frame_is.values) (omega (arith, h.frame_is.above, le)) limit

    -- a value is put on the stack by some step: a new variable takes it
    pub puts : (used : ℕ) (stack : List Operand) (state : State) (s : Plain) (v : ℕ) → Here program bound open_ones stack next state s → plain_step program s ≡ goes (at (suc s.position) (written s.registers (depth s) next v) s)
        → used + 1 ≤ bound → suc next ≤ (program.shape state.frame.number).limit
        → LaidOut state open_ones (suc s.position) (variable next ∷ stack) (suc next) → Reaches tree program bound used (push v state) s
    puts used stack state s v h step most limit laid =
        let r' = written s.registers (depth s) next v in
        let t = at (suc s.position) r' s in
        let above = here_above program bound layout open_ones stack next next 1 (suc s.position) r' state s (omega arith) (kept_written s.registers (depth s) next 0 v) h in
        let high = raised stack (suc next) state t (omega arith) limit above in
        arrives used 1 open_ones (variable next ∷ stack) (suc next) (with_values (v ∷ state.frame.values) state) s t (omega arith) most (t, step, refl)
        (with_stack tree program bound open_ones (suc next) stack (variable next ∷ stack) (v ∷ state.frame.values) state t high
        ((next_low program bound layout open_ones stack next state s h, omega arith, read_written s.registers (depth s) next v), high.frame_is.values)) laid

    pub pushes : (used mark : ℕ) (stack : List Operand) (state : State) (s : Plain) (o : Op) (a b c : Operand) (v : ℕ) → Here program bound open_ones stack next state s
        → slice_get program.commands s.position ≡ Some (set_of mark o next a b c) → meaning o (value_of program a s) (value_of program b s) (value_of program c s) ≡ v
        → used + 1 ≤ bound → suc next ≤ (program.shape state.frame.number).limit
        → LaidOut state open_ones (suc s.position) (variable next ∷ stack) (suc next) → Reaches tree program bound used (push v state) s
    pushes used mark stack state s o a b c v h command value most limit laid =
        puts used stack state s v h (sets program s mark o next v a b c command (static_next program bound layout open_ones stack next state s h) value) most limit laid

    pub get_reaches : (x mark : ℕ) (stack : List Operand) (state : State) (s : Plain) → Here program bound open_ones stack next state s
        → slice_get program.commands s.position ≡ Some (move mark next (variable (local (program.shape state.frame.number) x))) → 1 ≤ bound → suc next ≤ (program.shape state.frame.number).limit
        → LaidOut state open_ones (suc s.position) (variable next ∷ stack) (suc next) → Then tree program bound 0 (local_get x state) s
    get_reaches x mark stack state s h command most limit laid =
        knowing tree program bound 0 (slice_get state.frame.locals x) s (λ value. push value state) (λ v got has.
        let a = variable (local (program.shape state.frame.number) x) in
        let is = is_local (program.shape state.frame.number) x (layout.room state.frame.number) (omega (arith, slice_get_within state.frame.locals x v got, h.frame_is.size)) in
        let low = layout.above state.frame.number in
        pushes 0 mark stack state s op.Move a (Const 0) (Const 0) v h command
        (move_is (value_of program a s) 0 0 ∙ value_is program s a v (omega (arith, is.own.0, low), h.frame_is.locals x v got)) (omega (arith, most)) limit laid)

    pub global_get_reaches : (x mark : ℕ) (stack : List Operand) (state : State) (s : Plain) → Here program bound open_ones stack next state s
        → slice_get program.commands s.position ≡ Some (move mark next (variable x)) → 1 ≤ bound → suc next ≤ (program.shape state.frame.number).limit
        → LaidOut state open_ones (suc s.position) (variable next ∷ stack) (suc next) → Then tree program bound 0 (global_get x state) s
    global_get_reaches x mark stack state s h command most limit laid =
        knowing tree program bound 0 (slice_get state.store.globals x) s (λ value. push value state) (λ v got has.
        let a = variable x in
        pushes 0 mark stack state s op.Move a (Const 0) (Const 0) v h command
        (move_is (value_of program a s) 0 0 ∙ ap (λ d. s.registers d x) (place_static program s x (let l = layout.sizes in omega (arith, slice_get_within state.store.globals x v got, h.store.few, l))) ∙ h.store.globals x v got) (omega (arith, most)) limit laid)

    -- a local takes a value
    pub set_reaches : (x v mark : ℕ) (a : Operand) (stack : List Operand) (state : State) (s : Plain) → Here program bound open_ones stack next state s
        → slice_get program.commands s.position ≡ Some (move mark (local (program.shape state.frame.number) x) a) → value_of program a s ≡ v → 1 ≤ bound
        → LaidOut state open_ones (suc s.position) stack next → Then tree program bound 0 (set_local x v state) s
    set_reaches x v mark a stack state s h command value most laid =
        knowing tree program bound 0 (slice_get state.frame.locals x) s (λ old. go (record state { frame = record state.frame { locals = set state.frame.locals x v } })) (λ old got has.
        let shape = program.shape state.frame.number in
        let is = is_local shape x (layout.room state.frame.number) (omega (arith, slice_get_within state.frame.locals x old got, h.frame_is.size)) in
        let low = layout.above state.frame.number in
        arrives 0 1 open_ones stack next (record state { frame = record state.frame { locals = set state.frame.locals x v } }) s t (omega arith) (omega (arith, most))
        (t, sets program s mark op.Move (local shape x) v a (Const 0) (Const 0) command (omega (arith, is.own.0, low)) (move_is (value_of program a s) 0 0 ∙ value), refl)
        (record {
          store = store_kept program bound layout s.registers r' s state.store (λ y lt. read_deeper s.registers (depth s) (local shape x) v 0 y (λ f. omega (arith, f))) h.store;
          frame_is = frame_later program bound layout s.registers r' (depth s) open_ones stack next (set state.frame.locals x v) state.frame
              (λ y above below. read_other s.registers (depth s) (local shape x) v (depth s) y (λ e. omega (arith, above, is.below, e)))
              (length-set state.frame.locals x v) (now old got) h.frame_is;
          callers = callers_kept program bound layout s.registers r' state.frame.number state.callers s.chain
              (λ e y some le. read_deeper s.registers (depth s) (local shape x) v e y (λ f. omega (arith, le, f))) h.callers;
        }) laid)
      where
        r' : Registers
        r' = written s.registers (depth s) (local (program.shape state.frame.number) x) v

        t : Plain
        t = at (suc s.position) r' s

        now : (old : ℕ) → slice_get state.frame.locals x ≡ Some old → LocalsAt program bound r' (depth s) state.frame.number (set state.frame.locals x v)
        now old got y u e = elim (set_get state.frame.locals x y old v u got e) [
          | inl f ↦ subst (λ y. r' (depth s) (local (program.shape state.frame.number) y) ≡ u) f.0
              (read_written s.registers (depth s) (local (program.shape state.frame.number) x) v ∙ f.1)
          | inr f ↦ read_other s.registers (depth s) (local (program.shape state.frame.number) x) v (depth s) (local (program.shape state.frame.number) y)
              (λ same. f.0 (sym (locals_apart (program.shape state.frame.number) y x same))) ∙ h.frame_is.locals y u f.1
        ]

    pub local_set_reaches : (x mark : ℕ) (stack : List Operand) (state : State) (s : Plain) → Here program bound open_ones stack next state s
        → slice_get program.commands s.position ≡ Some (move mark (local (program.shape state.frame.number) x) (top stack)) → 1 ≤ bound
        → LaidOut state open_ones (suc s.position) (drop 1 stack) next → Then tree program bound 0 (local_set x state) s
    local_set_reaches x mark stack state s h command most laid =
        popping tree program bound open_ones next 0 stack state s (λ value state. set_local x value state) h (λ v vs e holds here.
        set_reaches x v mark (top stack) (drop 1 stack) (with_values vs state) s here command
        (holds_value program s (bottom (program.shape state.frame.number)) next (top stack) v (static_low program bound layout state.frame.number) holds) most laid)

    pub local_tee_reaches : (x mark : ℕ) (stack : List Operand) (state : State) (s : Plain) → Here program bound open_ones stack next state s
        → slice_get program.commands s.position ≡ Some (move mark (local (program.shape state.frame.number) x) (top stack)) → 1 ≤ bound
        → LaidOut state open_ones (suc s.position) stack next → Then tree program bound 0 (local_tee x state) s
    local_tee_reaches x mark stack state s h command most laid =
        popping tree program bound open_ones next 0 stack state s (λ value below. set_local x value state) h (λ v vs e holds here.
        set_reaches x v mark (top stack) stack state s h command
        (holds_value program s (bottom (program.shape state.frame.number)) next (top stack) v (static_low program bound layout state.frame.number) holds) most laid)

    -- a global takes a value, at depth 0
    pub global_set_reaches : (x mark : ℕ) (stack : List Operand) (state : State) (s : Plain) → Here program bound open_ones stack next state s
        → slice_get program.commands s.position ≡ Some (move mark x (top stack)) → 1 ≤ bound
        → LaidOut state open_ones (suc s.position) (drop 1 stack) next → Then tree program bound 0 (global_set x state) s
    global_set_reaches x mark stack state s h command most laid =
        popping tree program bound open_ones next 0 stack state s (λ value state. set_global x value state) h (λ v vs e holds here.
        knowing tree program bound 0 (slice_get state.store.globals x) s (λ old. go (record (with_values vs state) { store = record state.store { globals = set state.store.globals x v } })) (λ old got has.
        taken v vs old got here (holds_value program s (bottom (program.shape state.frame.number)) next (top stack) v (static_low program bound layout state.frame.number) holds)))
      where
        taken : (v : ℕ) (vs : List ℕ) (old : ℕ) → slice_get state.store.globals x ≡ Some old → Here program bound open_ones (drop 1 stack) next (with_values vs state) s → value_of program (top stack) s ≡ v
            → Reaches tree program bound 0 (go (record (with_values vs state) { store = record state.store { globals = set state.store.globals x v } })) s
        taken v vs old got here value =
            arrives 0 1 open_ones (drop 1 stack) next (record (with_values vs state) { store = record state.store { globals = set state.store.globals x v } }) s t (omega arith) (omega (arith, most)) (t, step, refl)
            (record {
              store = record {
                within = h.store.within;
                sizes = λ i one found. read_other s.registers 0 x v 0 (program.sizes + i) (λ same. omega (arith, same, slice_get_within state.store.globals x old got, h.store.few)) ∙ h.store.sizes i one found;
                space_is = h.store.space_is;
                few = omega (arith, length-set state.store.globals x v, h.store.few);
                globals = now;
              };
              frame_is = frame_kept program bound layout s.registers r' (depth s) open_ones (drop 1 stack) next (record state.frame { values = vs }) (λ y own side. deeper (depth s) y (λ f. omega (arith, f))) here.frame_is;
              callers = callers_kept program bound layout s.registers r' state.frame.number state.callers s.chain (λ e y some le. deeper e y (λ f. omega (arith, some, f))) here.callers;
            }) laid
          where
            r' : Registers
            r' = written s.registers 0 x v

            t : Plain
            t = at (suc s.position) r' s

            deeper : (e y : ℕ) → (e ≡ 0 → ⊥) → r' e y ≡ s.registers e y
            deeper e y ne = read_deeper s.registers 0 x v e y ne

            step : plain_step program s ≡ goes t
            step = does program s (move mark x (top stack)) command
                ∙ ap (λ d. on s (written s.registers d x (meaning op.Move (value_of program (top stack) s) 0 0))) (place_static program s x (let l = layout.sizes in omega (arith, slice_get_within state.store.globals x old got, h.store.few, l)))
                ∙ ap (λ n. on s (written s.registers 0 x n)) (move_is (value_of program (top stack) s) 0 0 ∙ value)

            now : (y u : ℕ) → slice_get (set state.store.globals x v) y ≡ Some u → r' 0 y ≡ u
            now y u e = elim (set_get state.store.globals x y old v u got e) [
              | inl f ↦ subst (λ y. r' 0 y ≡ u) f.0 (read_written s.registers 0 x v ∙ f.1)
              | inr f ↦ read_other s.registers 0 x v 0 y (λ same. f.0 (sym same)) ∙ h.store.globals y u f.1
            ]

    -- the place behind, by a jump
    pub jumps_on : (used : ℕ) (stack : List Operand) (state : State) (s : Plain) → Here program bound open_ones stack next state s
        → slice_get program.commands s.position ≡ Some (jump_to (suc s.position)) → used + 1 ≤ bound
        → LaidOut state open_ones (suc s.position) stack next → Reaches tree program bound used (go state) s
    jumps_on used stack state s h command most laid =
        let t = at (suc s.position) s.registers s in
        arrives used 1 open_ones stack next state s t (omega arith) most (t, does program s (jump_to (suc s.position)) command, refl)
        (record { store = h.store; frame_is = h.frame_is; callers = h.callers }) laid

    pub drop_reaches : (stack : List Operand) (state : State) (s : Plain) → Here program bound open_ones stack next state s
        → slice_get program.commands s.position ≡ Some (jump_to (suc s.position)) → 1 ≤ bound
        → LaidOut state open_ones (suc s.position) (drop 1 stack) next → Then tree program bound 0 (pop state (λ value state. go state)) s
    drop_reaches stack state s h command most laid =
        popping tree program bound open_ones next 0 stack state s (λ value state. go state) h (λ v vs e holds here has.
        jumps_on 0 (drop 1 stack) (with_values vs state) s here command (omega (arith, most)) laid)

    pub select_reaches : (mark : ℕ) (stack : List Operand) (state : State) (s : Plain) → Here program bound open_ones stack next state s
        → slice_get program.commands s.position ≡ Some (set_of mark op.Select next (top (drop 1 (drop 1 stack))) (top (drop 1 stack)) (top stack)) → 1 ≤ bound → suc next ≤ (program.shape state.frame.number).limit
        → LaidOut state open_ones (suc s.position) (variable next ∷ drop 1 (drop 1 (drop 1 stack))) (suc next)
        → Then tree program bound 0 (pop state (λ c state. pop state (λ b state. pop state (λ a state. push (meaning op.Select a b c) state)))) s
    select_reaches mark stack state s h command most limit laid =
        let low = bottom (program.shape state.frame.number) in
        let le = static_low program bound layout state.frame.number in
        popping tree program bound open_ones next 0 stack state s (λ c state. pop state (λ b state. pop state (λ a state. push (meaning op.Select a b c) state))) h (λ c cs e_c holds_c here.
        popping tree program bound open_ones next 0 (drop 1 stack) (with_values cs state) s (λ b state. pop state (λ a state. push (meaning op.Select a b c) state)) here (λ b bs e_b holds_b here.
        popping tree program bound open_ones next 0 (drop 1 (drop 1 stack)) (with_values bs state) s (λ a state. push (meaning op.Select a b c) state) here (λ a vs e_a holds_a here has.
        pushes 0 mark (drop 1 (drop 1 (drop 1 stack))) (with_values vs state) s op.Select (top (drop 1 (drop 1 stack))) (top (drop 1 stack)) (top stack) (meaning op.Select a b c) here command
        (ap (λ n. meaning op.Select n (value_of program (top (drop 1 stack)) s) (value_of program (top stack) s)) (holds_value program s low next (top (drop 1 (drop 1 stack))) a le holds_a)
        ∙ ap (λ n. meaning op.Select a n (value_of program (top stack) s)) (holds_value program s low next (top (drop 1 stack)) b le holds_b)
        ∙ ap (λ n. meaning op.Select a b n) (holds_value program s low next (top stack) c le holds_c)) (omega (arith, most)) limit laid)))

  -- ---- tests

  -- a test of an i32 goes as the rule's test of it does
  pub tests : (used : ℕ) (s : Plain) (a : Operand) (one other v : ℕ) (zero_step other_step : Next Config) → slice_get program.commands s.position ≡ Some (test_of a one other) → value_of program a s ≡ v → v < 2 ^ 32
      → (StepsTo (plain_step program) 1 s (at other s.registers s) → Then tree program bound used zero_step s)
      → (StepsTo (plain_step program) 1 s (at one s.registers s) → Then tree program bound used other_step s)
      → Then tree program bound used (if v == 0 then zero_step else other_step) s
  tests used s a one other v zero_step other_step command value small h i =
      from (v == 0) (does program s (test_of a one other) command ∙ ap (λ n. if n == 0 then goes (at other s.registers s) else goes (at one s.registers s)) (ap (λ n. n % 2 ^ 32) value ∙ mod-eq_of_lt small))
    where
      from : (b : Bool) → plain_step program s ≡ (if b then goes (at other s.registers s) else goes (at one s.registers s)) → Then tree program bound used (if b then zero_step else other_step) s
      from true e = h (at other s.registers s, e, refl)
      from false e = i (at one s.registers s, e, refl)

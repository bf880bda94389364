-- The machine follows the items that neither open nor close nor leave anything.
use Rattle.std.proofs.Common.{◌≡◌, ℕ, ◌+◌, ◌-◌, ◌≤◌, List, [], ◌∷◌, ◌++◌, length, reverse, take, drop, set, get_or, Option, Some, None, slice_get, refl, sym, ap, ◌∙◌, subst, arith}
use Rattle.std.proofs.lemmas.List.{get_or-append-add, set-append_right}
use Rattle.std.proofs.lemmas.Option.{get_or_from_slice_get}
use Rattle.bl_base.specs.Runs.{Next, HasStep, trapped as trapped_with}
use Rattle.bl_base.specs.declared.trap.Trap.{Trap}
use Rattle.bl_ops.specs.Numerics.{meaning, traps}
use Rattle.bl_ops.specs.declared.op.Op.{Op}
use Rattle.bl_ops.specs.declared.op.Op.TheVariants as op
use Rattle.bl_wasm.specs.declared.linked.Tree.{Tree}
use Rattle.bl_reduce.specs.Configurations.{Frame, State, Config, go, known, pop, pop_from, push as push_value, with_values}
use Rattle.bl_reduce.specs.Numeric.{give as give_value, apply}
use Rattle.bl_reduce.specs.Variables.{local_get, local_set, local_tee, set_local, global_get, global_set, set_global}
use Rattle.bl_machine.specs.Machines.{Stepped, running, top, popped, push, give, local_at, with_local, global_at, with_global}
use Rattle.bl_machine.specs.MatchStates.{Stacks, stacks_of, under, values_of, IsActivation, IsState, simulates}
use Rattle.bl_machine.specs.Transitions.{selected, operated_on}
use Rattle.bl_machine.specs.declared.machine.Activation.{Activation}
use Rattle.bl_machine.specs.declared.machine.Machine.{Machine}
use Rattle.bl_machine.proofs.StackLemmas.{last_is, front_is, on_top}

module _ (tree : Tree) where
  -- a step that isn't stuck is followed
  abbrev pub Then : Stepped → Next Config → Type 0
  Then stepped next = HasStep next → simulates tree stepped next

  -- a function with other values above its innermost label
  pub with_upper : (frame : Frame) (values : List ℕ) (a : Activation) (lower upper : Stacks) (stack : List ℕ) → IsActivation tree frame a lower upper
      → stack ≡ lower.values ++ reverse (values ++ under frame.labels) → IsActivation tree (record frame { values = values }) a lower (record upper { values = stack })
  with_upper frame values a lower upper stack is e = record {
    exists = is.exists;
    number = is.number;
    place = is.place;
    arity = is.arity;
    values = e;
    locals = is.locals;
    exits = is.exits;
    labels = is.labels;
    are_exits = is.are_exits;
    values_below = is.values_below;
    locals_below = is.locals_below;
    labels_below = is.labels_below;
  }

  -- other values above the innermost label
  pub with_stack : (m : Machine) (state : State) (is : IsState tree m state) (values stack : List ℕ) → stack ≡ is.lower.values ++ reverse (values ++ under state.frame.labels)
      → IsState tree (record m { stack = stack }) (with_values values state)
  with_stack m state is values stack e = record {
    memories = is.memories;
    globals = is.globals;
    lower = is.lower;
    current = with_upper state.frame values m.current is.lower (stacks_of m) stack is.current e;
    callers = is.callers;
  }

  pub pushed : (m : Machine) (state : State) (value : ℕ) → IsState tree m state
      → IsState tree (record m { stack = m.stack ++ value ∷ [] }) (with_values (value ∷ state.frame.values) state)
  pushed m state value is = with_stack m state is (value ∷ state.frame.values) (m.stack ++ value ∷ [])
      (ap (λ s. s ++ value ∷ []) is.current.values ∙ sym (on_top is.lower.values value (values_of state.frame)))

  module _ (m : Machine) (state : State) (is : IsState tree m state) where
    module _ (v : ℕ) (vs : List ℕ) (e : state.frame.values ≡ v ∷ vs) where
      shape : m.stack ≡ (is.lower.values ++ reverse (vs ++ under state.frame.labels)) ++ v ∷ []
      shape = is.current.values ∙ ap (λ values. is.lower.values ++ reverse (values ++ under state.frame.labels)) e ∙ on_top is.lower.values v (vs ++ under state.frame.labels)

      pub top_is : top m ≡ v
      top_is = ap (λ s. get_or s (length s - 1) 0) shape ∙ last_is (is.lower.values ++ reverse (vs ++ under state.frame.labels)) v 0

      pub popped_is : IsState tree (popped m) (with_values vs state)
      popped_is = with_stack m state is vs (take (length m.stack - 1) m.stack)
          (ap (λ s. take (length s - 1) s) shape ∙ front_is (is.lower.values ++ reverse (vs ++ under state.frame.labels)) v)

    -- a value is taken off
    pub popping : (step : ℕ → State → Next Config) (stepped : Stepped)
        → ((v : ℕ) (vs : List ℕ) → state.frame.values ≡ v ∷ vs → top m ≡ v → IsState tree (popped m) (with_values vs state) → Then stepped (step v (with_values vs state)))
        → Then stepped (pop state step)
    popping step stepped next = from state.frame.values refl
      where
        from : (values : List ℕ) → state.frame.values ≡ values → Then stepped (pop_from values state step)
        from [] e has = absurd has
        from (v ∷ vs) e has = next v vs e (top_is v vs e) (popped_is v vs e) has

  -- something is looked up
  pub knowing : {A : Type 0} (o : Option A) (step : A → Next Config) (stepped : Stepped) → ((x : A) → o ≡ Some x → Then stepped (step x)) → Then stepped (known o step)
  knowing None step stepped next has = absurd has
  knowing (Some x) step stepped next has = next x refl has

  -- ---- parametric and numeric items

  pub push_simulates : (m : Machine) (state : State) (value : ℕ) → IsState tree m state → Then (push value m) (push_value value state)
  push_simulates m state value is has = pushed m state value is

  pub drop_simulates : (m : Machine) (state : State) → IsState tree m state → Then (running (popped m)) (pop state (λ value state. go state))
  drop_simulates m state is = popping m state is (λ value state. go state) (running (popped m)) (λ v vs e t below has. below)

  pub select_simulates : (m : Machine) (state : State) → IsState tree m state
      → Then (selected m) (pop state (λ c state. pop state (λ b state. pop state (λ a state. push_value (meaning op.Select a b c) state))))
  select_simulates m state is =
      popping m state is (λ c state. pop state (λ b state. pop state (λ a state. push_value (meaning op.Select a b c) state))) (selected m) (λ c cs e tc is_c.
      popping (popped m) (with_values cs state) is_c (λ b state. pop state (λ a state. push_value (meaning op.Select a b c) state)) (selected m) (λ b bs e tb is_b.
      popping (popped (popped m)) (with_values bs state) is_b (λ a state. push_value (meaning op.Select a b c) state) (selected m) (λ a vs e ta is_a has.
      let value : meaning op.Select (top (popped (popped m))) (top (popped m)) (top m) ≡ meaning op.Select a b c =
      ap (λ x. meaning op.Select x (top (popped m)) (top m)) ta ∙ ap (λ x. meaning op.Select a x (top m)) tb ∙ ap (meaning op.Select a b) tc in
      subst (λ x. simulates tree (push x (popped (popped (popped m)))) (push_value (meaning op.Select a b c) (with_values vs state))) (sym value)
      (pushed (popped (popped (popped m))) (with_values vs state) (meaning op.Select a b c) is_a))))

  give_simulates : (m : Machine) (state : State) (kind : Option Trap) (value : ℕ) → IsState tree m state → simulates tree (give kind value m) (give_value kind value state)
  give_simulates m state None value is = pushed m state value is
  give_simulates m state (Some kind) value is = ap (trapped_with kind) (sym is.memories)

  pub one_operand : (op : Op) (m : Machine) (state : State) → IsState tree m state → 1 ≤ length state.frame.values
      → simulates tree (operated_on op 1 m) (apply op (take 1 state.frame.values) (with_values (drop 1 state.frame.values) state))
  one_operand op m state is enough = from state.frame.values refl enough
    where
      from : (values : List ℕ) → state.frame.values ≡ values → 1 ≤ length values → simulates tree (operated_on op 1 m) (apply op (take 1 values) (with_values (drop 1 values) state))
      from [] e le = absurd (omega (arith, le))
      from (a ∷ vs) e le =
          subst (λ x. simulates tree (give (traps op x 0) (meaning op x 0 0) (popped m)) (give_value (traps op a 0) (meaning op a 0 0) (with_values vs state))) (sym (top_is m state is a vs e))
          (give_simulates (popped m) (with_values vs state) (traps op a 0) (meaning op a 0 0) (popped_is m state is a vs e))

  pub two_operands : (op : Op) (m : Machine) (state : State) → IsState tree m state → 2 ≤ length state.frame.values
      → simulates tree (operated_on op 2 m) (apply op (take 2 state.frame.values) (with_values (drop 2 state.frame.values) state))
  two_operands op m state is enough = from state.frame.values refl enough
    where
      from : (values : List ℕ) → state.frame.values ≡ values → 2 ≤ length values → simulates tree (operated_on op 2 m) (apply op (take 2 values) (with_values (drop 2 values) state))
      from [] e le = absurd (omega (arith, le))
      from (b ∷ []) e le = absurd (omega (arith, le))
      from (b ∷ a ∷ vs) e le =
          let first = popped_is m state is b (a ∷ vs) e in
          subst (λ y. simulates tree (give (traps op (top (popped m)) y) (meaning op (top (popped m)) y 0) (popped (popped m))) (give_value (traps op a b) (meaning op a b 0) (with_values vs state)))
          (sym (top_is m state is b (a ∷ vs) e))
          (subst (λ x. simulates tree (give (traps op x b) (meaning op x b 0) (popped (popped m))) (give_value (traps op a b) (meaning op a b 0) (with_values vs state)))
          (sym (top_is (popped m) (with_values (a ∷ vs) state) first a vs refl))
          (give_simulates (popped (popped m)) (with_values vs state) (traps op a b) (meaning op a b 0) (popped_is (popped m) (with_values (a ∷ vs) state) first a vs refl)))

  -- ---- variable items

  local_is : (m : Machine) (state : State) (is : IsState tree m state) (x value : ℕ) → slice_get state.frame.locals x ≡ Some value → local_at x m ≡ value
  local_is m state is x value got =
      ap (λ locals. get_or locals (m.current.locals + x) 0) is.current.locals
      ∙ ap (λ n. get_or (is.lower.locals ++ state.frame.locals) (n + x) 0) is.current.locals_below
      ∙ get_or-append-add is.lower.locals state.frame.locals x 0 ∙ get_or_from_slice_get state.frame.locals x value 0 got

  pub local_get_simulates : (m : Machine) (state : State) (x : ℕ) → IsState tree m state → Then (push (local_at x m) m) (local_get x state)
  local_get_simulates m state x is =
      knowing (slice_get state.frame.locals x) (λ value. push_value value state) (push (local_at x m) m) (λ value got has.
      subst (λ v. simulates tree (push v m) (push_value value state)) (sym (local_is m state is x value got)) (pushed m state value is))

  localed : (m : Machine) (state : State) (is : IsState tree m state) (x value : ℕ)
      → IsState tree (with_local x value m) (record state { frame = record state.frame { locals = set state.frame.locals x value } })
  localed m state is x value = record {
    memories = is.memories;
    globals = is.globals;
    lower = is.lower;
    current = record {
      exists = is.current.exists;
      number = is.current.number;
      place = is.current.place;
      arity = is.current.arity;
      values = is.current.values;
      locals = ap (λ locals. set locals (m.current.locals + x) value) is.current.locals
          ∙ set-append_right is.lower.locals state.frame.locals m.current.locals (m.current.locals + x) value (sym is.current.locals_below) (omega arith)
          ∙ ap (λ n. is.lower.locals ++ set state.frame.locals n value) (shifted m.current.locals x);
      exits = is.current.exits;
      labels = is.current.labels;
      are_exits = is.current.are_exits;
      values_below = is.current.values_below;
      locals_below = is.current.locals_below;
      labels_below = is.current.labels_below;
    };
    callers = is.callers;
  }
    where
      shifted : (n x : ℕ) → n + x - n ≡ x
      shifted n x = omega arith

  setting : (m : Machine) (state : State) (x value : ℕ) → IsState tree m state → Then (running (with_local x value m)) (set_local x value state)
  setting m state x value is =
      knowing (slice_get state.frame.locals x) (λ old. go (record state { frame = record state.frame { locals = set state.frame.locals x value } })) (running (with_local x value m))
      (λ old got has. localed m state is x value)

  pub local_set_simulates : (m : Machine) (state : State) (x : ℕ) → IsState tree m state → Then (running (with_local x (top m) (popped m))) (local_set x state)
  local_set_simulates m state x is =
      popping m state is (λ value state. set_local x value state) (running (with_local x (top m) (popped m))) (λ v vs e t below.
      subst (λ value. Then (running (with_local x value (popped m))) (set_local x v (with_values vs state))) (sym t) (setting (popped m) (with_values vs state) x v below))

  pub local_tee_simulates : (m : Machine) (state : State) (x : ℕ) → IsState tree m state → Then (running (with_local x (top m) m)) (local_tee x state)
  local_tee_simulates m state x is =
      popping m state is (λ value below. set_local x value state) (running (with_local x (top m) m)) (λ v vs e t below.
      subst (λ value. Then (running (with_local x value m)) (set_local x v state)) (sym t) (setting m state x v is))

  pub global_get_simulates : (m : Machine) (state : State) (x : ℕ) → IsState tree m state → Then (push (global_at x m) m) (global_get x state)
  global_get_simulates m state x is =
      knowing (slice_get state.store.globals x) (λ value. push_value value state) (push (global_at x m) m) (λ value got has.
      let there : global_at x m ≡ value = ap (λ globals. get_or globals x 0) is.globals ∙ get_or_from_slice_get state.store.globals x value 0 got in
      subst (λ v. simulates tree (push v m) (push_value value state)) (sym there) (pushed m state value is))

  globaled : (m : Machine) (state : State) (is : IsState tree m state) (x value : ℕ)
      → IsState tree (with_global x value m) (record state { store = record state.store { globals = set state.store.globals x value } })
  globaled m state is x value = record {
    memories = is.memories;
    globals = ap (λ globals. set globals x value) is.globals;
    lower = is.lower;
    current = is.current;
    callers = is.callers;
  }

  pub global_set_simulates : (m : Machine) (state : State) (x : ℕ) → IsState tree m state → Then (running (with_global x (top m) (popped m))) (global_set x state)
  global_set_simulates m state x is =
      popping m state is (λ value state. set_global x value state) (running (with_global x (top m) (popped m))) (λ v vs e t below.
      subst (λ value. Then (running (with_global x value (popped m))) (set_global x v (with_values vs state))) (sym t)
      (knowing (slice_get state.store.globals x) (λ old. go (record (with_values vs state) { store = record state.store { globals = set state.store.globals x v } }))
      (running (with_global x v (popped m))) (λ old got has. globaled (popped m) (with_values vs state) below x v)))

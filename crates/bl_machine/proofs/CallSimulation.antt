-- The machine follows calls and the entering of functions.
use Rattle.std.proofs.Common.{◌≡◌, ℕ, suc, ◌-◌, ◌≤◌, Bool, true, false, List, [], ◌∷◌, ◌++◌, length, map, reverse, take, drop, replicate, Option, Some, None, slice_get, refl, sym, ap, ◌∙◌, subst, arith, append_assoc, append-nil, length-append}
use Rattle.std.specs.Prelude.{nat_lt, option_and_then, option_map, if◌then◌else◌}
use Rattle.std.proofs.lemmas.Bool.{lt-ltb, le-ltb, ltb-true, ltb-false}
use Rattle.std.proofs.lemmas.List.{length-reverse, length-take, reverse-append, take-append-drop}
use Rattle.std.proofs.lemmas.Option.{slice_get-map}
use Rattle.bl_base.specs.Fits.{ArgumentFits}
use Rattle.bl_base.specs.Quantity.{most_calls}
use Rattle.bl_base.specs.Runs.{goes, trapped as trapped_with}
use Rattle.bl_base.specs.declared.names.ValueType.{ValueType}
use Rattle.bl_base.specs.declared.trap.Trap.TheVariants as trap_kind
use Rattle.bl_wasm.specs.declared.linked.Signature.{Signature}
use Rattle.bl_wasm.specs.declared.linked.Function.{Function}
use Rattle.bl_wasm.specs.declared.linked.Tree.{Tree}
use Rattle.bl_wasm.specs.Linked.{type_of}
use Rattle.bl_wasm.proofs.LocalCounts.{locals_counted}
use Rattle.bl_reduce.specs.Calls.{depth, operands, caller, call_at, call, entered as entered_frame, enter}
use Rattle.bl_reduce.specs.Configurations.{Store, Frame, State, entering, go, known, trap}
use Rattle.bl_reduce.specs.TypedConfigurations.{IsEntering}
use Rattle.bl_base.proofs.Lists.{zip_length}
use Rattle.bl_machine.specs.Bodies.{body_of}
use Rattle.bl_machine.specs.Jumps.{counted}
use Rattle.bl_machine.specs.Machines.{trapped, most_callers, called, entered}
use Rattle.bl_machine.specs.MatchStates.{stacks_of, Stacks, under, AreActivations, IsState, IsEntry, simulates}
use Rattle.bl_machine.specs.Transitions.{call_of, entered_at}
use Rattle.bl_machine.specs.declared.body.Body.{Body}
use Rattle.bl_machine.specs.declared.machine.Activation.{Activation}
use Rattle.bl_machine.specs.declared.machine.Machine.{Machine}
use Rattle.bl_machine.proofs.StackLemmas.{on_others, below_top, topmost_are}
use Rattle.bl_machine.proofs.StraightLineSimulation.{Then, with_upper}

module _ (tree : Tree) where
  abbrev pub bodies : List Body
  bodies = map (body_of tree) tree.functions

  pub body_got : (number : ℕ) (function : Function) → slice_get tree.functions number ≡ Some function → slice_get bodies number ≡ Some (body_of tree function)
  body_got number function e = slice_get-map (body_of tree) tree.functions number ∙ ap (option_map (body_of tree)) e

  -- ---- the entering of a function

  module _ (results : List ValueType) (m : Machine) (store : Store) (number : ℕ) (arguments : List ℕ) (callers : List Frame)
      (is : IsEntry tree m store arguments callers) (typed : IsEntering tree results store number arguments callers) where
    abbrev new_frame : Frame
    new_frame = entered_frame number typed.function typed.type arguments

    given : length arguments ≡ (counted (slice_get tree.types typed.function.type_index)).params
    given = sym (zip_length ArgumentFits typed.type.params arguments typed.arguments_are) ∙ ap (λ o. (counted o).params) (sym typed.typed)

    entered_is : simulates tree (entered number (body_of tree typed.function) m) (go (record { store = store; frame = new_frame; callers = callers }))
    entered_is = record {
      memories = is.memories;
      globals = is.globals;
      lower = is.lower;
      current = record {
        exists = typed.exists;
        number = refl;
        place = refl;
        arity = ap (λ o. (counted o).results) typed.typed;
        values = is.values ∙ sym (append-nil is.lower.values);
        locals = ap (λ ls. ls ++ replicate (body_of tree typed.function).declared_locals 0) is.locals ∙ append_assoc is.lower.locals arguments (replicate (body_of tree typed.function).declared_locals 0)
            ∙ ap (λ n. is.lower.locals ++ (arguments ++ replicate n 0)) (sym (locals_counted typed.function.code));
        exits = [];
        labels = is.labels ∙ sym (append-nil is.lower.labels);
        are_exits = tt;
        values_below = ap length is.values;
        locals_below = omega (arith, ap length is.locals, length-append is.lower.locals arguments, given);
        labels_below = ap length is.labels;
      };
      callers = is.callers_are;
    }

    pub enter_simulates : simulates tree (entered_at (slice_get bodies number) number m) (enter tree store number arguments callers)
    enter_simulates =
        subst (λ o. simulates tree (entered_at o number m) (enter tree store number arguments callers)) (sym (body_got number typed.function typed.exists))
        (subst (λ o. simulates tree (entered number (body_of tree typed.function) m)
        (known o (λ function. known (slice_get tree.types function.type_index) (λ type. go (record { store = store; frame = entered_frame number function type arguments; callers = callers })))))
        (sym typed.exists)
        (subst (λ o. simulates tree (entered number (body_of tree typed.function) m)
        (known o (λ type. go (record { store = store; frame = entered_frame number typed.function type arguments; callers = callers }))))
        (sym typed.typed) entered_is))

  -- ---- calls

  pub as_many_callers : (frames : List Frame) (others : List Activation) (lower : Stacks) → AreActivations tree frames others lower → length frames ≡ length others
  as_many_callers [] [] lower h = refl
  as_many_callers [] (a ∷ others) lower h = absurd h
  as_many_callers (frame ∷ frames) [] lower h = absurd h
  as_many_callers (frame ∷ frames) (a ∷ others) lower h = ap suc (as_many_callers frames others h.0 h.2)

  module _ (m : Machine) (state : State) (is : IsState tree m state) (number : ℕ) where
    module _ (params : ℕ) (enough : params ≤ length state.frame.values) where
      abbrev arguments_of : List ℕ
      arguments_of = take params state.frame.values

      abbrev rest_of : List ℕ
      rest_of = drop params state.frame.values ++ under state.frame.labels

      shape : m.stack ≡ (is.lower.values ++ reverse rest_of) ++ reverse arguments_of
      shape =
          is.current.values ∙ ap (λ v. is.lower.values ++ reverse (v ++ under state.frame.labels)) (sym (take-append-drop params state.frame.values))
          ∙ ap (λ v. is.lower.values ++ reverse v) (append_assoc arguments_of (drop params state.frame.values) (under state.frame.labels))
          ∙ on_others is.lower.values arguments_of rest_of

      count : length (reverse arguments_of) ≡ params
      count = omega (arith, length-reverse arguments_of, length-take params state.frame.values, enough)

      stack_below : take (length m.stack - params) m.stack ≡ is.lower.values ++ reverse rest_of
      stack_below =
          ap (λ s. take (length s - params) s) shape
          ∙ ap (λ n. take (length ((is.lower.values ++ reverse rest_of) ++ reverse arguments_of) - n) ((is.lower.values ++ reverse rest_of) ++ reverse arguments_of)) (sym count)
          ∙ below_top (is.lower.values ++ reverse rest_of) (reverse arguments_of)

      operands_are : drop (length m.stack - params) m.stack ≡ reverse arguments_of
      operands_are =
          ap (λ s. drop (length s - params) s) shape
          ∙ ap (λ n. drop (length ((is.lower.values ++ reverse rest_of) ++ reverse arguments_of) - n) ((is.lower.values ++ reverse rest_of) ++ reverse arguments_of)) (sym count)
          ∙ topmost_are (is.lower.values ++ reverse rest_of) (reverse arguments_of)

      abbrev upper : Stacks
      upper = record { values = take (length m.stack - params) m.stack; locals = m.locals; labels = m.labels }

      called_is : simulates tree (called number params m) (goes (entering state.store number (operands params state) (caller params state ∷ state.callers)))
      called_is = (
        refl,
        record {
          memories = is.memories;
          globals = is.globals;
          lower = upper;
          values = refl;
          locals = ap (λ ls. m.locals ++ ls) operands_are;
          labels = refl;
          callers_are = subst (λ others. AreActivations tree (caller params state ∷ state.callers) others upper) (sym (reverse-append m.callers (m.current ∷ []))) (
            is.lower,
            with_upper tree state.frame (caller params state).values m.current is.lower (stacks_of m) upper.values is.current stack_below,
            is.callers,
          );
        },
      )

    many : length state.callers ≡ length m.callers
    many = as_many_callers state.callers (reverse m.callers) is.lower is.callers ∙ length-reverse m.callers

    by_depth : (b : Bool) → nat_lt (length m.callers) most_callers ≡ b → nat_lt (depth state) most_calls ≡ b
    by_depth true e = let h = ltb-true (length m.callers) most_callers e in lt-ltb (depth state) most_calls (omega (arith, h, many))
    by_depth false e = let h = ltb-false (length m.callers) most_callers e in le-ltb (depth state) most_calls (omega (arith, h, many))

    call_at_simulates : (type : Signature) → length type.params ≤ length state.frame.values
        → simulates tree (if nat_lt (length m.callers) most_callers then called number (length type.params) m else trapped trap_kind.StackExhausted m) (call_at type number state)
    call_at_simulates type enough = from (nat_lt (length m.callers) most_callers) refl
      where
        from : (b : Bool) → nat_lt (length m.callers) most_callers ≡ b
            → simulates tree (if b then called number (length type.params) m else trapped trap_kind.StackExhausted m) (call_at type number state)
        from true e =
            subst (λ b. simulates tree (called number (length type.params) m)
            (if b then goes (entering state.store number (operands (length type.params) state) (caller (length type.params) state ∷ state.callers)) else trap trap_kind.StackExhausted state))
            (sym (by_depth true e)) (called_is (length type.params) enough)
        from false e =
            subst (λ b. simulates tree (trapped trap_kind.StackExhausted m)
            (if b then goes (entering state.store number (operands (length type.params) state) (caller (length type.params) state ∷ state.callers)) else trap trap_kind.StackExhausted state))
            (sym (by_depth false e)) (ap (trapped_with trap_kind.StackExhausted) (sym is.memories))

    -- the operands of a call are there
    abbrev pub HasOperands : Type 0
    HasOperands = (type : Signature) → type_of tree number ≡ Some type → length type.params ≤ length state.frame.values

    pub call_simulates : HasOperands → Then tree (call_of (slice_get bodies number) number m) (call tree number state)
    call_simulates enough = from (slice_get tree.functions number) refl
      where
        to : (function : Function) (o : Option Signature) → slice_get tree.types function.type_index ≡ o → slice_get tree.functions number ≡ Some function
            → Then tree (if nat_lt (length m.callers) most_callers then called number (counted o).params m else trapped trap_kind.StackExhausted m) (known o (λ type. call_at type number state))
        to function None e f has = absurd has
        to function (Some type) e f has =
            call_at_simulates type (enough type (ap (option_and_then (λ function. slice_get tree.types function.type_index)) f ∙ e))

        from : (o : Option Function) → slice_get tree.functions number ≡ o
            → Then tree (call_of (slice_get bodies number) number m) (known (option_and_then (λ function. slice_get tree.types function.type_index) o) (λ type. call_at type number state))
        from None e has = absurd has
        from (Some function) e has =
            subst (λ o. simulates tree (call_of o number m) (known (slice_get tree.types function.type_index) (λ type. call_at type number state))) (sym (body_got number function e))
            (to function (slice_get tree.types function.type_index) refl e has)

-- Steps of calls, and of entering a function, keep types.
use Rattle.std.proofs.Common.{◌≡◌, ℕ, ◌<◌, ◌≤◌, Bool, true, false, cond, ltb, List, [], ◌∷◌, ◌++◌, length, map, replicate, reverse, take, drop, Option, Some, None, slice_get, refl, sym, ap, ◌∙◌, subst, arith}
use Rattle.std.specs.Prelude.{IfSome, option_and_then}
use Rattle.std.specs.List.{All, AllZip}
use Rattle.std.proofs.lemmas.Bool.{ltb-true}
use Rattle.std.proofs.lemmas.List.{length-map, length-reverse}
use Rattle.std.proofs.lemmas.Option.{none-some, same_Some}
use Rattle.bl_base.specs.Fits.{ArgumentFits}
use Rattle.bl_base.specs.Quantity.{most_calls}
use Rattle.bl_base.specs.Runs.{Next, goes}
use Rattle.bl_base.specs.declared.names.ValueType.{ValueType}
use Rattle.bl_base.specs.declared.trap.Trap.TheVariants.{UndefinedElement, UninitializedElement, TypeMismatch, StackExhausted}
use Rattle.bl_wasm.specs.Linked.{IsFunction, IsSlot, context, function_type, seen, type_of}
use Rattle.bl_reduce.specs.Runnable.{IsRunnable}
use Rattle.bl_wasm.specs.TypeNumbers.{is_same_type}
use Rattle.bl_wasm.specs.Typing.{Context, Open, Arrow, HasType, IsTyping, Types, integer}
use Rattle.bl_wasm.specs.Validity.{locals_of}
use Rattle.bl_wasm.specs.declared.instruction.Instr.{Instr}
use Rattle.bl_wasm.specs.declared.types.FuncType.{FuncType}
use Rattle.bl_wasm.specs.declared.types.WasmType.{WasmType}
use Rattle.bl_wasm.specs.declared.types.WasmType.TheVariants.{I32}
use Rattle.bl_wasm.specs.declared.linked.Function.{Function}
use Rattle.bl_wasm.specs.declared.linked.Signature.{Signature}
use Rattle.bl_wasm.specs.declared.linked.Tree.{Tree}
use Rattle.bl_wasm.proofs.EqualTypes.{same_type}
use Rattle.bl_reduce.specs.Calls.{depth, enter, entered, call_at, call, call_through, call_indirect}
use Rattle.bl_reduce.specs.Configurations.{Store, Frame, State, Config, entering, go, trap, known, with_values}
use Rattle.bl_reduce.specs.TypedConfigurations.{IsValue, BeginsWith, IsEntering, IsRunning, IsTypedStep}
use Rattle.bl_reduce.proofs.ControlItems.{topmost, above}
use Rattle.bl_reduce.proofs.Ready.{Ready, taken, popping, trapping, knowing, integer_value, integer_argument, zero_value}
use Rattle.bl_base.proofs.Lists.{zip_append, zip_back, zip_map, zip_unmap, zip_unreverse, zip_replicate, mapped_get, all_get, within_get}

-- a typing of a body begins without operands
first_place : (c : Context) (body : List Instr) (places : List (List WasmType)) → IsTyping c body places → (later : List (List WasmType)) × Types c [] body ([] ∷ later)
first_place c body [] h = absurd (none-some [] h.0)
first_place c body (first ∷ later) h = (later, subst (λ stack. Types c [] body (stack ∷ later)) (same_Some first [] h.0) h.1)

module _ (tree : Tree) (linked : IsRunnable tree) (results : List ValueType) where
  -- ---- entering

  pub enter_steps : (store : Store) (number : ℕ) (arguments : List ℕ) (callers : List Frame) → IsEntering tree results store number arguments callers
      → IsTypedStep tree results (enter tree store number arguments callers)
  enter_steps store number arguments callers is =
      let function : IsFunction tree is.function = all_get (IsFunction tree) tree.functions number is.function linked.functions is.exists in
      knowing tree results (slice_get tree.functions number) is.function
      (λ function. known (slice_get tree.types function.type_index) (λ type. go (record { store = store; frame = entered number function type arguments; callers = callers })))
      is.exists
      (knowing tree results (slice_get tree.types is.function.type_index) is.type
      (λ type. go (record { store = store; frame = entered number is.function type arguments; callers = callers })) is.typed
      (running_entered function (same_Some function.type is.type (sym function.exists ∙ is.typed))))
    where
      running_entered : (function : IsFunction tree is.function) → function.type ≡ is.type
          → IsRunning tree results (record { store = store; frame = entered number is.function is.type arguments; callers = callers })
      running_entered function same =
          let typing : IsTyping (context tree is.type is.function) is.function.code.items function.places =
          subst (λ type. IsTyping (context tree type is.function) is.function.code.items function.places) same function.typing in
          let start = first_place (context tree is.type is.function) is.function.code.items function.places typing in
          record {
            store_is = is.store_is;
            type = is.type;
            open_ones = [];
            stack = [];
            frame_is = record {
              exists = is.exists;
              typed = is.typed;
              arity = refl;
              locals = zip_append IsValue (map integer is.type.params) (locals_of is.function.code) arguments (replicate (length (locals_of is.function.code)) 0)
                  (zip_map integer IsValue ArgumentFits integer_value is.type.params arguments is.arguments_are)
                  (zip_replicate IsValue (locals_of is.function.code) 0 zero_value);
              labels = tt;
              values = tt;
            };
            begins = record { place = 0; inside = omega arith; left = refl; later = start.0; typing = start.1 };
            callers_are = is.callers_are;
            depth = is.depth;
          }

  -- ---- calls

  module _ (type : Signature) (open_ones : List Open) where
    abbrev Steps : Next Config → Type 0
    Steps next = IsTypedStep tree results next

    abbrev ReadyAt : List WasmType → State → Type 0
    ReadyAt top state = Ready tree results type open_ones top state

    at_test : (test : Bool) (step other : Next Config) → (test ≡ true → Steps step) → Steps other → Steps (cond test step other)
    at_test true step other h i = h refl
    at_test false step other h i = i

    call_at_steps : (number : ℕ) (function : Function) (called : Signature) (lower to : List WasmType) (state : State)
        → slice_get tree.functions number ≡ Some function → slice_get tree.types function.type_index ≡ Some called
        → ReadyAt (reverse (map integer called.params) ++ reverse lower) state → to ≡ lower ++ map integer called.results → BeginsWith tree type open_ones to state.frame
        → Steps (call_at called number state)
    call_at_steps number function called lower to state exists typed ready e begins =
        at_test (ltb (depth state) most_calls)
        (goes (entering state.store number (reverse (take (length called.params) state.frame.values))
        ((with_values (drop (length called.params) state.frame.values) state).frame ∷ state.callers)))
        (trap StackExhausted state)
        (λ lt. record {
          store_is = ready.store_is;
          function = function;
          exists = exists;
          type = called;
          typed = typed;
          arguments_are = zip_unmap integer IsValue ArgumentFits integer_argument called.params (reverse (take (length called.params) state.frame.values))
              (zip_unreverse IsValue (map integer called.params) (take (length called.params) state.frame.values)
              (topmost tree results type open_ones (map integer called.params) (reverse lower) (length called.params) state (sym (length-map called.params integer)) ready));
          callers_are = (
            type,
            record {
              open_ones = open_ones;
              stack = lower;
              frame_is = record {
                exists = ready.exists;
                typed = ready.typed;
                arity = ready.arity;
                locals = ready.locals;
                labels = ready.labels;
                values = subst (λ n. AllZip IsValue (reverse lower) (drop n state.frame.values)) (length-reverse (map integer called.params) ∙ length-map called.params integer)
                    (zip_back IsValue (reverse (map integer called.params)) (reverse lower) state.frame.values ready.values);
              };
              begins = subst (λ stack. BeginsWith tree type open_ones stack state.frame) e begins;
            },
            ready.callers_are,
          );
          depth = omega (arith, ltb-true (depth state) most_calls lt);
        })
        (trapping tree results type open_ones (reverse (map integer called.params) ++ reverse lower) StackExhausted state ready)

    -- the type of a function that exists
    type_known : (number : ℕ) (function : Function) (called : Signature) → slice_get tree.functions number ≡ Some function → slice_get tree.types function.type_index ≡ Some called
        → type_of tree number ≡ Some called
    type_known number function called exists typed = ap (λ o. option_and_then (λ function. slice_get tree.types function.type_index) o) exists ∙ typed

    pub call_steps : (number : ℕ) (called : FuncType) (from to : List WasmType) (state : State) → HasType (context tree type state.frame.function) number called
        → Arrow called.params called.results from to → ReadyAt (reverse from) state → BeginsWith tree type open_ones to state.frame → Steps (call tree number state)
    call_steps number called from to state h a ready begins =
        let function = mapped_get (λ function. function.type_index) tree.functions number h.0 h.1 in
        let signature = mapped_get function_type tree.types h.0 called h.2 in
        let typed : slice_get tree.types function.0.type_index ≡ Some signature.0 = ap (λ i. slice_get tree.types i) function.2 ∙ signature.1 in
        let b : Arrow (map integer signature.0.params) (map integer signature.0.results) from to = subst (λ t. Arrow t.params t.results from to) (sym signature.2) a in
        knowing tree results (type_of tree number) signature.0 (λ type. call_at type number state) (type_known number function.0 signature.0 function.1 typed)
        (call_at_steps number function.0 signature.0 b.lower to state function.1 typed
        (taken tree results type open_ones from b.lower (map integer signature.0.params) state b.before ready) b.behind begins)

    -- through a slot
    call_through_steps : (slot : Option (Option ℕ)) (wanted : Signature) (lower to : List WasmType) (state : State) → IfSome slot (IsSlot tree)
        → ReadyAt (reverse (map integer wanted.params) ++ reverse lower) state → to ≡ lower ++ map integer wanted.results → BeginsWith tree type open_ones to state.frame
        → Steps (call_through tree wanted slot state)
    call_through_steps None wanted lower to state is ready e begins = trapping tree results type open_ones (reverse (map integer wanted.params) ++ reverse lower) UndefinedElement state ready
    call_through_steps (Some None) wanted lower to state is ready e begins =
        trapping tree results type open_ones (reverse (map integer wanted.params) ++ reverse lower) UninitializedElement state ready
    call_through_steps (Some (Some number)) wanted lower to state is ready e begins =
        let function = within_get tree.functions number is in
        let known_function : IsFunction tree function.0 = all_get (IsFunction tree) tree.functions number function.0 linked.functions function.1 in
        knowing tree results (type_of tree number) known_function.type (λ type. cond (is_same_type type wanted) (call_at type number state) (trap TypeMismatch state))
        (type_known number function.0 known_function.type function.1 known_function.exists)
        (at_test (is_same_type known_function.type wanted) (call_at known_function.type number state) (trap TypeMismatch state)
        (λ same. subst (λ t. Steps (call_at t number state)) (sym (same_type known_function.type wanted same))
        (call_at_steps number function.0 wanted lower to state function.1
        (known_function.exists ∙ ap Some (same_type known_function.type wanted same)) ready e begins))
        (trapping tree results type open_ones (reverse (map integer wanted.params) ++ reverse lower) TypeMismatch state ready))

    -- the table of a function that has one
    through_table : (o : Option ℕ) (index type_index : ℕ) (wanted : Signature) (lower to : List WasmType) (state : State) → 1 ≤ seen o → IfSome o (λ number. number < length tree.tables)
        → slice_get tree.types type_index ≡ Some wanted → ReadyAt (reverse (map integer wanted.params) ++ reverse lower) state → to ≡ lower ++ map integer wanted.results
        → BeginsWith tree type open_ones to state.frame
        → Steps (known (option_and_then (slice_get tree.tables) o) (λ table. known (slice_get tree.types type_index) (λ wanted. call_through tree wanted (slice_get table index) state)))
    through_table None index type_index wanted lower to state some is typed ready e begins = absurd (omega (arith, some))
    through_table (Some number) index type_index wanted lower to state some is typed ready e begins =
        let table = within_get tree.tables number is in
        let slots : All (IsSlot tree) table.0 = all_get (All (IsSlot tree)) tree.tables number table.0 linked.tables table.1 in
        knowing tree results (slice_get tree.tables number) table.0 (λ table. known (slice_get tree.types type_index) (λ wanted. call_through tree wanted (slice_get table index) state)) table.1
        (knowing tree results (slice_get tree.types type_index) wanted (λ wanted. call_through tree wanted (slice_get table.0 index) state) typed
        (call_through_steps (slice_get table.0 index) wanted lower to state (slot_is table.0 slots) ready e begins))
      where
        in_slot : (table : List (Option ℕ)) (o : Option (Option ℕ)) → slice_get table index ≡ o → All (IsSlot tree) table → IfSome o (IsSlot tree)
        in_slot table None e all = tt
        in_slot table (Some slot) e all = all_get (IsSlot tree) table index slot all e

        slot_is : (table : List (Option ℕ)) → All (IsSlot tree) table → IfSome (slice_get table index) (IsSlot tree)
        slot_is table all = in_slot table (slice_get table index) refl all

    pub call_indirect_steps : (index : ℕ) (called : FuncType) (from to : List WasmType) (state : State) → slice_get (map function_type tree.types) index ≡ Some called
        → 1 ≤ seen state.frame.function.table → Arrow (called.params ++ I32 ∷ []) called.results from to → ReadyAt (reverse from) state → BeginsWith tree type open_ones to state.frame
        → Steps (call_indirect tree index state)
    call_indirect_steps type_index called from to state h some a ready begins =
        let signature = mapped_get function_type tree.types type_index called h in
        let b : Arrow (map integer signature.0.params ++ I32 ∷ []) (map integer signature.0.results) from to =
        subst (λ t. Arrow (t.params ++ I32 ∷ []) t.results from to) (sym signature.2) a in
        let function : IsFunction tree state.frame.function = all_get (IsFunction tree) tree.functions state.frame.number state.frame.function linked.functions ready.exists in
        popping tree results type open_ones (reverse (map integer signature.0.params) ++ reverse b.lower) I32 state
        (λ index state. known (option_and_then (slice_get tree.tables) state.frame.function.table) (λ table.
        known (slice_get tree.types type_index) (λ wanted. call_through tree wanted (slice_get table index) state)))
        (above tree results type open_ones from b.lower (map integer signature.0.params) state b.before ready)
        (λ index below h r. through_table state.frame.function.table index type_index signature.0 b.lower to (with_values below state) some function.table signature.1 r b.behind begins)

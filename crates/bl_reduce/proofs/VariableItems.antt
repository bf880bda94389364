-- Steps of parametric and variable instructions, and of constants, keep types.
use Rattle.std.proofs.Common.{◌≡◌, ℕ, ◌^◌, ◌%◌, Bool, true, false, cond, eqb, List, [], ◌∷◌, set, map, reverse, Some, slice_get, sym, subst}
use Rattle.bl_base.specs.Runs.{Next}
use Rattle.bl_base.specs.declared.names.ValueType.{ValueType}
use Rattle.bl_ops.specs.Numerics.{meaning}
use Rattle.bl_ops.specs.declared.op.Op.TheVariants as op
use Rattle.bl_wasm.specs.Linked.{all_locals, global_type}
use Rattle.bl_wasm.specs.Typing.{Open, Arrow}
use Rattle.bl_wasm.specs.declared.types.GlobalType.{GlobalType}
use Rattle.bl_wasm.specs.declared.types.WasmType.{WasmType}
use Rattle.bl_wasm.specs.declared.types.WasmType.TheVariants.{I32}
use Rattle.bl_wasm.specs.declared.linked.Global.{Global}
use Rattle.bl_wasm.specs.declared.linked.Signature.{Signature}
use Rattle.bl_wasm.specs.declared.linked.Tree.{Tree}
use Rattle.bl_reduce.specs.Configurations.{State, Config, go, pop, push, with_values}
use Rattle.bl_reduce.specs.Variables.{local_get, local_set, local_tee, global_get, global_set, set_local, set_global}
use Rattle.bl_reduce.specs.TypedConfigurations.{IsValue, IsGlobalValue, BeginsWith, IsTypedStep}
use Rattle.bl_reduce.proofs.Ready.{Ready, Onto, onto, taken, going, pushing, popping, knowing, integer_value, integer_argument}
use Rattle.bl_base.proofs.Lists.{zip_get, zip_set, mapped_get}

module _ (tree : Tree) (results : List ValueType) (type : Signature) (open_ones : List Open) where
  abbrev Steps : Next Config → Type 0
  Steps next = IsTypedStep tree results next

  abbrev ReadyAt : List WasmType → State → Type 0
  ReadyAt top state = Ready tree results type open_ones top state

  abbrev Begins : List WasmType → State → Type 0
  Begins to state = BeginsWith tree type open_ones to state.frame

  pub constant_steps : (kind : WasmType) (n : ℕ) (from to : List WasmType) (state : State) → IsValue kind n → Arrow [] (kind ∷ []) from to
      → ReadyAt (reverse from) state → Begins to state → Steps (push n state)
  constant_steps kind n from to state h a ready begins =
      pushing tree results type open_ones (reverse a.lower) kind n state (taken tree results type open_ones from a.lower [] state a.before ready) h
      (onto tree results type open_ones to a.lower (kind ∷ []) state a.behind begins)

  pub nop_steps : (from to : List WasmType) (state : State) → Arrow [] [] from to → ReadyAt (reverse from) state → Begins to state → Steps (go state)
  nop_steps from to state a ready begins =
      going tree results type open_ones (reverse a.lower) state (taken tree results type open_ones from a.lower [] state a.before ready)
      (onto tree results type open_ones to a.lower [] state a.behind begins)

  pub drop_steps : (kind : WasmType) (from to : List WasmType) (state : State) → Arrow (kind ∷ []) [] from to
      → ReadyAt (reverse from) state → Begins to state → Steps (pop state (λ value state. go state))
  drop_steps kind from to state a ready begins =
      popping tree results type open_ones (reverse a.lower) kind state (λ value state. go state) (taken tree results type open_ones from a.lower (kind ∷ []) state a.before ready)
      (λ value below h r. going tree results type open_ones (reverse a.lower) (with_values below state) r
      (onto tree results type open_ones to a.lower [] (with_values below state) a.behind begins))

  select_value : (kind : WasmType) (a b c : ℕ) → IsValue kind a → IsValue kind b → IsValue kind (meaning op.Select a b c)
  unfolding meaning
  select_value kind a b c h i = either (eqb (c % 2 ^ 32) 0)
    where
      either : (test : Bool) → IsValue kind (cond test b a)
      either true = i
      either false = h

  pub select_steps : (kind : WasmType) (from to : List WasmType) (state : State) → Arrow (kind ∷ kind ∷ I32 ∷ []) (kind ∷ []) from to
      → ReadyAt (reverse from) state → Begins to state
      → Steps (pop state (λ c state. pop state (λ b state. pop state (λ a state. push (meaning op.Select a b c) state))))
  select_steps kind from to state a ready begins =
      popping tree results type open_ones (kind ∷ kind ∷ reverse a.lower) I32 state
      (λ c state. pop state (λ b state. pop state (λ a state. push (meaning op.Select a b c) state)))
      (taken tree results type open_ones from a.lower (kind ∷ kind ∷ I32 ∷ []) state a.before ready)
      (λ z below h r. popping tree results type open_ones (kind ∷ reverse a.lower) kind (with_values below state)
      (λ b state. pop state (λ a state. push (meaning op.Select a b z) state)) r
      (λ y below' h' r'. popping tree results type open_ones (reverse a.lower) kind (with_values below' state)
      (λ a state. push (meaning op.Select a y z) state) r'
      (λ x below'' h'' r''. pushing tree results type open_ones (reverse a.lower) kind (meaning op.Select x y z) (with_values below'' state) r''
      (select_value kind x y z h'' h')
      (onto tree results type open_ones to a.lower (kind ∷ []) (with_values below'' state) a.behind begins))))

  -- ---- locals

  pub local_get_steps : (x : ℕ) (kind : WasmType) (from to : List WasmType) (state : State) → slice_get (all_locals type state.frame.function) x ≡ Some kind → Arrow [] (kind ∷ []) from to
      → ReadyAt (reverse from) state → Begins to state → Steps (local_get x state)
  local_get_steps x kind from to state e a ready begins =
      let got = zip_get IsValue (all_locals type state.frame.function) state.frame.locals x kind ready.locals e in
      knowing tree results (slice_get state.frame.locals x) got.0 (λ value. push value state) got.1 (constant_steps kind got.0 from to state got.2 a ready begins)

  set_local_steps : (x value : ℕ) (kind : WasmType) (top : List WasmType) (state : State) → slice_get (all_locals type state.frame.function) x ≡ Some kind → IsValue kind value
      → ReadyAt top state → Onto tree results type open_ones top state → Steps (set_local x value state)
  set_local_steps x value kind top state e h ready on =
      let got = zip_get IsValue (all_locals type state.frame.function) state.frame.locals x kind ready.locals e in
      let after : State = record state { frame = record state.frame { locals = set state.frame.locals x value } } in
      knowing tree results (slice_get state.frame.locals x) got.0 (λ old. go after) got.1
      (going tree results type open_ones top after
      (record {
        store_is = ready.store_is;
        exists = ready.exists;
        typed = ready.typed;
        arity = ready.arity;
        locals = zip_set IsValue (all_locals type state.frame.function) state.frame.locals x kind value ready.locals e h;
        labels = ready.labels;
        values = ready.values;
        callers_are = ready.callers_are;
        depth = ready.depth;
      })
      (record { stack = on.stack; turned = on.turned; begins = on.begins }))

  pub local_set_steps : (x : ℕ) (kind : WasmType) (from to : List WasmType) (state : State) → slice_get (all_locals type state.frame.function) x ≡ Some kind → Arrow (kind ∷ []) [] from to
      → ReadyAt (reverse from) state → Begins to state → Steps (local_set x state)
  local_set_steps x kind from to state e a ready begins =
      popping tree results type open_ones (reverse a.lower) kind state (λ value state. set_local x value state) (taken tree results type open_ones from a.lower (kind ∷ []) state a.before ready)
      (λ value below h r. set_local_steps x value kind (reverse a.lower) (with_values below state) e h r
      (onto tree results type open_ones to a.lower [] (with_values below state) a.behind begins))

  pub local_tee_steps : (x : ℕ) (kind : WasmType) (from to : List WasmType) (state : State) → slice_get (all_locals type state.frame.function) x ≡ Some kind → Arrow (kind ∷ []) (kind ∷ []) from to
      → ReadyAt (reverse from) state → Begins to state → Steps (local_tee x state)
  local_tee_steps x kind from to state e a ready begins =
      popping tree results type open_ones (reverse a.lower) kind state (λ value below. set_local x value state) (taken tree results type open_ones from a.lower (kind ∷ []) state a.before ready)
      (λ value below h r. set_local_steps x value kind (kind ∷ reverse a.lower) state e h (taken tree results type open_ones from a.lower (kind ∷ []) state a.before ready)
      (onto tree results type open_ones to a.lower (kind ∷ []) state a.behind begins))

  -- ---- globals

  pub global_get_steps : (x : ℕ) (global : GlobalType) (from to : List WasmType) (state : State) → slice_get (map global_type tree.globals) x ≡ Some global → Arrow [] (global.kind ∷ []) from to
      → ReadyAt (reverse from) state → Begins to state → Steps (global_get x state)
  global_get_steps x global from to state e a ready begins =
      let known_global = mapped_get global_type tree.globals x global e in
      let got = zip_get IsGlobalValue tree.globals state.store.globals x known_global.0 ready.store_is.globals known_global.1 in
      let is_value : IsValue global.kind got.0 = subst (λ g. IsValue g.kind got.0) known_global.2 (integer_value known_global.0.kind got.0 got.2) in
      knowing tree results (slice_get state.store.globals x) got.0 (λ value. push value state) got.1 (constant_steps global.kind got.0 from to state is_value a ready begins)

  set_global_steps : (x value : ℕ) (global : Global) (top : List WasmType) (state : State) → slice_get tree.globals x ≡ Some global → IsGlobalValue global value
      → ReadyAt top state → Onto tree results type open_ones top state → Steps (set_global x value state)
  set_global_steps x value global top state e h ready on =
      let got = zip_get IsGlobalValue tree.globals state.store.globals x global ready.store_is.globals e in
      let after : State = record state { store = record state.store { globals = set state.store.globals x value } } in
      knowing tree results (slice_get state.store.globals x) got.0 (λ old. go after) got.1
      (going tree results type open_ones top after
      (record {
        store_is = record {
          memories = ready.store_is.memories;
          globals = zip_set IsGlobalValue tree.globals state.store.globals x global value ready.store_is.globals e h;
        };
        exists = ready.exists;
        typed = ready.typed;
        arity = ready.arity;
        locals = ready.locals;
        labels = ready.labels;
        values = ready.values;
        callers_are = ready.callers_are;
        depth = ready.depth;
      })
      (record { stack = on.stack; turned = on.turned; begins = on.begins }))

  pub global_set_steps : (x : ℕ) (global : GlobalType) (from to : List WasmType) (state : State) → slice_get (map global_type tree.globals) x ≡ Some global → Arrow (global.kind ∷ []) [] from to
      → ReadyAt (reverse from) state → Begins to state → Steps (global_set x state)
  global_set_steps x global from to state e a ready begins =
      let known_global = mapped_get global_type tree.globals x global e in
      popping tree results type open_ones (reverse a.lower) global.kind state (λ value state. set_global x value state)
      (taken tree results type open_ones from a.lower (global.kind ∷ []) state a.before ready)
      (λ value below h r. set_global_steps x value known_global.0 (reverse a.lower) (with_values below state) known_global.1
      (integer_argument known_global.0.kind value (subst (λ g. IsValue g.kind value) (sym known_global.2) h)) r
      (onto tree results type open_ones to a.lower [] (with_values below state) a.behind begins))

-- A running configuration between the taking of its next item and the end of that item's step.
use Rattle.std.proofs.Common.{◌≡◌, ℕ, ◌<◌, ◌^◌, List, [], ◌∷◌, ◌++◌, length, reverse, Option, Some, slice_get, sym, ap, ◌∙◌, subst, arith}
use Rattle.std.proofs.lemmas.List.{reverse-append}
use Rattle.std.specs.List.{AllZip}
use Rattle.bl_base.specs.Fits.{ArgumentFits}
use Rattle.bl_base.specs.Quantity.{most_calls}
use Rattle.bl_base.specs.Runs.{Next}
use Rattle.bl_base.specs.declared.names.ValueType.{ValueType}
use Rattle.bl_base.specs.declared.names.ValueType.TheVariants as value
use Rattle.bl_base.specs.declared.trap.Trap.{Trap}
use Rattle.bl_wasm.specs.Linked.{all_locals, context}
use Rattle.bl_wasm.specs.Typing.{Open, integer}
use Rattle.bl_wasm.specs.declared.types.WasmType.{WasmType}
use Rattle.bl_wasm.specs.declared.types.WasmType.TheVariants.{I32, I64, F32, F64}
use Rattle.bl_wasm.specs.declared.linked.Signature.{Signature}
use Rattle.bl_wasm.specs.declared.linked.Tree.{Tree}
use Rattle.bl_reduce.specs.Configurations.{State, Config, go, trap, known, pop_from, pop, push, with_values}
use Rattle.bl_reduce.specs.TypedConfigurations.{IsValue, IsStore, AreLabels, BeginsWith, AreCallers, IsTypedStep}

-- ---- values

-- a value of an integer type
pub integer_value : (type : ValueType) (value : ℕ) → ArgumentFits type value → IsValue (integer type) value
integer_value value.I32 value h = h
integer_value value.I64 value h = h

pub integer_argument : (type : ValueType) (value : ℕ) → IsValue (integer type) value → ArgumentFits type value
integer_argument value.I32 value h = h
integer_argument value.I64 value h = h

pub zero_value : (type : WasmType) → IsValue type 0
zero_value I32 = omega arith
zero_value I64 = omega arith
zero_value F32 = omega arith
zero_value F64 = omega arith

-- every value is below 2^64
pub value_below : (type : WasmType) (value : ℕ) → IsValue type value → value < 2 ^ 64
value_below I32 value h = omega (arith, h)
value_below I64 value h = h
value_below F32 value h = omega (arith, h)
value_below F64 value h = h

module _ (tree : Tree) (results : List ValueType) where
  -- a state is typed but for what is left of the body: its values above the innermost label have these types, topmost first
  pub record Ready (type : Signature) (open_ones : List Open) (top : List WasmType) (state : State) : Type 0 where
    pub store_is : IsStore tree state.store
    pub exists : slice_get tree.functions state.frame.number ≡ Some state.frame.function
    pub typed : slice_get tree.types state.frame.function.type_index ≡ Some type
    pub arity : state.frame.arity ≡ length type.results
    pub locals : AllZip IsValue (all_locals type state.frame.function) state.frame.locals
    pub labels : AreLabels (context tree type state.frame.function) state.frame.function.code.items open_ones state.frame.labels
    pub values : AllZip IsValue top state.frame.values
    pub callers_are : AreCallers tree results type.results state.callers
    pub depth : length state.callers < most_calls

  -- what is left of the body begins with operands of these types, topmost first
  pub record Onto (type : Signature) (open_ones : List Open) (top : List WasmType) (state : State) : Type 0 where
    pub stack : List WasmType
    pub turned : reverse stack ≡ top
    pub begins : BeginsWith tree type open_ones stack state.frame

  pub onto : (type : Signature) (open_ones : List Open) (to lower outputs : List WasmType) (state : State) → to ≡ lower ++ outputs
      → BeginsWith tree type open_ones to state.frame → Onto type open_ones (reverse outputs ++ reverse lower) state
  onto type open_ones to lower outputs state e begins = record { stack = to; turned = ap reverse e ∙ reverse-append lower outputs; begins = begins }

  -- operands of an item, topmost first
  pub taken : (type : Signature) (open_ones : List Open) (from lower inputs : List WasmType) (state : State) → from ≡ lower ++ inputs
      → Ready type open_ones (reverse from) state → Ready type open_ones (reverse inputs ++ reverse lower) state
  taken type open_ones from lower inputs state e ready = subst (λ top. Ready type open_ones top state) (ap reverse e ∙ reverse-append lower inputs) ready

  -- the step ends where the values are those that the rest begins with
  pub going : (type : Signature) (open_ones : List Open) (top : List WasmType) (state : State) → Ready type open_ones top state → Onto type open_ones top state
      → IsTypedStep tree results (go state)
  going type open_ones top state ready on = record {
    store_is = ready.store_is;
    type = type;
    open_ones = open_ones;
    stack = on.stack;
    frame_is = record {
      exists = ready.exists;
      typed = ready.typed;
      arity = ready.arity;
      locals = ready.locals;
      labels = ready.labels;
      values = subst (λ top. AllZip IsValue top state.frame.values) (sym on.turned) ready.values;
    };
    begins = on.begins;
    callers_are = ready.callers_are;
    depth = ready.depth;
  }

  pub trapping : (type : Signature) (open_ones : List Open) (top : List WasmType) (kind : Trap) (state : State) → Ready type open_ones top state → IsTypedStep tree results (trap kind state)
  trapping type open_ones top kind state ready = ready.store_is.memories

  -- the state with other values
  pub revalued : (type : Signature) (open_ones : List Open) (top to : List WasmType) (values : List ℕ) (state : State) → Ready type open_ones top state → AllZip IsValue to values
      → Ready type open_ones to (with_values values state)
  revalued type open_ones top to values state ready h = record {
    store_is = ready.store_is;
    exists = ready.exists;
    typed = ready.typed;
    arity = ready.arity;
    locals = ready.locals;
    labels = ready.labels;
    values = h;
    callers_are = ready.callers_are;
    depth = ready.depth;
  }

  pub pushing : (type : Signature) (open_ones : List Open) (top : List WasmType) (kind : WasmType) (value : ℕ) (state : State)
      → Ready type open_ones top state → IsValue kind value → Onto type open_ones (kind ∷ top) state → IsTypedStep tree results (push value state)
  pushing type open_ones top kind value state ready h on =
      going type open_ones (kind ∷ top) (with_values (value ∷ state.frame.values) state)
      (revalued type open_ones top (kind ∷ top) (value ∷ state.frame.values) state ready (h, ready.values))
      (record { stack = on.stack; turned = on.turned; begins = on.begins })

  popping_from : (type : Signature) (open_ones : List Open) (top : List WasmType) (kind : WasmType) (values : List ℕ) (state : State) (step : ℕ → State → Next Config)
      → Ready type open_ones (kind ∷ top) state → AllZip IsValue (kind ∷ top) values
      → ((value : ℕ) (below : List ℕ) → IsValue kind value → Ready type open_ones top (with_values below state) → IsTypedStep tree results (step value (with_values below state)))
      → IsTypedStep tree results (pop_from values state step)
  popping_from type open_ones top kind [] state step ready h next = absurd h
  popping_from type open_ones top kind (value ∷ below) state step ready h next = next value below h.0 (revalued type open_ones (kind ∷ top) top below state ready h.1)

  pub popping : (type : Signature) (open_ones : List Open) (top : List WasmType) (kind : WasmType) (state : State) (step : ℕ → State → Next Config)
      → Ready type open_ones (kind ∷ top) state
      → ((value : ℕ) (below : List ℕ) → IsValue kind value → Ready type open_ones top (with_values below state) → IsTypedStep tree results (step value (with_values below state)))
      → IsTypedStep tree results (pop state step)
  popping type open_ones top kind state step ready next = popping_from type open_ones top kind state.frame.values state step ready ready.values next

  -- what is known goes into the step
  pub knowing : {A : Type 0} (o : Option A) (x : A) (step : A → Next Config) → o ≡ Some x → IsTypedStep tree results (step x) → IsTypedStep tree results (known o step)
  knowing o x step e h = subst (λ o. IsTypedStep tree results (known o step)) (sym e) h

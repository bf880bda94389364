-- Steps of control instructions but for calls keep types.
use Rattle.std.proofs.Common.{◌≡◌, ℕ, zero, suc, ◌+◌, ◌<◌, Bool, true, false, cond, eqb, List, [], ◌∷◌, ◌++◌, length, map, reverse, take, drop, Some, None, slice_get, ◌⊎◌, inl, inr, refl, sym, ap, ◌∙◌, subst, arith}
use Rattle.std.specs.Prelude.{unwrap_or}
use Rattle.std.specs.List.{All, AllZip}
use Rattle.std.proofs.lemmas.Bool.{eq-eqb}
use Rattle.std.proofs.lemmas.List.{length-map, length-reverse, reverse-append}
use Rattle.std.proofs.lemmas.Option.{none-some, same_Some}
use Rattle.bl_base.specs.Fits.{ArgumentFits}
use Rattle.bl_base.specs.Quantity.{most_calls}
use Rattle.bl_base.specs.Runs.{Next, stuck}
use Rattle.bl_base.specs.declared.names.ValueType.{ValueType}
use Rattle.bl_wasm.specs.Linked.{context}
use Rattle.bl_wasm.specs.OpenConstructs.{of_block, of_loop, then_part}
use Rattle.bl_wasm.specs.Typing.{Context, Open, opened, Arrow, Leaves, integer, labels, taken_by}
use Rattle.bl_wasm.specs.declared.instruction.Instr.{Instr}
use Rattle.bl_wasm.specs.declared.instruction.Instr.TheVariants.{Loop}
use Rattle.bl_wasm.specs.declared.types.BlockType.{BlockType}
use Rattle.bl_wasm.specs.declared.types.FuncType.{FuncType}
use Rattle.bl_wasm.specs.declared.types.WasmType.{WasmType}
use Rattle.bl_wasm.specs.declared.types.WasmType.TheVariants.{I32}
use Rattle.bl_wasm.specs.declared.linked.Signature.{Signature}
use Rattle.bl_wasm.specs.declared.linked.Tree.{Tree}
use Rattle.bl_reduce.specs.Configurations.{Store, ControlLabel, Frame, State, Config, go, with_values}
use Rattle.bl_reduce.specs.Control.{items_behind_end, items_of_else, enter_with, enter_block, enter_loop, enter_if, leave_label, branch_to, branch, branch_if, branch_by}
use Rattle.bl_reduce.specs.Returns.{return_to, return}
use Rattle.bl_reduce.specs.TypedConfigurations.{IsValue, IsStore, IsRest, IsLabel, AreLabels, BeginsWith, AreCallers, IsTypedStep}
use Rattle.bl_reduce.proofs.Places.{parted, place_onward, place_behind_end}
use Rattle.bl_reduce.proofs.Ready.{Ready, onto, taken, going, popping, integer_argument}
use Rattle.bl_base.proofs.Lists.{zip_append, zip_front, zip_back, zip_unmap, zip_unreverse, all_chosen}

-- ---- labels

module _ (c : Context) (body : List Instr) where
  -- a branch within the function
  pub record ToLabel (open_ones : List Open) (frame_labels : List ControlLabel) (l : ℕ) (types : List WasmType) : Type 0 where
    pub label : ControlLabel
    pub one : Open
    pub outer : List Open
    pub got : slice_get frame_labels l ≡ Some label
    pub is : IsLabel c body one outer label
    pub others : AreLabels c body outer (drop (l + 1) frame_labels)
    pub takes : taken_by one.kind one.type ≡ types

  -- a branch out of it
  pub record OutOfAll (frame_labels : List ControlLabel) (l : ℕ) (types : List WasmType) : Type 0 where
    pub got : slice_get frame_labels l ≡ None
    pub last : l ≡ length frame_labels
    pub takes : c.results ≡ types

  -- where a label that the typing names leads
  pub find_label : (open_ones : List Open) (frame_labels : List ControlLabel) (l : ℕ) (types : List WasmType) → AreLabels c body open_ones frame_labels
      → slice_get (labels c open_ones) l ≡ Some types → ToLabel open_ones frame_labels l types ⊎ OutOfAll frame_labels l types
  find_label [] [] zero types h e = inr (record { got = refl; last = refl; takes = same_Some c.results types e })
  find_label [] [] (suc l) types h e = absurd (none-some types e)
  find_label [] (label ∷ frame_labels) l types h e = absurd h
  find_label (one ∷ outer) [] l types h e = absurd h
  find_label (one ∷ outer) (label ∷ frame_labels) zero types h e =
      inl (record { label = label; one = one; outer = outer; got = refl; is = h.0; others = h.1; takes = same_Some (taken_by one.kind one.type) types e })
  find_label (one ∷ outer) (label ∷ frame_labels) (suc l) types h e = further (find_label outer frame_labels l types h.1 e)
    where
      further : ToLabel outer frame_labels l types ⊎ OutOfAll frame_labels l types → ToLabel (one ∷ outer) (label ∷ frame_labels) (suc l) types ⊎ OutOfAll (label ∷ frame_labels) (suc l) types
      further (inl t) =
          let next : suc (l + 1) ≡ suc l + 1 = omega arith in
          inl (record {
            label = t.label;
            one = t.one;
            outer = t.outer;
            got = t.got;
            is = t.is;
            others = subst (λ n. AreLabels c body t.outer (drop n (label ∷ frame_labels))) next t.others;
            takes = t.takes;
          })
      further (inr o) = inr (record { got = o.got; last = ap suc o.last; takes = o.takes })

-- ---- returns

module _ (tree : Tree) (results : List ValueType) where
  pub return_to_steps : (callers : List Frame) (awaited : List ValueType) (values : List ℕ) (store : Store) → IsStore tree store → AreCallers tree results awaited callers
      → length callers < most_calls → AllZip IsValue (reverse (map integer awaited)) values → IsTypedStep tree results (return_to callers values store)
  return_to_steps [] awaited values store store_is callers_are depth h =
      let in_order : AllZip ArgumentFits awaited (reverse values) =
      zip_unmap integer IsValue ArgumentFits integer_argument awaited (reverse values) (zip_unreverse IsValue (map integer awaited) values h) in
      (subst (λ types. AllZip ArgumentFits types (reverse values)) callers_are in_order, store_is.memories)
  return_to_steps (caller ∷ callers) awaited values store store_is callers_are depth h =
      let is = callers_are.1 in
      record {
        store_is = store_is;
        type = callers_are.0;
        open_ones = is.open_ones;
        stack = is.stack ++ map integer awaited;
        frame_is = record {
          exists = is.frame_is.exists;
          typed = is.frame_is.typed;
          arity = is.frame_is.arity;
          locals = is.frame_is.locals;
          labels = is.frame_is.labels;
          values = subst (λ top. AllZip IsValue top (values ++ caller.values)) (sym (reverse-append is.stack (map integer awaited)))
              (zip_append IsValue (reverse (map integer awaited)) (reverse is.stack) values caller.values h is.frame_is.values);
        };
        begins = is.begins;
        callers_are = callers_are.2;
        depth = omega (arith, depth);
      }

module _ (tree : Tree) (results : List ValueType) (type : Signature) (open_ones : List Open) where
  abbrev Steps : Next Config → Type 0
  Steps next = IsTypedStep tree results next

  abbrev ReadyAt : List WasmType → State → Type 0
  ReadyAt top state = Ready tree results type open_ones top state

  -- the context and the body of a state
  abbrev of_state : State → Context
  of_state state = context tree type state.frame.function

  abbrev body_of : State → List Instr
  body_of state = state.frame.function.code.items

  -- the topmost values of these types
  pub topmost : (types low : List WasmType) (count : ℕ) (state : State) → count ≡ length types → ReadyAt (reverse types ++ low) state
      → AllZip IsValue (reverse types) (take count state.frame.values)
  topmost types low count state e ready =
      let long : length (reverse types) ≡ count = length-reverse types ∙ sym e in
      subst (λ n. AllZip IsValue (reverse types) (take n state.frame.values)) long (zip_front IsValue (reverse types) low state.frame.values ready.values)

  pub return_steps : (low : List WasmType) (state : State) → ReadyAt (reverse (map integer type.results) ++ low) state → Steps (return state)
  return_steps low state ready =
      return_to_steps tree results state.callers type.results (take state.frame.arity state.frame.values) state.store ready.store_is ready.callers_are ready.depth
      (topmost (map integer type.results) low state.frame.arity state (ready.arity ∙ sym (length-map type.results integer)) ready)

  -- ---- branches

  branch_to_label : (l : ℕ) (types low : List WasmType) (state : State) → ReadyAt (reverse types ++ low) state
      → ToLabel (of_state state) (body_of state) open_ones state.frame.labels l types → Steps (branch_to (slice_get state.frame.labels l) l state)
  branch_to_label l types low state ready t =
      let arity : t.label.arity ≡ length types = t.is.arity ∙ ap length t.takes in
      let takes = topmost types low t.label.arity state arity ready in
      let takes_too : AllZip IsValue (reverse (taken_by t.one.kind t.one.type)) (take t.label.arity state.frame.values) =
      subst (λ types. AllZip IsValue (reverse types) (take t.label.arity state.frame.values)) (sym t.takes) takes in
      subst (λ o. Steps (branch_to o l state)) (sym t.got) (record {
        store_is = ready.store_is;
        type = type;
        open_ones = t.outer;
        stack = t.one.lower ++ taken_by t.one.kind t.one.type;
        frame_is = record {
          exists = ready.exists;
          typed = ready.typed;
          arity = ready.arity;
          locals = ready.locals;
          labels = t.others;
          values = subst (λ top. AllZip IsValue top (take t.label.arity state.frame.values ++ t.label.below)) (sym (reverse-append t.one.lower (taken_by t.one.kind t.one.type)))
              (zip_append IsValue (reverse (taken_by t.one.kind t.one.type)) (reverse t.one.lower) (take t.label.arity state.frame.values) t.label.below takes_too t.is.below);
        };
        begins = t.is.continuation;
        callers_are = ready.callers_are;
        depth = ready.depth;
      })

  branch_out : (l : ℕ) (types low : List WasmType) (state : State) → ReadyAt (reverse types ++ low) state
      → OutOfAll (of_state state) (body_of state) state.frame.labels l types → Steps (branch_to (slice_get state.frame.labels l) l state)
  branch_out l types low state ready o =
      subst (λ found. Steps (branch_to found l state)) (sym o.got)
      (subst (λ test. Steps (cond test (return state) stuck)) (sym (eq-eqb l (length state.frame.labels) o.last))
      (return_steps low state (subst (λ types. ReadyAt (reverse types ++ low) state) (sym o.takes) ready)))

  pub branch_steps : (l : ℕ) (types low : List WasmType) (state : State) → ReadyAt (reverse types ++ low) state
      → slice_get (labels (of_state state) open_ones) l ≡ Some types → Steps (branch l state)
  branch_steps l types low state ready e = by_case (find_label (of_state state) (body_of state) open_ones state.frame.labels l types ready.labels e)
    where
      by_case : ToLabel (of_state state) (body_of state) open_ones state.frame.labels l types ⊎ OutOfAll (of_state state) (body_of state) state.frame.labels l types → Steps (branch l state)
      by_case (inl t) = branch_to_label l types low state ready t
      by_case (inr o) = branch_out l types low state ready o

  pub br_steps : (l : ℕ) (types from : List WasmType) (state : State) → slice_get (labels (of_state state) open_ones) l ≡ Some types → Leaves types from
      → ReadyAt (reverse from) state → Steps (branch l state)
  br_steps l types from state e a ready = branch_steps l types (reverse a.lower) state (taken tree results type open_ones from a.lower types state a.before ready) e

  -- an i32 above operands
  pub above : (from lower types : List WasmType) (state : State) → from ≡ lower ++ (types ++ I32 ∷ []) → ReadyAt (reverse from) state → ReadyAt (I32 ∷ reverse types ++ reverse lower) state
  above from lower types state e ready =
      subst (λ top. ReadyAt (top ++ reverse lower) state) (reverse-append types (I32 ∷ [])) (taken tree results type open_ones from lower (types ++ I32 ∷ []) state e ready)

  pub br_if_steps : (l : ℕ) (types from to : List WasmType) (state : State) → slice_get (labels (of_state state) open_ones) l ≡ Some types → Arrow (types ++ I32 ∷ []) types from to
      → ReadyAt (reverse from) state → BeginsWith tree type open_ones to state.frame → Steps (branch_if l state)
  br_if_steps l types from to state e a ready begins =
      popping tree results type open_ones (reverse types ++ reverse a.lower) I32 state (λ condition state. cond (eqb condition 0) (go state) (branch l state))
      (above from a.lower types state a.before ready)
      (λ condition below h r. at_test (eqb condition 0) (go (with_values below state)) (branch l (with_values below state))
      (going tree results type open_ones (reverse types ++ reverse a.lower) (with_values below state) r
      (onto tree results type open_ones to a.lower types (with_values below state) a.behind begins))
      (branch_steps l types (reverse a.lower) (with_values below state) r e))
    where
      at_test : (test : Bool) (step other : Next Config) → Steps step → Steps other → Steps (cond test step other)
      at_test true step other h i = h
      at_test false step other h i = i

  pub br_table_steps : (ls : List ℕ) (default : ℕ) (types from : List WasmType) (state : State) → All (λ l. slice_get (labels (of_state state) open_ones) l ≡ Some types) (ls ++ default ∷ [])
      → Leaves (types ++ I32 ∷ []) from → ReadyAt (reverse from) state → Steps (branch_by ls default state)
  br_table_steps ls default types from state e a ready =
      popping tree results type open_ones (reverse types ++ reverse a.lower) I32 state (λ index state. branch (unwrap_or (slice_get ls index) default) state)
      (above from a.lower types state a.before ready)
      (λ index below h r. branch_steps (unwrap_or (slice_get ls index) default) types (reverse a.lower) (with_values below state) r
      (all_chosen (λ l. slice_get (labels (of_state state) open_ones) l ≡ Some types) ls default index e))

  -- ---- blocks

  entering_steps : (one : Open) (arity : ℕ) (continuation inside : List Instr) (state : State) → ReadyAt (reverse one.type.params ++ reverse one.lower) state
      → arity ≡ length (taken_by one.kind one.type) → IsRest (of_state state) (body_of state) open_ones (one.lower ++ taken_by one.kind one.type) continuation
      → IsRest (of_state state) (body_of state) (one ∷ open_ones) one.type.params inside → Steps (enter_with arity (length one.type.params) continuation inside state)
  entering_steps one arity continuation inside state ready e then begins = record {
    store_is = ready.store_is;
    type = type;
    open_ones = one ∷ open_ones;
    stack = one.type.params;
    frame_is = record {
      exists = ready.exists;
      typed = ready.typed;
      arity = ready.arity;
      locals = ready.locals;
      labels = (
        record {
          arity = e;
          continuation = then;
          below = subst (λ n. AllZip IsValue (reverse one.lower) (drop n state.frame.values)) (length-reverse one.type.params)
              (zip_back IsValue (reverse one.type.params) (reverse one.lower) state.frame.values ready.values);
        },
        ready.labels,
      );
      values = topmost one.type.params (reverse one.lower) (length one.type.params) state refl ready;
    };
    begins = begins;
    callers_are = ready.callers_are;
    depth = ready.depth;
  }

  pub block_steps : (kind : FuncType) (lower from : List WasmType) (state : State) → from ≡ lower ++ kind.params → ReadyAt (reverse from) state
      → IsRest (of_state state) (body_of state) (opened of_block kind lower ∷ open_ones) kind.params state.frame.rest → Steps (enter_block kind state.frame.rest state)
  block_steps kind lower from state e ready begins =
      entering_steps (opened of_block kind lower) (length kind.results) (items_behind_end [] state.frame.rest) state.frame.rest state
      (taken tree results type open_ones from lower kind.params state e ready) refl
      (place_behind_end (of_state state) (body_of state) (opened of_block kind lower) open_ones kind.params state.frame.rest begins) begins

  pub loop_steps : (immediate : BlockType) (kind : FuncType) (lower from : List WasmType) (state : State) → from ≡ lower ++ kind.params → ReadyAt (reverse from) state
      → IsRest (of_state state) (body_of state) open_ones from (Loop immediate ∷ state.frame.rest)
      → IsRest (of_state state) (body_of state) (opened of_loop kind lower ∷ open_ones) kind.params state.frame.rest → Steps (enter_loop immediate kind state)
  loop_steps immediate kind lower from state e ready again begins =
      entering_steps (opened of_loop kind lower) (length kind.params) (Loop immediate ∷ state.frame.rest) state.frame.rest state
      (taken tree results type open_ones from lower kind.params state e ready) refl
      (subst (λ stack. IsRest (of_state state) (body_of state) open_ones stack (Loop immediate ∷ state.frame.rest)) e again) begins

  -- an if whose condition was taken off
  chosen_steps : (test : Bool) (kind : FuncType) (lower : List WasmType) (state : State) → ReadyAt (reverse kind.params ++ reverse lower) state
      → IsRest (of_state state) (body_of state) (opened then_part kind lower ∷ open_ones) kind.params state.frame.rest
      → Steps (cond test (enter_block kind (items_of_else [] state.frame.rest) state) (enter_block kind state.frame.rest state))
  chosen_steps false kind lower state ready begins =
      entering_steps (opened then_part kind lower) (length kind.results) (items_behind_end [] state.frame.rest) state.frame.rest state ready refl
      (place_behind_end (of_state state) (body_of state) (opened then_part kind lower) open_ones kind.params state.frame.rest begins) begins
  chosen_steps true kind lower state ready begins =
      let s = parted (of_state state) kind lower state.frame.rest open_ones [] [] kind.params begins.later tt begins.typing in
      entering_steps (opened s.kind kind lower) (length kind.results) (items_behind_end [] state.frame.rest) (items_of_else [] state.frame.rest) state ready (ap length (sym s.taken))
      (subst (λ types. IsRest (of_state state) (body_of state) open_ones (lower ++ types) (items_behind_end [] state.frame.rest)) (sym s.taken)
      (place_behind_end (of_state state) (body_of state) (opened then_part kind lower) open_ones kind.params state.frame.rest begins))
      (place_onward (of_state state) (body_of state) (opened then_part kind lower ∷ open_ones) (opened s.kind kind lower ∷ open_ones) kind.params kind.params
      state.frame.rest (items_of_else [] state.frame.rest) begins s.onward)

  pub if_steps : (kind : FuncType) (from lower : List WasmType) (state : State) → from ≡ lower ++ (kind.params ++ I32 ∷ []) → ReadyAt (reverse from) state
      → IsRest (of_state state) (body_of state) (opened then_part kind lower ∷ open_ones) kind.params state.frame.rest → Steps (enter_if kind state)
  if_steps kind from lower state e ready begins =
      popping tree results type open_ones (reverse kind.params ++ reverse lower) I32 state
      (λ condition state. cond (eqb condition 0) (enter_block kind (items_of_else [] state.frame.rest) state) (enter_block kind state.frame.rest state))
      (above from lower kind.params state e ready)
      (λ condition below h r. chosen_steps (eqb condition 0) kind lower (with_values below state) r begins)

module _ (tree : Tree) (results : List ValueType) (type : Signature) (one : Open) (outer : List Open) where
  -- the end of a construct, at its results
  pub leave_steps : (frame_labels : List ControlLabel) (rest : List Instr) (types : List WasmType) (state : State)
      → AreLabels (context tree type state.frame.function) state.frame.function.code.items (one ∷ outer) frame_labels
      → Ready tree results type (one ∷ outer) (reverse types) state
      → IsRest (context tree type state.frame.function) state.frame.function.code.items outer (one.lower ++ types) rest
      → IsTypedStep tree results (leave_label frame_labels rest state)
  leave_steps [] rest types state h ready begins = absurd h
  leave_steps (label ∷ frame_labels) rest types state h ready begins = record {
    store_is = ready.store_is;
    type = type;
    open_ones = outer;
    stack = one.lower ++ types;
    frame_is = record {
      exists = ready.exists;
      typed = ready.typed;
      arity = ready.arity;
      locals = ready.locals;
      labels = h.1;
      values = subst (λ top. AllZip IsValue top (state.frame.values ++ label.below)) (sym (reverse-append one.lower types))
          (zip_append IsValue (reverse types) (reverse one.lower) state.frame.values label.below ready.values h.0.below);
    };
    begins = begins;
    callers_are = ready.callers_are;
    depth = ready.depth;
  }

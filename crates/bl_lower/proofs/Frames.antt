-- Frames whose registers change.
use Rattle.std.proofs.Common.{◌≡◌, ℕ, suc, ◌+◌, ◌<◌, ◌≤◌, cond, List, [], ◌∷◌, length, drop, Option, Some, None, refl, ap, ◌∙◌, arith, ◌⊎◌, inl, inr}
use Rattle.std.proofs.lemmas.Bool.{lt-ltb, le-ltb, cases_lt}
use Rattle.std.proofs.lemmas.Option.{slice_get_within}
use Rattle.bl_base.specs.Runs.{Next, HasStep, goes, ends, stuck, StepsTo, EndsAfter}
use Rattle.bl_base.proofs.RunLemmas.{comes_then, comes_to_end}
use Rattle.bl_wasm.specs.declared.instruction.Instr.{Instr}
use Rattle.bl_wasm.specs.declared.linked.Tree.{Tree}
use Rattle.bl_reduce.specs.Configurations.{Store, ControlLabel, Frame, State, Config, known, pop, pop_from, with_values}
use Rattle.bl_reduce.specs.TypedConfigurations.{IsMemoryState}
use Rattle.bl_base.proofs.Lists.{zip_length}
use Rattle.bl_program.specs.Steps.{Registers, Plain, depth}
use Rattle.bl_program.specs.declared.command.Operand.{Operand}
use Rattle.bl_lower.proofs.CodeLayout.{floor}
use Rattle.bl_lower.proofs.Machine.{Program, plain_step}
use Rattle.bl_lower.proofs.MatchStates.{Holds, AllHold, IsOwn, Layout, IsStore, LocalsAt, AreTargets, IsFrame, Waits, AreCallers, Here, Matches}
use Rattle.bl_emit.specs.Constructs.{Target, first_to, top}
use Rattle.bl_emit.specs.Shapes.{Shape, local, bottom}
use Rattle.bl_lower.proofs.PlainRuns.{Agree, all_later, Kept, at}

-- ---- the variables of locals

pub local_value : (shape : Shape) (x : ℕ) → ((x < shape.params) × (local shape x ≡ shape.first + x)) ⊎ ((shape.params ≤ x) × (local shape x ≡ shape.first + shape.results + x))
local_value shape x = elim (cases_lt x shape.params) [
  | inl lt ↦ inl (lt, ap (λ b. cond b (shape.first + x) (shape.first + shape.results + x)) (lt-ltb x shape.params lt))
  | inr le ↦ inr (le, ap (λ b. cond b (shape.first + x) (shape.first + shape.results + x)) (le-ltb x shape.params le))
]

-- a local's variable is below the first operand, and one of the function's
pub record IsLocal (shape : Shape) (x : ℕ) : Type 0 where
  pub below : local shape x < bottom shape
  pub own : IsOwn shape (local shape x)

pub is_local : (shape : Shape) (x : ℕ) → bottom shape ≤ shape.limit → x < shape.params + shape.locals → IsLocal shape x
is_local shape x le lt = from (local_value shape x)
  where
    from : ((x < shape.params) × (local shape x ≡ shape.first + x)) ⊎ ((shape.params ≤ x) × (local shape x ≡ shape.first + shape.results + x)) → IsLocal shape x
    from (inl h) = record { below = omega (arith, h.0, h.1); own = (omega (arith, h.1), omega (arith, h.0, h.1, le), λ above. omega (arith, h.0, h.1, above)) }
    from (inr h) = record { below = omega (arith, h.0, h.1, lt); own = (omega (arith, h.1), omega (arith, h.1, le, lt), λ above. omega (arith, h.0, h.1, above)) }

pub locals_apart : (shape : Shape) (x y : ℕ) → local shape x ≡ local shape y → x ≡ y
locals_apart shape x y e = from (local_value shape x) (local_value shape y)
  where
    from : ((x < shape.params) × (local shape x ≡ shape.first + x)) ⊎ ((shape.params ≤ x) × (local shape x ≡ shape.first + shape.results + x))
        → ((y < shape.params) × (local shape y ≡ shape.first + y)) ⊎ ((shape.params ≤ y) × (local shape y ≡ shape.first + shape.results + y)) → x ≡ y
    from (inl h) (inl i) = omega (arith, h.1, i.1, e)
    from (inl h) (inr i) = omega (arith, h.0, i.0, h.1, i.1, e)
    from (inr h) (inl i) = omega (arith, h.0, i.0, h.1, i.1, e)
    from (inr h) (inr i) = omega (arith, h.1, i.1, e)

module _ (program : Program) (bound : ℕ) (layout : Layout program) where
  -- ---- registers that change above or below the operands

  pub floor_is_above : (r : Registers) (d number : ℕ) (open_ones : List Target) (labels : List ControlLabel) → AreTargets program bound r d number open_ones labels
      → bottom (program.shape number) ≤ floor program bound number open_ones
  floor_is_above r d number [] [] h = omega arith
  floor_is_above r d number [] (label ∷ labels) h = absurd h
  floor_is_above r d number (t ∷ open_ones) [] h = absurd h
  floor_is_above r d number (t ∷ open_ones) (label ∷ labels) h = let b = floor_is_above r d number open_ones labels h.1 in omega (arith, b, h.0.above, h.0.order)

  pub targets_later : (r r' : Registers) (d number high : ℕ) (open_ones : List Target) (labels : List ControlLabel) → Agree r r' d (bottom (program.shape number)) high
      → floor program bound number open_ones ≤ high → AreTargets program bound r d number open_ones labels → AreTargets program bound r' d number open_ones labels
  targets_later r r' d number high [] [] agree le h = tt
  targets_later r r' d number high [] (label ∷ labels) agree le h = absurd h
  targets_later r r' d number high (t ∷ open_ones) [] agree le h = absurd h
  targets_later r r' d number high (t ∷ open_ones) (label ∷ labels) agree le h =
      let here = bottom (program.shape number) in (
        record {
          arity = h.0.arity;
          next = h.0.next;
          order = h.0.order;
          reached = h.0.reached;
          limit = h.0.limit;
          laid = h.0.laid;
          below = all_later r r' d here (first_to t) here (first_to t) t.below label.below (λ x above below. agree x above (omega (arith, below, le, h.0.order))) (omega arith) (omega arith) h.0.below;
          above = h.0.above;
        },
        targets_later r r' d number high open_ones labels agree (omega (arith, h.0.above, le, h.0.order)) h.1,
      )

  pub frame_later : (r r' : Registers) (d : ℕ) (open_ones : List Target) (stack : List Operand) (next : ℕ) (locals : List ℕ) (frame : Frame) → Agree r r' d (bottom (program.shape frame.number)) next
      → length locals ≡ length frame.locals → LocalsAt program bound r' d frame.number locals → IsFrame program bound r d open_ones stack next frame
      → IsFrame program bound r' d open_ones stack next (record frame { locals = locals })
  frame_later r r' d open_ones stack next locals frame agree long there h =
      let here = bottom (program.shape frame.number) in
      record {
        arity = h.arity;
        size = long ∙ h.size;
        locals = there;
        labels = targets_later r r' d frame.number next open_ones frame.labels agree h.above h.labels;
        values = all_later r r' d here next here next stack frame.values (λ x above below. agree x above below) (omega arith) (omega arith) h.values;
        above = h.above;
        limit = h.limit;
      }

  pub locals_kept : (r r' : Registers) (d number : ℕ) (locals : List ℕ) → ((x : ℕ) → x < bottom (program.shape number) → r' d x ≡ r d x)
      → length locals ≡ (program.shape number).params + (program.shape number).locals → LocalsAt program bound r d number locals → LocalsAt program bound r' d number locals
  locals_kept r r' d number locals kept size h x v got =
      let l = is_local (program.shape number) x (layout.room number) (omega (arith, slice_get_within locals x v got, size)) in
      kept (local (program.shape number) x) l.below ∙ h x v got

  -- the function's own variables are as before
  pub frame_kept : (r r' : Registers) (d : ℕ) (open_ones : List Target) (stack : List Operand) (next : ℕ) (frame : Frame)
      → ((x : ℕ) → IsOwn (program.shape frame.number) x → x < bottom (program.shape frame.number) ⊎ x < next → r' d x ≡ r d x)
      → IsFrame program bound r d open_ones stack next frame → IsFrame program bound r' d open_ones stack next frame
  frame_kept r r' d open_ones stack next frame kept h =
      frame_later r r' d open_ones stack next frame.locals frame
      (λ x above below. kept x (omega (arith, above), omega (arith, below, h.limit), λ e. omega (arith, above)) (inr below))
      refl
      (λ x v got.
      let within = slice_get_within frame.locals x v got in
      let l = is_local (program.shape frame.number) x (layout.room frame.number) (omega (arith, within, h.size)) in
      kept (local (program.shape frame.number) x) l.own (inl l.below) ∙ h.locals x v got) h

  pub waits_kept : (r r' : Registers) (d called : ℕ) (frame : Frame) (back : ℕ) → ((x : ℕ) → IsOwn (program.shape frame.number) x → r' d x ≡ r d x)
      → Waits program bound r d called frame back → Waits program bound r' d called frame back
  waits_kept r r' d called frame back kept h = record {
    open_ones = h.open_ones;
    stack = h.stack;
    next = h.next;
    frame_is = frame_kept r r' d h.open_ones h.stack h.next frame (λ x own side. kept x own) h.frame_is;
    moves_are = h.moves_are;
    room = h.room;
    after_it = h.after_it;
    jumps = h.jumps;
    laid = h.laid;
  }

  pub static_low : (number : ℕ) → program.statics ≤ bottom (program.shape number)
  static_low number = let a = layout.above number in omega (arith, a)

  pub next_low : (open_ones : List Target) (stack : List Operand) (next : ℕ) (state : State) (s : Plain) → Here program bound open_ones stack next state s → bottom (program.shape state.frame.number) ≤ next
  next_low open_ones stack next state s h =
      let low = floor_is_above s.registers (depth s) state.frame.number open_ones state.frame.labels h.frame_is.labels in
      omega (arith, low, h.frame_is.above)

  pub static_next : (open_ones : List Target) (stack : List Operand) (next : ℕ) (state : State) (s : Plain) → Here program bound open_ones stack next state s → program.statics ≤ next
  static_next open_ones stack next state s h = let a = next_low open_ones stack next state s h in let b = static_low state.frame.number in omega (arith, a, b)

  -- the callers' depths are as before
  pub callers_kept : (r r' : Registers) (called : ℕ) (callers : List Frame) (chain : List ℕ) → ((e x : ℕ) → 1 ≤ e → e ≤ length chain → r' e x ≡ r e x)
      → AreCallers program bound r called callers chain → AreCallers program bound r' called callers chain
  callers_kept r r' called [] [] kept h = tt
  callers_kept r r' called [] (back ∷ chain) kept h = absurd h
  callers_kept r r' called (frame ∷ callers) [] kept h = absurd h
  callers_kept r r' called (frame ∷ callers) (back ∷ chain) kept h = (
    waits_kept r r' (suc (length chain)) called frame back (λ x own. kept (suc (length chain)) x (omega arith) (omega arith)) h.0,
    callers_kept r r' frame.number callers chain (λ e x some le. kept e x some (omega (arith, le))) h.1,
  )

  -- what changes no global and no size
  pub store_kept : (r r' : Registers) (s : Plain) (state_store : Store) → ((x : ℕ) → x < program.statics → r' 0 x ≡ r 0 x) → IsStore program r s.space state_store → IsStore program r' s.space state_store
  store_kept r r' s store kept h = record {
    few = h.few;
    globals = λ x v got. let l = layout.sizes in kept x (omega (arith, slice_get_within store.globals x v got, h.few, l)) ∙ h.globals x v got;
    within = h.within;
    sizes = λ i state got. let l = layout.sizes in kept (program.sizes + i) (omega (arith, slice_get_within store.memories i state got, zip_length IsMemoryState program.memories store.memories h.within, l)) ∙ h.sizes i state got;
    space_is = h.space_is;
  }

  -- what a write of variables above the operands leaves
  pub here_above : (open_ones : List Target) (stack : List Operand) (next first count position : ℕ) (r' : Registers) (state : State) (s : Plain) → next ≤ first
      → Kept s.registers r' (depth s) first count → Here program bound open_ones stack next state s → Here program bound open_ones stack next state (at position r' s)
  here_above open_ones stack next first count position r' state s le kept h =
      let low = floor_is_above s.registers (depth s) state.frame.number open_ones state.frame.labels h.frame_is.labels in
      record {
        store = store_kept s.registers r' s state.store (λ x lt. kept 0 x (λ same above below. omega (arith, same))) h.store;
        frame_is = frame_kept s.registers r' (depth s) open_ones stack next state.frame
            (λ x own side. kept (depth s) x (λ same above below. elim side [ inl lt ↦ omega (arith, lt, above, le, low, h.frame_is.above) | inr lt ↦ omega (arith, lt, above, le) ])) h.frame_is;
        callers = callers_kept s.registers r' state.frame.number state.callers s.chain (λ e x some below. kept e x (λ same above under. omega (arith, same, below))) h.callers;
      }

-- ---- what the plain machine reaches

module _ (tree : Tree) (program : Program) (bound : ℕ) where
  -- behind so many commands of its step
  abbrev pub Reaches : ℕ → Next Config → Plain → Type 0
  Reaches used (goes d) s = (j : ℕ) × (t : Plain) × (1 ≤ j) × (used + j ≤ bound) × StepsTo (plain_step program) j s t × Matches program bound d t
  Reaches used (ends o) s = (j : ℕ) × (1 ≤ j) × (used + j ≤ bound) × EndsAfter (plain_step program) j s o
  Reaches used stuck s = ⊥

  -- a step that isn't stuck is followed
  abbrev pub Then : ℕ → Next Config → Plain → Type 0
  Then used next s = HasStep next → Reaches used next s

  pub reaches_later : (used k : ℕ) (next : Next Config) (s t : Plain) → StepsTo (plain_step program) k s t → Reaches (used + k) next t → Reaches used next s
  reaches_later used k (goes d) s t way h =
      (k + h.0, h.1, omega (arith, h.2), omega (arith, h.3), comes_then (plain_step program) k h.0 s t h.1 way h.4, h.5)
  reaches_later used k (ends o) s t way h = (k + h.0, omega (arith, h.1), omega (arith, h.2), comes_to_end (plain_step program) k h.0 s t o way h.3)
  reaches_later used k stuck s t way h = absurd h

  -- ---- values that are taken off

  pub frame_rebuilt : (r : Registers) (d : ℕ) (open_ones : List Target) (stack stack' : List Operand) (next to : ℕ) (values : List ℕ) (rest : List Instr) (frame : Frame) → IsFrame program bound r d open_ones stack next frame
      → AllHold r d (bottom (program.shape frame.number)) to stack' values → floor program bound frame.number open_ones ≤ to → to ≤ (program.shape frame.number).limit
      → IsFrame program bound r d open_ones stack' to (record frame { values = values; rest = rest })
  frame_rebuilt r d open_ones stack stack' next to values rest frame h all above limit = record {
    arity = h.arity;
    size = h.size;
    locals = h.locals;
    labels = h.labels;
    values = all;
    above = above;
    limit = limit;
  }

  module _ (open_ones : List Target) (next : ℕ) where
    -- other operands and items, below another variable
    pub rebuilt : (stack stack' : List Operand) (to : ℕ) (values : List ℕ) (rest : List Instr) (state : State) (s : Plain) → Here program bound open_ones stack next state s
        → AllHold s.registers (depth s) (bottom (program.shape state.frame.number)) to stack' values → floor program bound state.frame.number open_ones ≤ to → to ≤ (program.shape state.frame.number).limit
        → Here program bound open_ones stack' to (record state { frame = record state.frame { values = values; rest = rest } }) s
    rebuilt stack stack' to values rest state s h all above limit =
        record { store = h.store; frame_is = frame_rebuilt s.registers (depth s) open_ones stack stack' next to values rest state.frame h.frame_is all above limit; callers = h.callers }

    pub with_stack : (stack stack' : List Operand) (values : List ℕ) (state : State) (s : Plain) → Here program bound open_ones stack next state s
        → AllHold s.registers (depth s) (bottom (program.shape state.frame.number)) next stack' values → Here program bound open_ones stack' next (with_values values state) s
    with_stack stack stack' values state s h all = rebuilt stack stack' next values state.frame.rest state s h all h.frame_is.above h.frame_is.limit

    pub popping : (used : ℕ) (stack : List Operand) (state : State) (s : Plain) (step : ℕ → State → Next Config) → Here program bound open_ones stack next state s
        → ((v : ℕ) (vs : List ℕ) → state.frame.values ≡ v ∷ vs → Holds s.registers (depth s) (bottom (program.shape state.frame.number)) next (top stack) v
        → Here program bound open_ones (drop 1 stack) next (with_values vs state) s → Then used (step v (with_values vs state)) s)
        → Then used (pop state step) s
    popping used stack state s step h then = from stack state.frame.values refl h.frame_is.values h then
      where
        from : (stack : List Operand) (values : List ℕ) → state.frame.values ≡ values → AllHold s.registers (depth s) (bottom (program.shape state.frame.number)) next stack values
            → Here program bound open_ones stack next state s
            → ((v : ℕ) (vs : List ℕ) → state.frame.values ≡ v ∷ vs → Holds s.registers (depth s) (bottom (program.shape state.frame.number)) next (top stack) v
            → Here program bound open_ones (drop 1 stack) next (with_values vs state) s → Then used (step v (with_values vs state)) s)
            → Then used (pop_from values state step) s
        from stack [] e all h then has = absurd has
        from [] (v ∷ vs) e all h then has = absurd all
        from (a ∷ stack) (v ∷ vs) e all h then has = then v vs e all.0 (with_stack (a ∷ stack) stack vs state s h all.1) has

  pub knowing : {A : Type 0} (used : ℕ) (o : Option A) (s : Plain) (step : A → Next Config) → ((x : A) → o ≡ Some x → Then used (step x) s) → Then used (known o step) s
  knowing used None s step next has = absurd has
  knowing used (Some x) s step next has = next x refl has

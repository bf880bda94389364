-- Branches.
use Rattle.std.proofs.Common.{◌≡◌, ℕ, zero, suc, ◌+◌, ◌%◌, ◌^◌, ◌<◌, ◌≤◌, Bool, true, false, List, [], ◌∷◌, ◌++◌, length, take, drop, Some, None, slice_get, sym, ap, ◌∙◌, subst, arith, ◌⊎◌, inl, inr}
use Rattle.std.specs.Prelude.{◌==◌, if◌then◌else◌, unwrap_or}
use Rattle.std.proofs.Math.Nat.{mod-eq_of_lt}
use Rattle.std.proofs.lemmas.Bool.{eq-eqb, eqb-true, false_from_ne_true}
use Rattle.bl_base.specs.Runs.{Next, StepsTo, stuck}
use Rattle.bl_ops.specs.Numerics.{meaning}
use Rattle.bl_ops.specs.declared.op.Op.TheVariants as op
use Rattle.bl_wasm.specs.declared.linked.Tree.{Tree}
use Rattle.bl_reduce.specs.Configurations.{State, Config, go, with_values}
use Rattle.bl_reduce.specs.Control.{branch_to, branch, branch_if, branch_by}
use Rattle.bl_reduce.specs.Returns.{return}
use Rattle.bl_access.specs.Templates.{test_of}
use Rattle.bl_program.specs.Steps.{Registers, written, Plain, depth}
use Rattle.bl_program.specs.declared.command.Operand.{Operand}
use Rattle.bl_program.specs.declared.command.Operand.TheVariants.{Const}
use Rattle.bl_lower.proofs.CodeLayout.{ToAt, TestsAt}
use Rattle.bl_lower.proofs.Machine.{Program, plain_step}
use Rattle.bl_lower.proofs.MatchStates.{Holds, Layout, Here}
use Rattle.bl_emit.specs.Constructs.{Target, taken, first_to, start_of, mark_of, top}
use Rattle.bl_emit.specs.Shapes.{bottom}
use Rattle.bl_lower.proofs.Frames.{static_low, static_next, Reaches, Then, popping, reaches_later, here_above}
use Rattle.bl_lower.proofs.StraightLineItems.{arrives, LaidOut, tests}
use Rattle.bl_lower.proofs.ConstructExits.{lands, ToTarget, find_target}
use Rattle.bl_lower.proofs.OperatorSteps.{zero_test, tries}
use Rattle.bl_lower.proofs.ReturnSteps.{return_reaches}
use Rattle.bl_lower.proofs.PlainRuns.{Kept, at, holds_value, holds_later, kept_written}

-- the topmost value, where there is one, is an i32
abbrev pub IsSmall : List ℕ → Type 0
IsSmall [] = Unit {0}
IsSmall (v ∷ vs) = v < 2 ^ 32

pub equal_is_one : (v j : ℕ) → v ≡ j → meaning op.I32Eq v j 0 ≡ 1
unfolding meaning
equal_is_one v j e = ap (λ b. if b then 1 else 0) (eq-eqb (v % 2 ^ 32) (j % 2 ^ 32) (ap (λ n. n % 2 ^ 32) e))

pub above_is_zero : (v j : ℕ) → v < 2 ^ 32 → j < v → meaning op.I32Eq v j 0 ≡ 0
unfolding meaning
above_is_zero v j small lt =
    ap (λ b. if b then 1 else 0) (false_from_ne_true (v % 2 ^ 32 == j % 2 ^ 32) (λ t.
    let e = sym (mod-eq_of_lt small) ∙ eqb-true (v % 2 ^ 32) (j % 2 ^ 32) t ∙ mod-eq_of_lt (less j v small lt) in omega (arith, lt, e)))
  where
    less : (j v : ℕ) → v < 2 ^ 32 → j < v → j < 2 ^ 32
    less j v small lt = omega (arith, small, lt)

module _ (tree : Tree) (program : Program) (bound : ℕ) (layout : Layout program) (open_ones : List Target) (next : ℕ) where
  pub branch_reaches : (used mark l : ℕ) (stack : List Operand) (state : State) (s : Plain) → Here program bound open_ones stack next state s
      → ToAt program bound state.frame.number mark used s.position stack (slice_get open_ones l) → Then tree program bound used (branch l state) s
  branch_reaches used mark l stack state s h goes_to = from (find_target tree program bound layout s.registers (depth s) state.frame.number open_ones state.frame.labels l h.frame_is.labels)
    where
      out : (b : Bool) → Reaches tree program bound used (return state) s → Then tree program bound used (if b then return state else stuck) s
      out true r has = r
      out false r has = absurd has

      from : ToTarget tree program bound layout s.registers (depth s) state.frame.number open_ones state.frame.labels l ⊎ (slice_get open_ones l ≡ None) × (slice_get state.frame.labels l ≡ None)
          → Then tree program bound used (branch l state) s
      from (inr n) has =
          subst (λ o. Then tree program bound used (branch_to o l state) s) (sym n.1)
          (out (l == length state.frame.labels) (return_reaches tree program bound layout used mark open_ones stack next state s h
          (subst (ToAt program bound state.frame.number mark used s.position stack) n.0 goes_to))) has
      from (inl f) has =
          let g = subst (ToAt program bound state.frame.number mark used s.position stack) f.of_open goes_to in
          subst (λ o. Reaches tree program bound used (branch_to o l state) s) (sym f.of_labels)
          (subst (λ n. Reaches tree program bound used (go (record state { frame = record state.frame { labels = drop (l + 1) state.frame.labels; values = take n state.frame.values ++ f.label.below; rest = f.label.continuation } })) s) (sym f.is.arity)
          (lands tree program bound layout used mark open_ones f.outer (drop (l + 1) state.frame.labels) stack next f.is.next (first_to f.t) (first_to f.t) (taken f.t) f.t.below f.label.below f.label.continuation (start_of f.t.kind f.t.end) state s h
          g.commands g.enough g.fresh g.most f.others f.is.above (omega arith) f.is.reached f.is.limit f.is.below f.is.laid))

  pub branch_if_reaches : (mark l after : ℕ) (stack : List Operand) (state : State) (s : Plain) → Here program bound open_ones stack next state s → IsSmall state.frame.values
      → slice_get program.commands s.position ≡ Some (test_of (top stack) (suc s.position) after) → 1 ≤ bound
      → ToAt program bound state.frame.number mark 1 (suc s.position) (drop 1 stack) (slice_get open_ones l)
      → LaidOut tree program bound layout state open_ones after (drop 1 stack) next → Then tree program bound 0 (branch_if l state) s
  branch_if_reaches mark l after stack state s h small command most goes_to laid =
      popping tree program bound open_ones next 0 stack state s (λ condition state. if condition == 0 then go state else branch l state) h (λ v vs e holds here.
      tests tree program bound layout 0 s (top stack) (suc s.position) after v (go (with_values vs state)) (branch l (with_values vs state)) command
      (holds_value program s (bottom (program.shape state.frame.number)) next (top stack) v (static_low program bound layout state.frame.number) holds) (subst IsSmall e small)
      (λ way has. arrives tree program bound layout 0 1 open_ones (drop 1 stack) next (with_values vs state) s (at after s.registers s) (omega arith) (omega (arith, most)) way
      (record { store = here.store; frame_is = here.frame_is; callers = here.callers }) laid)
      (λ way has. reaches_later tree program bound 0 1 (branch l (with_values vs state)) s (at (suc s.position) s.registers s) way
      (branch_reaches 1 mark l (drop 1 stack) (with_values vs state) (at (suc s.position) s.registers s)
      (record { store = here.store; frame_is = here.frame_is; callers = here.callers }) goes_to has)))

  -- the tests of a br_table from one of them on
  tests_reach : (used variable_ j m v : ℕ) (ls : List ℕ) (default : ℕ) (index : Operand) (stack : List Operand) (state : State) (s : Plain) → Here program bound open_ones stack next state s
      → Holds s.registers (depth s) (bottom (program.shape state.frame.number)) next index v → v < 2 ^ 32 → v ≡ j + m → next ≤ variable_
      → TestsAt program bound state.frame.number used open_ones stack index s.position variable_ j ls default
      → Then tree program bound used (branch (unwrap_or (slice_get ls m) default) state) s
  tests_reach used variable_ j m v [] default index stack state s h holds small e le at_ = branch_reaches used (mark_of open_ones) default stack state s h at_
  tests_reach used variable_ j m v (l ∷ ls) default index stack state s h holds small e le at_ = by_place m e
      (λ m e step. reaches_on (branch (unwrap_or (slice_get ls m) default) state) (at (suc (suc s.position)) r' s) step
      (tests_reach (suc (suc used)) (suc variable_) (suc j) m v ls default index stack state (at (suc (suc s.position)) r' s) (moved_to (suc (suc s.position)))
      (holds_later s.registers r' (depth s) low next low next index v (λ x above below. keeps (depth s) x (λ same up down. omega (arith, below, le, up))) (omega arith) (omega arith) holds)
      small (omega (arith, e)) (omega (arith, le)) at_.3))
    where
      low : ℕ
      low = bottom (program.shape state.frame.number)

      w : ℕ
      w = meaning op.I32Eq v j 0

      r' : Registers
      r' = written s.registers (depth s) variable_ w

      static : program.statics ≤ variable_
      static = let a = static_next program bound layout open_ones stack next state s h in omega (arith, a, le)

      keeps : Kept s.registers r' (depth s) variable_ 1
      keeps = kept_written s.registers (depth s) variable_ 0 w

      moved_to : (position : ℕ) → Here program bound open_ones stack next state (at position r' s)
      moved_to position = here_above program bound layout open_ones stack next variable_ 1 position r' state s le keeps h

      tried : (b : Bool) → zero_test w ≡ b → StepsTo (plain_step program) 2 s (at (if b then suc (suc s.position) else at_.0) r' s)
      tried b e = (tries tree program bound layout s (mark_of open_ones) op.I32Eq variable_ w index (Const j) at_.0 (suc (suc s.position)) b at_.1.0 at_.1.1.0 static
          (ap (λ n. meaning op.I32Eq n j 0) (holds_value program s low next index v (static_low program bound layout state.frame.number) holds)) e).comes

      reaches_on : (step : Next Config) (u : Plain) → StepsTo (plain_step program) 2 s u → Then tree program bound (suc (suc used)) step u → Then tree program bound used step s
      reaches_on step u way h has =
          let two : suc (suc used) ≡ used + 2 = omega arith in
          reaches_later tree program bound used 2 step s u way (subst (λ n. Reaches tree program bound n step u) two (h has))

      by_place : (m : ℕ) → v ≡ j + m → ((m : ℕ) → v ≡ j + suc m → StepsTo (plain_step program) 2 s (at (suc (suc s.position)) r' s) → Then tree program bound used (branch (unwrap_or (slice_get ls m) default) state) s)
          → Then tree program bound used (branch (unwrap_or (slice_get (l ∷ ls) m) default) state) s
      by_place zero e more =
          reaches_on (branch l state) (at at_.0 r' s) (tried false (ap zero_test (equal_is_one v j (omega (arith, e)))))
          (branch_reaches (suc (suc used)) (mark_of open_ones) l stack state (at at_.0 r' s) (moved_to at_.0) at_.2)
      by_place (suc m) e more =
          more m e (tried true (ap zero_test (above_is_zero v j small (omega (arith, e)))))

  pub table_reaches : (default : ℕ) (ls : List ℕ) (stack : List Operand) (state : State) (s : Plain) → Here program bound open_ones stack next state s → IsSmall state.frame.values
      → TestsAt program bound state.frame.number 0 open_ones (drop 1 stack) (top stack) s.position next 0 ls default → Then tree program bound 0 (branch_by ls default state) s
  table_reaches default ls stack state s h small at_ =
      popping tree program bound open_ones next 0 stack state s (λ index state. branch (unwrap_or (slice_get ls index) default) state) h (λ v vs e holds here.
      tests_reach 0 next 0 v v ls default (top stack) (drop 1 stack) (with_values vs state) s here holds (subst IsSmall e small) (omega arith) (omega arith) at_)

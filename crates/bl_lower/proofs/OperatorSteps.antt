-- Operators, with the tests before those that may trap.
use Rattle.std.proofs.Common.{◌≡◌, ℕ, zero, suc, ◌+◌, ◌%◌, ◌^◌, ◌<◌, ◌≤◌, Bool, true, false, ◌&&◌, List, [], ◌∷◌, length, take, drop, Option, Some, None, slice_get, refl, sym, ap, ◌∙◌, subst, arith, ◌⊎◌, inl, inr}
use Rattle.std.specs.Prelude.{◌==◌, if◌then◌else◌}
use Rattle.bl_base.specs.Runs.{MemoryState, StepsTo, EndsAfter, last, goes, ends, trapped}
use Rattle.bl_base.proofs.RunLemmas.{comes_then, comes_to_end}
use Rattle.bl_base.specs.declared.trap.Trap.{Trap as TrapKind}
use Rattle.bl_base.specs.declared.trap.Trap.TheVariants as trap_kind
use Rattle.bl_ops.specs.Integer.{truth, iand, from_bits}
use Rattle.bl_ops.specs.Numerics.{meaning, traps}
use Rattle.bl_ops.specs.OperatorTable.{row_of, row_operands}
use Rattle.bl_ops.specs.declared.op.Op.{Op}
use Rattle.bl_ops.specs.declared.op.Op.TheVariants as op
use Rattle.bl_wasm.specs.declared.linked.Tree.{Tree}
use Rattle.bl_reduce.specs.Configurations.{State, with_values}
use Rattle.bl_reduce.specs.Numeric.{apply, give, operate}
use Rattle.bl_access.specs.Templates.{variable, test_of, shift, set as set_command}
use Rattle.bl_program.specs.Steps.{Registers, written, Plain, depth}
use Rattle.bl_program.specs.declared.command.Command.TheVariants.{Trap}
use Rattle.bl_program.specs.declared.command.Operand.{Operand}
use Rattle.bl_program.specs.declared.command.Operand.TheVariants.{Const}
use Rattle.bl_lower.proofs.CodeLayout.{HasAt, Operates}
use Rattle.bl_lower.proofs.Machine.{Program, value_of, states, plain_step}
use Rattle.bl_lower.proofs.MatchStates.{Holds, AllHold, Layout, Here}
use Rattle.bl_emit.specs.Constructs.{Target, point}
use Rattle.bl_emit.specs.Items.{Check, free, nonzero, quotient, check_of, check_size, check_new, checks, left, right}
use Rattle.bl_emit.specs.Shapes.{bottom}
use Rattle.bl_lower.proofs.Frames.{static_low, store_kept, next_low, here_above, Reaches, Then, reaches_later, with_stack, knowing}
use Rattle.bl_lower.proofs.StraightLineItems.{LaidOut, pushes, raised}
use Rattle.bl_lower.proofs.States.{states_are}
use Rattle.bl_lower.proofs.PlainRuns.{Kept, at, does, sets, holds_value, value_is, kept_value, kept_written, read_written}
use Rattle.bl_emit.proofs.Lists.{shift_is}

-- ---- what the tests say of the traps

abbrev pub zero_test : ℕ → Bool
zero_test n = n % 2 ^ 32 == 0

-- the traps of an operator by the tests before it
abbrev pub TrapsBy : Check → Op → Type 0
TrapsBy free o = (a b : ℕ) → traps o a b ≡ None
TrapsBy (nonzero eqz) o = (a b : ℕ) → (zero_test (meaning eqz b 0 0) ≡ true → traps o a b ≡ None) × (zero_test (meaning eqz b 0 0) ≡ false → traps o a b ≡ Some trap_kind.DivideByZero)
TrapsBy (quotient eqz eq least ones) o = (a b : ℕ)
    → (zero_test (meaning eqz b 0 0) ≡ true → zero_test (meaning op.I32And (meaning eq a least 0) (meaning eq b ones 0) 0) ≡ true → traps o a b ≡ None)
    × (zero_test (meaning eqz b 0 0) ≡ true → zero_test (meaning op.I32And (meaning eq a least 0) (meaning eq b ones 0) 0) ≡ false → traps o a b ≡ Some trap_kind.Overflow)
    × (zero_test (meaning eqz b 0 0) ≡ false → traps o a b ≡ Some trap_kind.DivideByZero)

by_zero_is : (t : Bool) → (zero_test (truth t) ≡ true → (if t then Some trap_kind.DivideByZero else None) ≡ None) × (zero_test (truth t) ≡ false → (if t then Some trap_kind.DivideByZero else None) ≡ Some trap_kind.DivideByZero)
by_zero_is true = (λ e. absurd (cc e), λ e. refl)
by_zero_is false = (λ e. refl, λ e. absurd (cc e))

abbrev both : Bool → Bool → ℕ
both u v = iand 32 (truth u % 2 ^ 32) (truth v % 2 ^ 32)

undefined_is : (t u v : Bool) → let found = if t then Some trap_kind.DivideByZero else (if u && v then Some trap_kind.Overflow else None) in
    (zero_test (truth t) ≡ true → zero_test (both u v) ≡ true → found ≡ None) × (zero_test (truth t) ≡ true → zero_test (both u v) ≡ false → found ≡ Some trap_kind.Overflow) × (zero_test (truth t) ≡ false → found ≡ Some trap_kind.DivideByZero)
unfolding iand from_bits
undefined_is true u v = (λ e f. absurd (cc e), λ e f. absurd (cc e), λ e. refl)
undefined_is false true true = (λ e f. absurd (cc f), λ e f. refl, λ e. absurd (cc e))
undefined_is false true false = (λ e f. refl, λ e f. absurd (cc f), λ e. absurd (cc e))
undefined_is false false true = (λ e f. refl, λ e f. absurd (cc f), λ e. absurd (cc e))
undefined_is false false false = (λ e f. refl, λ e f. absurd (cc f), λ e. absurd (cc e))

pub traps_by : (o : Op) → TrapsBy (check_of o) o
unfolding meaning traps
traps_by o = elim o as (λ o. TrapsBy (check_of o) o) [
  | op.I32DivU ↦ λ a b. by_zero_is (b % 2 ^ 32 == 0)
  | op.I32RemS ↦ λ a b. by_zero_is (b % 2 ^ 32 == 0)
  | op.I32RemU ↦ λ a b. by_zero_is (b % 2 ^ 32 == 0)
  | op.I64DivU ↦ λ a b. by_zero_is (b == 0)
  | op.I64RemS ↦ λ a b. by_zero_is (b == 0)
  | op.I64RemU ↦ λ a b. by_zero_is (b == 0)
  | op.I32DivS ↦ λ a b. undefined_is (b % 2 ^ 32 == 0) (a % 2 ^ 32 == 2147483648) (b % 2 ^ 32 == 4294967295)
  | op.I64DivS ↦ λ a b. undefined_is (b == 0) (a == 9223372036854775808) (b == 18446744073709551615)
  | _ ↦ λ a b. refl
]

-- ---- the tests

module _ (tree : Tree) (program : Program) (bound : ℕ) (layout : Layout program) where
  -- a test of a number
  pub tested : (s : Plain) (cond : Operand) (one other n : ℕ) (b : Bool) → slice_get program.commands s.position ≡ Some (test_of cond one other) → value_of program cond s ≡ n → zero_test n ≡ b
      → plain_step program s ≡ goes (at (if b then other else one) s.registers s)
  tested s cond one other n b command value e =
      does program s (test_of cond one other) command ∙ ap (λ n. if n % 2 ^ 32 == 0 then goes (at other s.registers s) else goes (at one s.registers s)) value
      ∙ ap (λ t. if t then goes (at other s.registers s) else goes (at one s.registers s)) e ∙ either b
    where
      either : (b : Bool) → (if b then goes (at other s.registers s) else goes (at one s.registers s)) ≡ goes (at (if b then other else one) s.registers s)
      either true = refl
      either false = refl

  -- a test of a number that says whether something is so
  pub told : (s : Plain) (cond : Operand) (one other : ℕ) (b : Bool) → slice_get program.commands s.position ≡ Some (test_of cond one other) → value_of program cond s ≡ (if b then 1 else 0)
      → plain_step program s ≡ goes (at (if b then one else other) s.registers s)
  told s cond one other true command value = tested s cond one other 1 false command value refl
  told s cond one other false command value = tested s cond one other 0 true command value refl

  -- an operator's number goes to a variable, and a test of it follows
  pub record Tried (s : Plain) (x w : ℕ) (b : Bool) (one other : ℕ) : Type 0 where
    pub comes : StepsTo (plain_step program) 2 s (at (if b then other else one) (written s.registers (depth s) x w) s)

  pub tries : (s : Plain) (mark : ℕ) (o : Op) (x w : ℕ) (a c : Operand) (one other : ℕ) (b : Bool) → slice_get program.commands s.position ≡ Some (set_command mark o x a c)
      → slice_get program.commands (suc s.position) ≡ Some (test_of (variable x) one other) → program.statics ≤ x → meaning o (value_of program a s) (value_of program c s) 0 ≡ w → zero_test w ≡ b → Tried s x w b one other
  tries s mark o x w a c one other b first second le value e =
      let r' = written s.registers (depth s) x w in
      let t = at (suc s.position) r' s in
      record { comes = (t, sets program s mark o x w a c (Const 0) first le value, (at (if b then other else one) r' s, tested t (variable x) one other w b second (value_is program t (variable x) w (le, read_written s.registers (depth s) x w)) e, refl)) }

  -- the tests were passed, or the run has ended by the operator's trap
  pub record Passed (s : Plain) (x : ℕ) (c : Check) (found : Option TrapKind) : Type 0 where
    pub none : found ≡ None
    pub registers : Registers
    pub comes : StepsTo (plain_step program) (check_size c) s (at (shift (check_size c) s.position) registers s)
    pub kept : Kept s.registers registers (depth s) x (check_new c)

  pub record Fell (memories : List MemoryState) (s : Plain) (c : Check) (found : Option TrapKind) : Type 0 where
    pub kind : TrapKind
    pub some : found ≡ Some kind
    pub steps : ℕ
    pub one : 1 ≤ steps
    pub most : steps ≤ suc (check_size c)
    pub run : EndsAfter (plain_step program) steps s (trapped kind memories)

  pub falls : (memories : List MemoryState) (s t : Plain) (steps : ℕ) (kind : TrapKind) → StepsTo (plain_step program) steps s t → slice_get program.commands t.position ≡ Some (Trap kind) → states program t ≡ memories
      → EndsAfter (plain_step program) (steps + 1) s (trapped kind memories)
  falls memories s t steps kind way command same = comes_to_end (plain_step program) steps 1 s t (trapped kind memories) way
      (last t (trapped kind memories) (does program t (Trap kind) command ∙ ap (λ m. ends (trapped kind m)) same))

  module _ (o : Op) (s : Plain) (mark x low va vb : ℕ) (a b : Operand) (static : program.statics ≤ low) (low_x : low ≤ x) (holds_a : Holds s.registers (depth s) low x a va) (holds_b : Holds s.registers (depth s) low x b vb)
      (memories : List MemoryState) (stored : (position : ℕ) (r' : Registers) → ((y : ℕ) → y < program.statics → r' 0 y ≡ s.registers 0 y) → states program (at position r' s) ≡ memories) where
    zero_tried : (eqz : Op) (t : Bool) → zero_test (meaning eqz vb 0 0) ≡ t → HasAt program.commands s.position (set_command mark eqz x b (Const 0) ∷ test_of (variable x) 1 (suc (suc s.position)) ∷ [])
        → Tried s x (meaning eqz vb 0 0) t 1 (suc (suc s.position))
    zero_tried eqz t e stands = tries s mark eqz x (meaning eqz vb 0 0) b (Const 0) 1 (suc (suc s.position)) t stands.0 stands.1.0 (omega (arith, static, low_x))
        (ap (λ n. meaning eqz n 0 0) (holds_value program s low x b vb static holds_b)) e

    by_zero : (c : Check) (eqz : Op) → 2 ≤ check_size c → traps o va vb ≡ Some trap_kind.DivideByZero → zero_test (meaning eqz vb 0 0) ≡ false
        → HasAt program.commands s.position (set_command mark eqz x b (Const 0) ∷ test_of (variable x) 1 (suc (suc s.position)) ∷ []) → Fell memories s c (traps o va vb)
    by_zero c eqz size some e stands =
        let r' = written s.registers (depth s) x (meaning eqz vb 0 0) in
        record {
          kind = trap_kind.DivideByZero;
          some = some;
          steps = 3;
          one = omega arith;
          most = omega (arith, size);
          run = falls memories s (at 1 r' s) 2 trap_kind.DivideByZero (zero_tried eqz false e stands).comes layout.traps.1.0
              (stored 1 r' (λ y lt. kept_written s.registers (depth s) x 0 (meaning eqz vb 0 0) 0 y (λ same above below. omega (arith, same))));
        }

    pub check_run : (c : Check) → TrapsBy c o → HasAt program.commands s.position (checks mark c s.position x a b) → Passed s x c (traps o va vb) ⊎ Fell memories s c (traps o va vb)
    check_run free by stands = inl (record { none = by va vb; registers = s.registers; comes = refl; kept = λ e y out. refl })
    check_run (nonzero eqz) by stands = from (zero_test (meaning eqz vb 0 0)) refl
      where
        from : (t : Bool) → zero_test (meaning eqz vb 0 0) ≡ t → Passed s x (nonzero eqz) (traps o va vb) ⊎ Fell memories s (nonzero eqz) (traps o va vb)
        from true e = inl (record {
          none = (by va vb).0 e;
          registers = written s.registers (depth s) x (meaning eqz vb 0 0);
          comes = (zero_tried eqz true e stands).comes;
          kept = kept_written s.registers (depth s) x 0 (meaning eqz vb 0 0);
        })
        from false e = inr (by_zero (nonzero eqz) eqz (omega arith) ((by va vb).1 e) e stands)
    check_run (quotient eqz eq least ones) by stands = from (zero_test z) refl
      where
        d : ℕ
        d = depth s

        z : ℕ
        z = meaning eqz vb 0 0

        m : ℕ
        m = meaning eq va least 0

        n : ℕ
        n = meaning eq vb ones 0

        w : ℕ
        w = meaning op.I32And m n 0

        r1 : Registers
        r1 = written s.registers d x z

        r2 : Registers
        r2 = written r1 d (suc x) m

        r3 : Registers
        r3 = written r2 d (suc (suc x)) n

        r4 : Registers
        r4 = written r3 d (suc (suc (suc x))) w

        k1 : Kept s.registers r1 d x 1
        k1 = kept_written s.registers d x 0 z

        k2 : Kept s.registers r2 d x 2
        k2 = λ e y out. kept_written r1 d (suc x) 0 m e y (λ same above below. out same (omega (arith, above)) (omega (arith, below))) ∙ k1 e y (λ same above below. out same above (omega (arith, below)))

        k3 : Kept s.registers r3 d x 3
        k3 = λ e y out. kept_written r2 d (suc (suc x)) 0 n e y (λ same above below. out same (omega (arith, above)) (omega (arith, below))) ∙ k2 e y (λ same above below. out same above (omega (arith, below)))

        k4 : Kept s.registers r4 d x 4
        k4 = λ e y out. kept_written r3 d (suc (suc (suc x))) 0 w e y (λ same above below. out same (omega (arith, above)) (omega (arith, below))) ∙ k3 e y (λ same above below. out same above (omega (arith, below)))

        p2 : ℕ
        p2 = suc (suc s.position)

        p4 : ℕ
        p4 = suc (suc p2)

        s2 : Plain
        s2 = at p2 r1 s

        s3 : Plain
        s3 = at (suc p2) r2 s

        s4 : Plain
        s4 = at p4 r3 s

        step2 : plain_step program s2 ≡ goes s3
        step2 = sets program s2 mark eq (suc x) m a (Const least) (Const 0) stands.1.1.0 (omega (arith, static, low_x)) (ap (λ v. meaning eq v least 0) (kept_value program s p2 r1 x 1 low x a va static (omega arith) k1 holds_a))

        step3 : plain_step program s3 ≡ goes s4
        step3 = sets program s3 mark eq (suc (suc x)) n b (Const ones) (Const 0) stands.1.1.1.0 (omega (arith, static, low_x)) (ap (λ v. meaning eq v ones 0) (kept_value program s (suc p2) r2 x 2 low x b vb static (omega arith) k2 holds_b))

        read_m : value_of program (variable (suc x)) s4 ≡ m
        read_m = value_is program s4 (variable (suc x)) m (omega (arith, static, low_x), kept_written r2 d (suc (suc x)) 0 n d (suc x) (λ same above below. omega (arith, above)) ∙ read_written r1 d (suc x) m)

        read_n : value_of program (variable (suc (suc x))) s4 ≡ n
        read_n = value_is program s4 (variable (suc (suc x))) n (omega (arith, static, low_x), read_written r2 d (suc (suc x)) n)

        last_test : (t : Bool) → zero_test w ≡ t → Tried s4 (suc (suc (suc x))) w t 2 (suc (suc p4))
        last_test t e = tries s4 mark op.I32And (suc (suc (suc x))) w (variable (suc x)) (variable (suc (suc x))) 2 (suc (suc p4)) t stands.1.1.1.1.0 stands.1.1.1.1.1.0 (omega (arith, static, low_x))
            (ap (λ u. meaning op.I32And u (value_of program (variable (suc (suc x))) s4) 0) read_m ∙ ap (λ u. meaning op.I32And m u 0) read_n) e

        up_to : zero_test z ≡ true → StepsTo (plain_step program) 4 s s4
        up_to e = comes_then (plain_step program) 2 2 s s2 s4 (zero_tried eqz true e (stands.0, (stands.1.0, tt))).comes (s3, step2, (s4, step3, refl))

        further : zero_test z ≡ true → (t : Bool) → zero_test w ≡ t → Passed s x (quotient eqz eq least ones) (traps o va vb) ⊎ Fell memories s (quotient eqz eq least ones) (traps o va vb)
        further e true f = inl (record {
          none = (by va vb).0 e f;
          registers = r4;
          comes = comes_then (plain_step program) 4 2 s s4 (at (suc (suc p4)) r4 s) (up_to e) (last_test true f).comes;
          kept = k4;
        })
        further e false f = inr (record {
          kind = trap_kind.Overflow;
          some = (by va vb).1 e f;
          steps = 7;
          one = omega arith;
          most = omega arith;
          run = falls memories s (at 2 r4 s) 6 trap_kind.Overflow (comes_then (plain_step program) 4 2 s s4 (at 2 r4 s) (up_to e) (last_test false f).comes) layout.traps.1.1.0
              (stored 2 r4 (λ y lt. k4 0 y (λ same above below. omega (arith, same))));
        })

        from : (t : Bool) → zero_test z ≡ t → Passed s x (quotient eqz eq least ones) (traps o va vb) ⊎ Fell memories s (quotient eqz eq least ones) (traps o va vb)
        from true e = further e (zero_test w) refl
        from false e = inr (by_zero (quotient eqz eq least ones) eqz (omega arith) ((by va vb).2 e) e (stands.0, (stands.1.0, tt)))

  -- ---- operators

  module _ (open_ones : List Target) (next : ℕ) where
    -- the trap, or the number on the stack
    pub given : (mark : ℕ) (o : Op) (stack : List Operand) (state : State) (s : Plain) (a b : Operand) (va vb : ℕ) → Here program bound open_ones stack next state s
        → Holds s.registers (depth s) (bottom (program.shape state.frame.number)) next a va → Holds s.registers (depth s) (bottom (program.shape state.frame.number)) next b vb
        → HasAt program.commands s.position (checks mark (check_of o) s.position next a b)
        → slice_get program.commands (shift (check_size (check_of o)) s.position) ≡ Some (set_command mark o (shift (check_new (check_of o)) next) a b)
        → suc (check_size (check_of o)) ≤ bound → suc (shift (check_new (check_of o)) next) ≤ (program.shape state.frame.number).limit
        → LaidOut tree program bound layout state open_ones (suc (shift (check_size (check_of o)) s.position)) (variable (shift (check_new (check_of o)) next) ∷ stack) (suc (shift (check_new (check_of o)) next))
        → Reaches tree program bound 0 (give (traps o va vb) (meaning o va vb 0) state) s
    given mark o stack state s a b va vb h holds_a holds_b stands command most limit laid =
        from (check_run o s mark next low va vb a b static (next_low program bound layout open_ones stack next state s h) holds_a holds_b state.store.memories stored (check_of o) (traps_by o) stands)
      where
        low : ℕ
        low = bottom (program.shape state.frame.number)

        static : program.statics ≤ low
        static = static_low program bound layout state.frame.number

        size : ℕ
        size = check_size (check_of o)

        new : ℕ
        new = check_new (check_of o)

        stored : (position : ℕ) (r' : Registers) → ((y : ℕ) → y < program.statics → r' 0 y ≡ s.registers 0 y) → states program (at position r' s) ≡ state.store.memories
        stored position r' kept = states_are program (at position r' s) state.store (store_kept program bound layout s.registers r' s state.store kept h.store)

        from : Passed s next (check_of o) (traps o va vb) ⊎ Fell state.store.memories s (check_of o) (traps o va vb) → Reaches tree program bound 0 (give (traps o va vb) (meaning o va vb 0) state) s
        from (inr f) = subst (λ t. Reaches tree program bound 0 (give t (meaning o va vb 0) state) s) (sym f.some)
            (f.steps, f.one, omega (arith, f.most, most), f.run)
        from (inl p) = subst (λ t. Reaches tree program bound 0 (give t (meaning o va vb 0) state) s) (sym p.none)
            (reaches_later tree program bound 0 size (give None (meaning o va vb 0) state) s t p.comes
            (pushes tree program bound layout open_ones (shift new next) (0 + size) mark stack state t o a b (Const 0) (meaning o va vb 0) here command
            (ap (λ n. meaning o n (value_of program b t) 0) (later a va holds_a) ∙ ap (λ n. meaning o va n 0) (later b vb holds_b)) (omega (arith, most)) limit laid))
          where
            t : Plain
            t = at (shift size s.position) p.registers s

            here : Here program bound open_ones stack (shift new next) state t
            here = raised tree program bound layout open_ones next stack (shift new next) state t (omega (arith, shift_is new next)) (omega (arith, limit))
                (here_above program bound layout open_ones stack next next new (shift size s.position) p.registers state s (omega arith) p.kept h)

            later : (c : Operand) (v : ℕ) → Holds s.registers (depth s) low next c v → value_of program c t ≡ v
            later c v holds = kept_value program s (shift size s.position) p.registers next new low next c v static (omega arith) p.kept holds

    pub operate_reaches : (o : Op) (mark : ℕ) (stack : List Operand) (state : State) (s : Plain) → Here program bound open_ones stack next state s → Operates program bound state.frame.number mark o (point s.position stack next)
        → suc (shift (check_new (check_of o)) next) ≤ (program.shape state.frame.number).limit
        → LaidOut tree program bound layout state open_ones (suc (shift (check_size (check_of o)) s.position)) (variable (shift (check_new (check_of o)) next) ∷ drop (row_operands (row_of o)) stack) (suc (shift (check_new (check_of o)) next))
        → Then tree program bound 0 (operate o state) s
    operate_reaches o mark stack state s h ops limit laid =
        knowing tree program bound 0 (row_of o) s (λ row. apply o (take row.operands state.frame.values) (with_values (drop row.operands state.frame.values) state)) (λ row got.
        subst (λ n. Then tree program bound 0 (apply o (take n state.frame.values) (with_values (drop n state.frame.values) state)) s) (ap row_operands got)
        (from (row_operands (row_of o)) stack state.frame.values h.frame_is.values ops.enough h ops.tests ops.command laid))
      where
        low : ℕ
        low = bottom (program.shape state.frame.number)

        size : ℕ
        size = check_size (check_of o)

        new : ℕ
        new = check_new (check_of o)

        from : (count : ℕ) (stack : List Operand) (values : List ℕ) → AllHold s.registers (depth s) low next stack values → count ≤ length stack → Here program bound open_ones stack next state s
            → HasAt program.commands s.position (checks mark (check_of o) s.position next (left count stack) (right count stack))
            → slice_get program.commands (shift size s.position) ≡ Some (set_command mark o (shift new next) (left count stack) (right count stack))
            → LaidOut tree program bound layout state open_ones (suc (shift size s.position)) (variable (shift new next) ∷ drop count stack) (suc (shift new next))
            → Then tree program bound 0 (apply o (take count values) (with_values (drop count values) state)) s
        from zero stack values all le h tests command laid has = absurd has
        from (suc n) [] values all le h tests command laid has = absurd (omega (arith, le))
        from (suc n) (x ∷ stack) [] all le h tests command laid has = absurd all
        from (suc zero) (x ∷ stack) (v ∷ vs) all le h tests command laid has =
            given mark o stack (with_values vs state) s x (Const 0) v 0 (with_stack tree program bound open_ones next (x ∷ stack) stack vs state s h all.1) all.0 refl tests command ops.most limit laid
        from (suc (suc n)) (y ∷ []) values all le h tests command laid has = absurd (omega (arith, le))
        from (suc (suc n)) (y ∷ x ∷ stack) (b ∷ []) all le h tests command laid has = absurd all.1
        from (suc (suc zero)) (y ∷ x ∷ stack) (b ∷ a ∷ vs) all le h tests command laid has =
            given mark o stack (with_values vs state) s x y a b (with_stack tree program bound open_ones next (y ∷ x ∷ stack) stack vs state s h all.1.1) all.1.0 all.0 tests command ops.most limit laid
        from (suc (suc (suc n))) (y ∷ x ∷ []) values all le h tests command laid has = absurd (omega (arith, le))
        from (suc (suc (suc n))) (y ∷ x ∷ w ∷ stack) (b ∷ a ∷ []) all le h tests command laid has = absurd all.1.1
        from (suc (suc (suc n))) (y ∷ x ∷ w ∷ stack) (b ∷ a ∷ c ∷ vs) all le h tests command laid has = absurd has

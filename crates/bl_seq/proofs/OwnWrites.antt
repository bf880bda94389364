-- What a Set and a Test leave in the registers, and what their numbers say.
use Rattle.std.proofs.Common.{◌≡◌, ◌≢◌, ℕ, suc, ◌+◌, ◌-◌, ◌*◌, ◌%◌, ◌^◌, ◌<◌, ◌≤◌, length, true, false, Bool, refl, ap, ◌∙◌, subst, arith}
use Rattle.std.specs.Prelude.{nat_lt, ◌==◌, if◌then◌else◌}
use Rattle.std.proofs.lemmas.Bool.{eqb-true, ltb-false, lt-ltb, eq-eqb, ne_eqb, and_from, and_left, and_right}
use Rattle.bl_base.proofs.RunLemmas.{IsNext}
use Rattle.bl_ops.specs.Numerics.{meaning}
use Rattle.bl_ops.specs.declared.op.Op.{Op}
use Rattle.bl_ops.specs.declared.op.Op.TheVariants.{I32Add, I32Sub, I32GtU, Outside}
use Rattle.bl_program.specs.Layout.{statics, size_of}
use Rattle.bl_program.specs.Rules.{IsLocal, variable}
use Rattle.bl_program.specs.Steps.{Registers, Plain, depth, written, held, value_of, to}
use Rattle.bl_program.specs.declared.command.Command.TheVariants.{Set, Test}
use Rattle.bl_program.specs.declared.command.Mark.{Mark}
use Rattle.bl_program.specs.declared.command.Operand.{Operand}
use Rattle.bl_program.specs.declared.command.Operand.TheVariants.{Var, Const}
use Rattle.bl_program.specs.declared.definitions.ProgramParts.{ProgramParts as Program}
use Rattle.bl_seq.proofs.OwnSteps.{Came}

-- ---- a register that is written, and the others

pub own_written : (registers : Registers) (d x value : ℕ) → written registers d x value d x ≡ value
own_written registers d x value = ap (λ b. if b then value else registers d x) (and_from _ _ (eq-eqb d d refl) (eq-eqb x x refl))

pub other_written : (registers : Registers) (d x value e y : ℕ) → y ≢ x → written registers d x value e y ≡ registers e y
other_written registers d x value e y apart = ap (λ b. if b then value else registers e y) (and_right _ _ (ne_eqb y x apart))

pub deep_written : (registers : Registers) (d x value y : ℕ) → written registers (suc d) x value 0 y ≡ registers 0 y
deep_written registers d x value y = ap (λ b. if b then value else registers 0 y) (and_left _ _ (ne_eqb 0 (suc d) (λ e. omega arith)))

number_in : Operand → ℕ
number_in (Var x) = x.0
number_in (Const n) = n

pub var_apart : (x y : ℕ) → x ≢ y → variable x ≢ variable y
unfolding number_in
var_apart x y apart e = apart (ap number_in e)

-- ---- what arithmetic says

-- an access that isn't outside
outside_law : (a p n : ℕ) → n < 2 ^ 34 → meaning Outside a p n % 2 ^ 32 ≡ 0 → a % 2 ^ 32 + n ≤ p * 65536
unfolding meaning
outside_law a p n few = by (nat_lt (p % 2 ^ 32 * 65536) (a % 2 ^ 32 + n % 2 ^ 34)) refl
  where
    by : (b : Bool) → nat_lt (p % 2 ^ 32 * 65536) (a % 2 ^ 32 + n % 2 ^ 34) ≡ b → (if b then 1 else 0) % 2 ^ 32 ≡ 0 → a % 2 ^ 32 + n ≤ p * 65536
    by true e none = absurd (omega (arith, none))
    by false e none = let le = ltb-false (p % 2 ^ 32 * 65536) (a % 2 ^ 32 + n % 2 ^ 34) e in omega arith

-- a growth that doesn't exceed the room
growth_law : (d s r : ℕ) → s ≤ r → r ≤ 256 → meaning I32GtU d (meaning I32Sub r s 0) 0 % 2 ^ 32 ≡ 0 → meaning I32Add s d 0 ≤ r
unfolding meaning
growth_law d s r le few =
    let left : ((r % 2 ^ 32 + 2 ^ 32 - s % 2 ^ 32) % 2 ^ 32) % 2 ^ 32 + s ≡ r = omega arith in
    by ((r % 2 ^ 32 + 2 ^ 32 - s % 2 ^ 32) % 2 ^ 32 % 2 ^ 32) left (nat_lt ((r % 2 ^ 32 + 2 ^ 32 - s % 2 ^ 32) % 2 ^ 32 % 2 ^ 32) (d % 2 ^ 32)) refl
  where
    by : (room : ℕ) → room + s ≡ r → (b : Bool) → nat_lt room (d % 2 ^ 32) ≡ b → (if b then 1 else 0) % 2 ^ 32 ≡ 0 → (s % 2 ^ 32 + d % 2 ^ 32) % 2 ^ 32 ≤ r
    by room left true e none = absurd (omega (arith, none))
    by room left false e none = let above = ltb-false room (d % 2 ^ 32) e in omega arith

-- the same of numbers that were there when the test was made
pub outside_then : (a p n was_a was_p result : ℕ) → n < 2 ^ 34 → a ≡ was_a → p ≡ was_p → result ≡ meaning Outside was_a was_p n → result % 2 ^ 32 ≡ 0 → a % 2 ^ 32 + n ≤ p * 65536
outside_then a p n was_a was_p result few same_a same_p is none =
    let now : meaning Outside a p n % 2 ^ 32 ≡ 0 = cc in
    outside_law a p n few now

pub growth_then : (d s r was_d was_s room result : ℕ) → s ≤ r → r ≤ 256 → d ≡ was_d → s ≡ was_s → room ≡ meaning I32Sub r was_s 0 → result ≡ meaning I32GtU was_d room 0 → result % 2 ^ 32 ≡ 0
    → meaning I32Add s d 0 ≤ r
growth_then d s r was_d was_s room result le few same_d same_s left is none =
    let now : meaning I32GtU d (meaning I32Sub r s 0) 0 % 2 ^ 32 ≡ 0 = cc in
    growth_law d s r le few now

module _ (program : Program) where
  -- a size is held at depth 0, and is no variable of a function
  pub size_held : (d memory : ℕ) → memory < length program.memories → held program d (size_of program memory) ≡ 0
  size_held d memory lt = ap (λ b. if b then 0 else d) (lt-ltb (size_of program memory) (statics program) (omega arith))

  pub size_value : (memory : ℕ) (s : Plain) → memory < length program.memories → value_of program (variable (size_of program memory)) s ≡ s.registers 0 (size_of program memory)
  size_value memory s lt = ap (λ d. s.registers d (size_of program memory)) (size_held (depth s) memory lt)

  pub size_apart : (function memory x : ℕ) → memory < length program.memories → IsLocal program function x → variable (size_of program memory) ≢ variable x
  size_apart function memory x lt own =
      let low = own.0.0 in
      var_apart (size_of program memory) x (λ e. omega (arith, e))

  module _ {q x : ℕ} {m : Mark} {op : Op} {a b c : Operand} {t : Plain} (w : Came program q (Set m op (record { 0 = x }) a b c) t) where
    -- the variable that a Set wrote, and every other operand
    pub set_result : value_of program (variable x) t ≡ meaning op (value_of program a w.before) (value_of program b w.before) (value_of program c w.before)
    set_result =
        subst (λ (t : Plain). value_of program (variable x) t ≡ meaning op (value_of program a w.before) (value_of program b w.before) (value_of program c w.before)) w.step
        (own_written w.before.registers (held program (depth w.before) x) x (meaning op (value_of program a w.before) (value_of program b w.before) (value_of program c w.before)))

    pub set_other : (y : Operand) → y ≢ variable x → value_of program y t ≡ value_of program y w.before
    set_other (Const n) apart = refl
    set_other (Var y) apart =
        subst (λ (t : Plain). value_of program (Var y) t ≡ value_of program (Var y) w.before) w.step
        (other_written w.before.registers (held program (depth w.before) x) x (meaning op (value_of program a w.before) (value_of program b w.before) (value_of program c w.before)) (held program (depth w.before) y.0) y.0
        (λ e. apart (ap (λ n. Var (record { 0 = n })) e)))

  -- a Test that came to where it goes if its condition is 0
  pub test_zero : {q one other : ℕ} {cond : Operand} {t : Plain} (w : Came program q (Test cond (record { 0 = one }) (record { 0 = other })) t) → one ≢ other → t.position ≡ other
      → (value_of program cond w.before % 2 ^ 32 ≡ 0) × ((y : Operand) → value_of program y t ≡ value_of program y w.before)
  test_zero {one = one} {other = other} {cond = cond} {t = t} w apart is = by (value_of program cond w.before % 2 ^ 32 == 0) refl w.step
    where
      by : (b : Bool) → (value_of program cond w.before % 2 ^ 32 == 0) ≡ b → IsNext (if b then to other w.before else to one w.before) t
          → (value_of program cond w.before % 2 ^ 32 ≡ 0) × ((y : Operand) → value_of program y t ≡ value_of program y w.before)
      by true e g = (eqb-true _ _ e, λ y. subst (λ (t : Plain). value_of program y t ≡ value_of program y w.before) g refl)
      by false e g = absurd (apart (ap (λ (x : Plain). x.position) g ∙ is))

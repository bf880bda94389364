-- Divisions by guarded operands come to RAX.
use Rattle.std.proofs.Common.{◌≡◌, ◌≢◌, ℕ, ◌+◌, ◌-◌, ◌*◌, ◌/◌, ◌%◌, ◌^◌, ◌<◌, ◌≤◌, Bool, true, false, ◌&&◌, cond, eqb, ltb, List, [], ◌∷◌, ◌++◌, Option, Some, ℤ, negsuc, ◌-ℤ◌, ◌*ℤ◌, refl, sym, ap, ap₂, ◌∙◌, subst, arith, mod-eq_of_lt, mod-lt, ◌⊎◌, inl, inr, append_assoc}
use Rattle.std.specs.Prelude.{int_div}
use Rattle.std.specs.Int.Bits.{and_self}
use Rattle.std.proofs.Math.Nat.{div-le_self}
use Rattle.std.proofs.lemmas.Bool.Decides.{nat_tests}
use Rattle.std.proofs.lemmas.Bool.{eqb-true, eqb-false, cases_lt}
use Rattle.std.proofs.lemmas.Int.{ints}
use Rattle.bl_ops.specs.Integer.{signed, unsigned, bit, iand, idiv_s, irem_s}
use Rattle.bl_ops.proofs.Bits.{iand_is}
use Rattle.bl_ops.proofs.Fits.{irem_s-below}
use Rattle.bl_ops.proofs.Signed.{rem_by_quotient}
use Rattle.bl_x64.specs.Registers.{bits_of, bytes_in, low, put}
use Rattle.bl_x64.specs.Operations.{alu_flags, holds, unknown, overflows}
use Rattle.bl_x64.specs.Machines.{Areas, Core, goes_on, faults, if_holds, with_register, with_result, divided, divide_unsigned, divide_signed, effect}
use Rattle.bl_x64.specs.declared.register.Register.{Register}
use Rattle.bl_x64.specs.declared.register.Register.TheVariants.{Rax, Rcx, Rdx}
use Rattle.bl_x64.specs.declared.instruction.Size.{Size}
use Rattle.bl_x64.specs.declared.instruction.Size.TheVariants.{Long, Quad}
use Rattle.bl_x64.specs.declared.instruction.Alu.TheVariants as alu
use Rattle.bl_x64.specs.declared.instruction.Condition.TheVariants.{Equal}
use Rattle.bl_x64.specs.declared.instruction.Instruction.{Instruction}
use Rattle.bl_x64.specs.declared.instruction.Instruction.TheVariants as i
use Rattle.bl_select.specs.Frames.{Frame}
use Rattle.bl_select.specs.Shapes.{at_size, division}
use Rattle.bl_select.specs.StraightRuns.{runs}
use Rattle.bl_select.specs.Templates.{in_register, load, two_of, zero_guard, minus_guard, divide_by_rcx, take_rest, guards}
use Rattle.bl_select.specs.declared.location.Source.{Source}
use Rattle.bl_select.proofs.Keeping.{Comes, Keeps, keeps_all, keeps_put, keeps_same, HasBases, bases_kept, HasNumber, number_kept, load_is, runs_next, runs_append}
use Rattle.bl_select.proofs.Quotients.{divisor_fine, quotient_by, quotient_fits, reading_half, remainder_by, minus_test, minus_dividend, minus_divisor, zero_dividend, zero_divisor, unsigned_quotient, unsigned_remainder}
use Rattle.bl_select.proofs.Shapes.{size_below, size_fits}

-- instructions run to a state that has two numbers
pub record Two (areas : Areas) (xs : List Instruction) (c : Core) (x y : ℕ) : Type 0 where
  pub core : Core
  pub run : runs areas xs c ≡ Some core
  pub rax : core.registers Rax ≡ x
  pub rcx : core.registers Rcx ≡ y
  pub keeps : Keeps c core

keeps_through : (c d e : Core) → Keeps c d → Keeps d e → Keeps c e
keeps_through c d e k l = record { memory = l.memory ∙ k.memory; registers = λ r g. l.registers r g ∙ k.registers r g }

-- one after another
pub two_then : (areas : Areas) (xs ys : List Instruction) (c : Core) (x y u v : ℕ) (first : Two areas xs c x y) → Two areas ys first.core u v → Two areas (xs ++ ys) c u v
two_then areas xs ys c x y u v first second = record {
  core = second.core;
  run = runs_append areas xs ys c first.core first.run ∙ second.run;
  rax = second.rax;
  rcx = second.rcx;
  keeps = keeps_through c first.core second.core first.keeps second.keeps;
}

-- ---- choices

choice_at : (o : Option Bool) (t : Bool) (m : Core) (to : Register) (x y : ℕ) → o ≡ Some t
    → if_holds o (goes_on (with_register m to x)) (goes_on (with_register m to y)) ≡ goes_on (with_register m to (cond t x y))
choice_at o t m to x y e = ap (λ z. if_holds z (goes_on (with_register m to x)) (goes_on (with_register m to y))) e ∙ by_test t
  where
    by_test : (s : Bool) → if_holds (Some s) (goes_on (with_register m to x)) (goes_on (with_register m to y)) ≡ goes_on (with_register m to (cond s x y))
    by_test true = refl
    by_test false = refl

-- a choice by the flag of a result
pub chosen : (areas : Areas) (m : Core) (to from : Register) (t : Bool) → holds Equal m.flags ≡ Some t
    → effect areas (i.MoveIf Equal Quad to (in_register from)) m ≡ goes_on (with_register m to (cond t (m.registers from % 2 ^ 64) (m.registers to % 2 ^ 64)))
chosen areas m to from t e = choice_at (holds Equal m.flags) t m to (m.registers from % 2 ^ 64) (m.registers to % 2 ^ 64) e

cond_low : (t : Bool) (x y : ℕ) → x < 2 ^ 64 → y < 2 ^ 64 → cond t (x % 2 ^ 64) (y % 2 ^ 64) ≡ cond t x y
cond_low t x y p q = ap₂ (λ (u v : ℕ). cond t u v) (mod-eq_of_lt p) (mod-eq_of_lt q)

and_own : (n y : ℕ) → y < 2 ^ n → eqb (iand n y y) 0 ≡ eqb y 0
and_own n y h = ap (λ x. eqb x 0) (iand_is n y y h h ∙ and_self y)

size_wide : (size : Size) (x : ℕ) → x < 2 ^ bits_of size → x < 2 ^ 64
size_wide Long x h = omega arith
size_wide Quad x h = h

-- ---- the guard of zero

pub zero_guarded : (areas : Areas) (size : Size) (c : Core) (x y : ℕ) → c.registers Rax ≡ x → c.registers Rcx ≡ y → x < 2 ^ bits_of size → y < 2 ^ bits_of size
    → Two areas (zero_guard size) c (zero_dividend x y) (zero_divisor y)
zero_guarded areas size c x y rax rcx p q =
    let n = bits_of size in
    let t = eqb y 0 in
    let z = c.registers Rcx % 2 ^ n in
    let c1 = with_register c Rdx 0 in
    let c2 = record c1 { flags = alu_flags alu.And n z z } in
    let c3 = with_register c2 Rax (cond t (0 % 2 ^ 64) (c.registers Rax % 2 ^ 64)) in
    let c4 = with_register c3 Rdx 1 in
    let c5 = with_register c4 Rcx (cond t (1 % 2 ^ 64) (c.registers Rcx % 2 ^ 64)) in
    let low_is : z ≡ y = ap (λ (w : ℕ). w % 2 ^ n) rcx ∙ mod-eq_of_lt q in
    let told : holds Equal c2.flags ≡ Some t = ap (λ w. Some (eqb (iand n w w) 0)) low_is ∙ ap Some (and_own n y q) in
    let one = i.MoveIf Equal Quad Rcx (in_register Rdx) ∷ [] in
    record {
      core = c5;
      run = runs_next areas (i.MoveIf Equal Quad Rax (in_register Rdx)) (i.Constant Rdx 1 ∷ one) c2 c3 (chosen areas c2 Rax Rdx t told)
          ∙ runs_next areas (i.MoveIf Equal Quad Rcx (in_register Rdx)) [] c4 c5 (chosen areas c4 Rcx Rdx t told);
      rax = ap (λ (w : ℕ). cond t 0 (w % 2 ^ 64)) rax ∙ ap (λ (w : ℕ). cond t 0 w) (mod-eq_of_lt (size_wide size x p));
      rcx = ap (λ (w : ℕ). cond t 1 (w % 2 ^ 64)) rcx ∙ ap (λ (w : ℕ). cond t 1 w) (mod-eq_of_lt (size_wide size y q));
      keeps = keeps_put c c4 c5 Rcx _ refl refl refl (keeps_put c c3 c4 Rdx 1 refl refl refl (keeps_put c c2 c3 Rax _ refl refl refl (keeps_same c c1 c2 refl refl (keeps_put c c c1 Rdx 0 refl refl refl (keeps_all c)))));
    }

-- ---- the guard of -1

module _ (f : Frame) (c : Core) (a b : Source) (va vb : ℕ) (bases : HasBases f c)
    (a_is : HasNumber f c a va) (b_is : HasNumber f c b vb) (a_fits : va < 2 ^ 64) (b_fits : vb < 2 ^ 64) (size : Size) where
  abbrev n : ℕ
  n = bits_of size

  abbrev x : ℕ
  x = at_size size va

  abbrev y : ℕ
  y = at_size size vb

  pub loaded_two : Two f.areas (two_of size a b) c x y
  loaded_two =
      let c1 = with_register c Rax x in
      let k1 = keeps_put c c c1 Rax x refl refl refl (keeps_all c) in
      let c2 = with_register c1 Rcx y in
      record {
        core = c2;
        run = runs_next f.areas (load size Rax a) (load size Rcx b ∷ []) c c1 (load_is f c size Rax a va bases a_is a_fits)
            ∙ runs_next f.areas (load size Rcx b) [] c1 c2 (load_is f c1 size Rcx b vb (bases_kept f c c1 k1 bases) (number_kept f c c1 b vb k1 b_is) b_fits);
        rax = refl;
        rcx = refl;
        keeps = keeps_put c c1 c2 Rcx y refl refl refl k1;
      }

  pub minus_guarded : (d : Core) → Keeps c d → d.registers Rax ≡ x → d.registers Rcx ≡ y → Two f.areas (minus_guard size a b) d (minus_dividend n x y) (minus_divisor n y)
  minus_guarded d k rax rcx =
      let t = minus_test n y in
      let d1 = with_register d Rdx 0 in
      let negated = (0 % 2 ^ n + 2 ^ n - d.registers Rax % 2 ^ (8 * bytes_in size)) % 2 ^ n in
      let d2 = with_result d1 Rdx negated (alu_flags alu.Sub n (0 % 2 ^ n) (d.registers Rax % 2 ^ (8 * bytes_in size))) in
      let d3 = with_register d2 Rax 1 in
      let sum = (d.registers Rcx % 2 ^ n + 1 % 2 ^ (8 * bytes_in size)) % 2 ^ n in
      let d4 = with_result d3 Rcx sum (alu_flags alu.Add n (d.registers Rcx % 2 ^ n) (1 % 2 ^ (8 * bytes_in size))) in
      let d5 = with_register d4 Rax x in
      let d6 = with_register d5 Rax (cond t (negated % 2 ^ 64) (x % 2 ^ 64)) in
      let d7 = with_register d6 Rcx y in
      let d8 = with_register d7 Rdx 1 in
      let d9 = with_register d8 Rcx (cond t (1 % 2 ^ 64) (y % 2 ^ 64)) in
      let k1 = keeps_put c d d1 Rdx 0 refl refl refl k in
      let k2 = keeps_put c d1 d2 Rdx negated refl refl refl k1 in
      let k3 = keeps_put c d2 d3 Rax 1 refl refl refl k2 in
      let k4 = keeps_put c d3 d4 Rcx sum refl refl refl k3 in
      let k5 = keeps_put c d4 d5 Rax x refl refl refl k4 in
      let k6 = keeps_put c d5 d6 Rax (cond t (negated % 2 ^ 64) (x % 2 ^ 64)) refl refl refl k5 in
      let last = i.MoveIf Equal Quad Rcx (in_register Rdx) ∷ [] in
      let after = load size Rcx b ∷ i.Constant Rdx 1 ∷ last in
      let choose = i.MoveIf Equal Quad Rax (in_register Rdx) in
      let sum_is : sum ≡ (y + 1) % 2 ^ n = ap₂ (λ (u v : ℕ). (u + v) % 2 ^ n) (ap (λ (w : ℕ). w % 2 ^ n) rcx ∙ mod-eq_of_lt (size_below size vb b_fits)) (one_low size) in
      let negated_is : negated ≡ (0 + 2 ^ n - x) % 2 ^ n =
      ap₂ (λ (u v : ℕ). (u + 2 ^ n - v) % 2 ^ n) (zero_low size) (ap (λ (w : ℕ). w % 2 ^ (8 * bytes_in size)) rax ∙ byte_low size va a_fits) in
      let told : Some (eqb sum 0) ≡ Some t = ap (λ w. Some (eqb w 0)) sum_is in
      let rd : Keeps d d9 =
      keeps_put d d8 d9 Rcx _ refl refl refl (keeps_put d d7 d8 Rdx 1 refl refl refl (keeps_put d d6 d7 Rcx y refl refl refl (keeps_put d d5 d6 Rax _ refl refl refl
      (keeps_put d d4 d5 Rax x refl refl refl (keeps_put d d3 d4 Rcx sum refl refl refl (keeps_put d d2 d3 Rax 1 refl refl refl (keeps_put d d1 d2 Rdx negated refl refl refl
      (keeps_put d d d1 Rdx 0 refl refl refl (keeps_all d))))))))) in
      record {
        core = d9;
        run = runs_next f.areas (load size Rax a) (choose ∷ after) d4 d5 (load_is f d4 size Rax a va (bases_kept f c d4 k4 bases) (number_kept f c d4 a va k4 a_is) a_fits)
            ∙ runs_next f.areas choose after d5 d6 (chosen f.areas d5 Rax Rdx t told)
            ∙ runs_next f.areas (load size Rcx b) (i.Constant Rdx 1 ∷ last) d6 d7 (load_is f d6 size Rcx b vb (bases_kept f c d6 k6 bases) (number_kept f c d6 b vb k6 b_is) b_fits)
            ∙ runs_next f.areas (i.MoveIf Equal Quad Rcx (in_register Rdx)) [] d8 d9 (chosen f.areas d8 Rcx Rdx t told);
        rax = cond_low t negated x (size_wide size negated (negated_small size)) (size_fits size va a_fits) ∙ ap (λ (w : ℕ). cond t w x) negated_is;
        rcx = cond_low t 1 y (omega arith) (size_fits size vb b_fits);
        keeps = rd;
      }
    where
      one_low : (s : Size) → 1 % 2 ^ (8 * bytes_in s) ≡ 1
      one_low Long = refl
      one_low Quad = refl

      zero_low : (s : Size) → 0 % 2 ^ bits_of s ≡ 0
      zero_low Long = refl
      zero_low Quad = refl

      byte_low : (s : Size) (v : ℕ) → v < 2 ^ 64 → at_size s v % 2 ^ (8 * bytes_in s) ≡ at_size s v
      byte_low Long v h = mod-eq_of_lt (size_below Long v h)
      byte_low Quad v h = mod-eq_of_lt h

      negated_small : (s : Size) → (0 % 2 ^ bits_of s + 2 ^ bits_of s - d.registers Rax % 2 ^ (8 * bytes_in s)) % 2 ^ bits_of s < 2 ^ bits_of s
      negated_small Long = mod-lt (0 % 2 ^ 32 + 2 ^ 32 - d.registers Rax % 2 ^ 32) (omega arith)
      negated_small Quad = mod-lt (0 % 2 ^ 64 + 2 ^ 64 - d.registers Rax % 2 ^ 64) (omega arith)

-- ---- the division

-- what DIV or IDIV left, and the remainder instead of the quotient
rest_comes : (areas : Areas) (rest : Bool) (e : Core) (q r : ℕ) → e.registers Rax ≡ q → e.registers Rdx ≡ r → r < 2 ^ 64 → Comes areas (take_rest rest) e (cond rest r q)
rest_comes areas false e q r rax rdx h = record { core = e; run = refl; value = rax; keeps = keeps_all e }
rest_comes areas true e q r rax rdx h =
    let d = with_register e Rax (e.registers Rdx % 2 ^ 64) in
    record { core = d; run = refl; value = ap (λ (w : ℕ). w % 2 ^ 64) rdx ∙ mod-eq_of_lt h; keeps = keeps_put e e d Rax _ refl refl refl (keeps_all e) }

-- the state behind a division
abbrev after_division : Core → ℕ → ℕ → Core
after_division c q r = record { registers = put (put c.registers Rax q) Rdx r; flags = unknown; memory = c.memory }

keeps_division : (c d : Core) (q r : ℕ) → Keeps c d → Keeps c (after_division d q r)
keeps_division c d q r k =
    let m = with_register d Rax q in
    keeps_put c m (after_division d q r) Rdx r refl refl refl (keeps_put c d m Rax q refl refl refl k)

divided_then : (areas : Areas) (xs : List Instruction) (rest : Bool) (d e : Core) (q r : ℕ) → runs areas xs d ≡ Some (after_division e q r) → Keeps d e → r < 2 ^ 64
    → Comes areas (xs ++ take_rest rest) d (cond rest r q)
divided_then areas xs rest d e q r run k h =
    let end = after_division e q r in
    let last = rest_comes areas rest end q r refl refl h in
    record {
      core = last.core;
      run = runs_append areas xs (take_rest rest) d end run ∙ last.run;
      value = last.value;
      keeps = keeps_through d end last.core (keeps_division d e q r k) last.keeps;
    }

unsigned_runs : (areas : Areas) (size : Size) (d : Core) (x y : ℕ) → d.registers Rax ≡ x → d.registers Rcx ≡ y → x < 2 ^ bits_of size → y < 2 ^ bits_of size → y ≢ 0
    → runs areas (divide_by_rcx false size) d ≡ Some (after_division (with_register d Rdx 0) (x / y) (x % y))
unsigned_runs areas size d x y rax rcx p q ne =
    let n = bits_of size in
    let d1 = with_register d Rdx 0 in
    let fits : ltb (x / y) (2 ^ n) ≡ true = grind (arith, nat_tests, div-le_self x y) in
    let some : eqb y 0 ≡ false = grind (arith, nat_tests) in
    let dividend_is : 0 % 2 ^ n * 2 ^ n + d.registers Rax % 2 ^ n ≡ x =
    ap₂ (λ (u v : ℕ). u * 2 ^ n + v) (zero_mod size) (ap (λ (w : ℕ). w % 2 ^ n) rax ∙ mod-eq_of_lt p) ∙ omega arith in
    let divisor_is : d.registers Rcx % 2 ^ n ≡ y = ap (λ (w : ℕ). w % 2 ^ n) rcx ∙ mod-eq_of_lt q in
    let effect_is : effect areas (i.Divide false size Rcx) d1 ≡ goes_on (after_division d1 (x / y) (x % y)) =
    ap₂ (λ (u v : ℕ). divide_unsigned n u v d1) dividend_is divisor_is
    ∙ ap₂ (λ s t. cond s faults (cond t (divided d1 (x / y) (x % y)) faults)) some fits in
    runs_next areas (i.Divide false size Rcx) [] d1 (after_division d1 (x / y) (x % y)) effect_is
  where
    zero_mod : (s : Size) → 0 % 2 ^ bits_of s ≡ 0
    zero_mod Long = refl
    zero_mod Quad = refl

-- ---- without sign

guarded_small : (n x y : ℕ) → x < 2 ^ n → zero_dividend x y < 2 ^ n
guarded_small n x y h = by_test (eqb y 0)
  where
    by_test : (t : Bool) → cond t 0 x < 2 ^ n
    by_test true = omega arith
    by_test false = h

divisor_small : (n x y : ℕ) → 1 < 2 ^ n → y < 2 ^ n → zero_divisor y < 2 ^ n
divisor_small n x y one h = by_test (eqb y 0)
  where
    by_test : (t : Bool) → cond t 1 y < 2 ^ n
    by_test true = one
    by_test false = h

divisor_some : (y : ℕ) → zero_divisor y ≢ 0
divisor_some y e = by_test (eqb y 0) refl e
  where
    by_test : (t : Bool) → eqb y 0 ≡ t → cond t 1 y ≡ 0 → ⊥
    by_test true f g = omega arith
    by_test false f g = eqb-false y 0 f g

one_small : (size : Size) → 1 < 2 ^ bits_of size
one_small Long = omega arith
one_small Quad = omega arith

unsigned_value : (rest : Bool) (n x y : ℕ) → cond rest (zero_dividend x y % zero_divisor y) (zero_dividend x y / zero_divisor y) ≡ division false rest n x y
unsigned_value true n x y = unsigned_remainder n x y
unsigned_value false n x y = unsigned_quotient n x y

pub unsigned_comes : (areas : Areas) (size : Size) (rest : Bool) (d : Core) (x y : ℕ) → d.registers Rax ≡ x → d.registers Rcx ≡ y → x < 2 ^ bits_of size → y < 2 ^ bits_of size
    → Comes areas (zero_guard size ++ (divide_by_rcx false size ++ take_rest rest)) d (division false rest (bits_of size) x y)
unsigned_comes areas size rest d x y rax rcx p q =
    let n = bits_of size in
    let g = zero_guarded areas size d x y rax rcx p q in
    let u = zero_dividend x y in
    let v = zero_divisor y in
    let u_small = guarded_small n x y p in
    let v_small = divisor_small n x y (one_small size) q in
    let some = divisor_some y in
    let rest_small : u % v < 2 ^ 64 = size_wide size (u % v) (omega (arith, u_small, v_small, mod-lt u {m = v} (omega (arith, some)))) in
    let mid = with_register g.core Rdx 0 in
    let comes = divided_then areas (divide_by_rcx false size) rest g.core mid (u / v) (u % v) (unsigned_runs areas size g.core u v g.rax g.rcx u_small v_small some)
    (keeps_put g.core g.core mid Rdx 0 refl refl refl (keeps_all g.core)) rest_small in
    record {
      core = comes.core;
      run = runs_append areas (zero_guard size) (divide_by_rcx false size ++ take_rest rest) d g.core g.run ∙ comes.run;
      value = comes.value ∙ unsigned_value rest n x y;
      keeps = keeps_through d g.core comes.core g.keeps comes.keeps;
    }

-- ---- by signed readings

fill_low : (size : Size) (x : ℕ) → x < 2 ^ (bits_of size - 1) → signed (2 * bits_of size) (bit x (bits_of size - 1) * (2 ^ bits_of size - 1) % 2 ^ bits_of size * 2 ^ bits_of size + x) ≡ signed (bits_of size) x
fill_low Long x h =
    let number : bit x 31 * (2 ^ 32 - 1) % 2 ^ 32 * 2 ^ 32 + x ≡ x = omega arith in
    let one : ltb x (2 ^ 63) ≡ true = grind (arith, nat_tests) in
    let other : ltb x (2 ^ 31) ≡ true = grind (arith, nat_tests) in
    ap (signed 64) number ∙ rw (one, other) refl
fill_low Quad x h =
    let number : bit x 63 * (2 ^ 64 - 1) % 2 ^ 64 * 2 ^ 64 + x ≡ x = omega arith in
    let one : ltb x (2 ^ 127) ≡ true = grind (arith, nat_tests) in
    let other : ltb x (2 ^ 63) ≡ true = grind (arith, nat_tests) in
    ap (signed 128) number ∙ rw (one, other) refl

fill_high : (size : Size) (x : ℕ) → 2 ^ (bits_of size - 1) ≤ x → x < 2 ^ bits_of size
    → signed (2 * bits_of size) (bit x (bits_of size - 1) * (2 ^ bits_of size - 1) % 2 ^ bits_of size * 2 ^ bits_of size + x) ≡ signed (bits_of size) x
fill_high Long x h g =
    let number : bit x 31 * (2 ^ 32 - 1) % 2 ^ 32 * 2 ^ 32 + x ≡ (2 ^ 32 - 1) * 2 ^ 32 + x = omega arith in
    let one : ltb ((2 ^ 32 - 1) * 2 ^ 32 + x) (2 ^ 63) ≡ false = grind (arith, nat_tests) in
    let other : ltb x (2 ^ 31) ≡ false = grind (arith, nat_tests) in
    ap (signed 64) number ∙ rw (one, other) (omega (arith, ints))
fill_high Quad x h g =
    let number : bit x 63 * (2 ^ 64 - 1) % 2 ^ 64 * 2 ^ 64 + x ≡ (2 ^ 64 - 1) * 2 ^ 64 + x = omega arith in
    let one : ltb ((2 ^ 64 - 1) * 2 ^ 64 + x) (2 ^ 127) ≡ false = grind (arith, nat_tests) in
    let other : ltb x (2 ^ 63) ≡ false = grind (arith, nat_tests) in
    ap (signed 128) number ∙ rw (one, other) (omega (arith, ints))

fill_is : (size : Size) (x : ℕ) → x < 2 ^ bits_of size → signed (2 * bits_of size) (bit x (bits_of size - 1) * (2 ^ bits_of size - 1) % 2 ^ bits_of size * 2 ^ bits_of size + x) ≡ signed (bits_of size) x
fill_is size x h = by_order (cases_lt x (2 ^ (bits_of size - 1)))
  where
    by_order : (x < 2 ^ (bits_of size - 1)) ⊎ (2 ^ (bits_of size - 1) ≤ x) → signed (2 * bits_of size) (bit x (bits_of size - 1) * (2 ^ bits_of size - 1) % 2 ^ bits_of size * 2 ^ bits_of size + x) ≡ signed (bits_of size) x
    by_order (inl low) = fill_low size x low
    by_order (inr high) = fill_high size x high h

no_overflow : (size : Size) (x y : ℕ) → x < 2 ^ bits_of size → signed (bits_of size) y ≢ negsuc 0 → overflows (bits_of size) (int_div (signed (bits_of size) x) (signed (bits_of size) y)) ≡ false
no_overflow Long x y h ne = quotient_fits 2147483648 (omega arith) (signed 32 x) (signed 32 y) (reading_half 2147483648 (omega arith) x h) ne
no_overflow Quad x y h ne = quotient_fits 9223372036854775808 (omega arith) (signed 64 x) (signed 64 y) (reading_half 9223372036854775808 (omega arith) x h) ne

abbrev signed_quotient : ℕ → ℕ → ℕ → ℕ
signed_quotient n x y = unsigned n (int_div (signed n x) (signed n y))

abbrev signed_rest : ℕ → ℕ → ℕ → ℕ
signed_rest n x y = unsigned n (signed n x -ℤ signed n y *ℤ int_div (signed n x) (signed n y))

signed_runs : (areas : Areas) (size : Size) (d : Core) (x y : ℕ) → d.registers Rax ≡ x → d.registers Rcx ≡ y → x < 2 ^ bits_of size → y < 2 ^ bits_of size → y ≢ 0
    → signed (bits_of size) y ≢ negsuc 0
    → runs areas (divide_by_rcx true size) d
    ≡ Some (after_division (with_register d Rdx (bit (d.registers Rax % 2 ^ bits_of size) (bits_of size - 1) * (2 ^ bits_of size - 1))) (signed_quotient (bits_of size) x y) (signed_rest (bits_of size) x y))
signed_runs areas size d x y rax rcx p q ne nm =
    let n = bits_of size in
    let d1 = with_register d Rdx (bit (d.registers Rax % 2 ^ n) (n - 1) * (2 ^ n - 1)) in
    let rax_low : d.registers Rax % 2 ^ n ≡ x = ap (λ (w : ℕ). w % 2 ^ n) rax ∙ mod-eq_of_lt p in
    let rcx_low : d.registers Rcx % 2 ^ n ≡ y = ap (λ (w : ℕ). w % 2 ^ n) rcx ∙ mod-eq_of_lt q in
    let some : eqb y 0 ≡ false = grind (arith, nat_tests) in
    let dividend_is : signed (2 * n) (bit (d.registers Rax % 2 ^ n) (n - 1) * (2 ^ n - 1) % 2 ^ n * 2 ^ n + d.registers Rax % 2 ^ n) ≡ signed n x =
    ap (λ (w : ℕ). signed (2 * n) (bit w (n - 1) * (2 ^ n - 1) % 2 ^ n * 2 ^ n + w)) rax_low ∙ fill_is size x p in
    let effect_is : effect areas (i.Divide true size Rcx) d1 ≡ goes_on (after_division d1 (signed_quotient n x y) (signed_rest n x y)) =
    ap₂ (λ (u : ℤ) (v : ℕ). cond (eqb v 0) faults (divide_signed n u (signed n v) d1)) dividend_is rcx_low
    ∙ ap₂ (λ s t. cond s faults (cond t faults (divided d1 (signed_quotient n x y) (signed_rest n x y)))) some (no_overflow size x y p nm) in
    runs_next areas (i.Divide true size Rcx) [] d1 (after_division d1 (signed_quotient n x y) (signed_rest n x y)) effect_is

-- ---- by guarded operands

pub minus_dividend-small : (size : Size) (x y : ℕ) → x < 2 ^ bits_of size → minus_dividend (bits_of size) x y < 2 ^ bits_of size
minus_dividend-small size x y h = by_test (minus_test (bits_of size) y)
  where
    by_test : (t : Bool) → cond t ((0 + 2 ^ bits_of size - x) % 2 ^ bits_of size) x < 2 ^ bits_of size
    by_test true = mod-lt (0 + 2 ^ bits_of size - x) (omega (arith, one_small size))
    by_test false = h

pub minus_divisor-small : (size : Size) (y : ℕ) → y < 2 ^ bits_of size → minus_divisor (bits_of size) y < 2 ^ bits_of size
minus_divisor-small size y h = by_test (minus_test (bits_of size) y)
  where
    by_test : (t : Bool) → cond t 1 y < 2 ^ bits_of size
    by_test true = one_small size
    by_test false = h

module _ (size : Size) (x y : ℕ) (p : x < 2 ^ bits_of size) (q : y < 2 ^ bits_of size) where
  abbrev u : ℕ
  u = zero_dividend (minus_dividend (bits_of size) x y) (minus_divisor (bits_of size) y)

  abbrev v : ℕ
  v = zero_divisor (minus_divisor (bits_of size) y)

divisor_ready : (size : Size) (x y : ℕ) (p : x < 2 ^ bits_of size) (q : y < 2 ^ bits_of size) → (signed (bits_of size) (v size x y p q) ≢ negsuc 0) × (v size x y p q ≢ 0)
divisor_ready Long x y p q = divisor_fine 2147483648 (omega arith) y q (minus_test 32 y) (eqb (minus_divisor 32 y) 0) refl refl
divisor_ready Quad x y p q = divisor_fine 9223372036854775808 (omega arith) y q (minus_test 64 y) (eqb (minus_divisor 64 y) 0) refl refl

quotient_value : (size : Size) (x y : ℕ) (p : x < 2 ^ bits_of size) (q : y < 2 ^ bits_of size) → signed_quotient (bits_of size) (u size x y p q) (v size x y p q) ≡ idiv_s (bits_of size) x y
quotient_value Long x y p q = quotient_by 2147483648 (omega arith) x y p q (minus_test 32 y) (eqb (minus_divisor 32 y) 0) refl refl
quotient_value Quad x y p q = quotient_by 9223372036854775808 (omega arith) x y p q (minus_test 64 y) (eqb (minus_divisor 64 y) 0) refl refl

rest_value : (size : Size) (x y : ℕ) (p : x < 2 ^ bits_of size) (q : y < 2 ^ bits_of size) → signed_rest (bits_of size) (u size x y p q) (v size x y p q) ≡ irem_s (bits_of size) x y
rest_value Long x y p q =
    ap (unsigned 32) (rem_by_quotient (signed 32 (u Long x y p q)) (signed 32 (v Long x y p q)))
    ∙ remainder_by 2147483648 (omega arith) x y p q (minus_test 32 y) (eqb (minus_divisor 32 y) 0) refl refl
    ∙ ap (λ z. cond (eqb y 0) 0 (unsigned 32 z)) (sym (rem_by_quotient (signed 32 x) (signed 32 y)))
rest_value Quad x y p q =
    ap (unsigned 64) (rem_by_quotient (signed 64 (u Quad x y p q)) (signed 64 (v Quad x y p q)))
    ∙ remainder_by 9223372036854775808 (omega arith) x y p q (minus_test 64 y) (eqb (minus_divisor 64 y) 0) refl refl
    ∙ ap (λ z. cond (eqb y 0) 0 (unsigned 64 z)) (sym (rem_by_quotient (signed 64 x) (signed 64 y)))

signed_value : (rest : Bool) (size : Size) (x y : ℕ) (p : x < 2 ^ bits_of size) (q : y < 2 ^ bits_of size)
    → cond rest (signed_rest (bits_of size) (u size x y p q) (v size x y p q)) (signed_quotient (bits_of size) (u size x y p q) (v size x y p q)) ≡ division true rest (bits_of size) x y
signed_value true size x y p q = rest_value size x y p q
signed_value false size x y p q = quotient_value size x y p q

bits_some : (size : Size) → 0 < bits_of size
bits_some Long = omega arith
bits_some Quad = omega arith

signed_comes : (areas : Areas) (size : Size) (rest : Bool) (d : Core) (x y : ℕ) (p : x < 2 ^ bits_of size) (q : y < 2 ^ bits_of size)
    → d.registers Rax ≡ minus_dividend (bits_of size) x y → d.registers Rcx ≡ minus_divisor (bits_of size) y
    → Comes areas (zero_guard size ++ (divide_by_rcx true size ++ take_rest rest)) d (division true rest (bits_of size) x y)
signed_comes areas size rest d x y p q rax rcx =
    let n = bits_of size in
    let a = minus_dividend n x y in
    let b = minus_divisor n y in
    let g = zero_guarded areas size d a b rax rcx (minus_dividend-small size x y p) (minus_divisor-small size y q) in
    let u_small = guarded_small n a b (minus_dividend-small size x y p) in
    let v_small = divisor_small n a b (one_small size) (minus_divisor-small size y q) in
    let ready = divisor_ready size x y p q in
    let quotient = signed_quotient n (u size x y p q) (v size x y p q) in
    let remainder = signed_rest n (u size x y p q) (v size x y p q) in
    let rest_small : remainder < 2 ^ 64 = size_wide size remainder (omega (arith, rest_value size x y p q, irem_s-below n x y (bits_some size) p)) in
    let fill = bit (g.core.registers Rax % 2 ^ n) (n - 1) * (2 ^ n - 1) in
    let mid = with_register g.core Rdx fill in
    let comes = divided_then areas (divide_by_rcx true size) rest g.core mid quotient remainder
    (signed_runs areas size g.core (u size x y p q) (v size x y p q) g.rax g.rcx u_small v_small ready.1 ready.0)
    (keeps_put g.core g.core mid Rdx fill refl refl refl (keeps_all g.core)) rest_small in
    record {
      core = comes.core;
      run = runs_append areas (zero_guard size) (divide_by_rcx true size ++ take_rest rest) d g.core g.run ∙ comes.run;
      value = comes.value ∙ signed_value rest size x y p q;
      keeps = keeps_through d g.core comes.core g.keeps comes.keeps;
    }

-- ---- the whole template

after_two : (areas : Areas) (xs ys : List Instruction) (c : Core) (x y w : ℕ) (first : Two areas xs c x y) → Comes areas ys first.core w → Comes areas (xs ++ ys) c w
after_two areas xs ys c x y w first last = record {
  core = last.core;
  run = runs_append areas xs ys c first.core first.run ∙ last.run;
  value = last.value;
  keeps = keeps_through c first.core last.core first.keeps last.keeps;
}

append_to : (areas : Areas) (xs ys zs : List Instruction) (c : Core) (w : ℕ) → Comes areas (xs ++ (ys ++ zs)) c w → Comes areas ((xs ++ ys) ++ zs) c w
append_to areas xs ys zs c w h = subst (λ l. Comes areas l c w) (sym (append_assoc xs ys zs)) h

pub divide_comes : (f : Frame) (c : Core) (a b : Source) (va vb : ℕ) → HasBases f c → HasNumber f c a va → HasNumber f c b vb → va < 2 ^ 64 → vb < 2 ^ 64
    → (sign rest : Bool) (size : Size)
    → Comes f.areas (two_of size a b ++ (guards sign size a b ++ (divide_by_rcx sign size ++ take_rest rest))) c (division sign rest (bits_of size) (at_size size va) (at_size size vb))
divide_comes f c a b va vb bases a_is b_is a_fits b_fits false rest size =
    let two = loaded_two f c a b va vb bases a_is b_is a_fits b_fits size in
    after_two f.areas (two_of size a b) _ c _ _ _ two
    (unsigned_comes f.areas size rest two.core (at_size size va) (at_size size vb) two.rax two.rcx (size_below size va a_fits) (size_below size vb b_fits))
divide_comes f c a b va vb bases a_is b_is a_fits b_fits true rest size =
    let two = loaded_two f c a b va vb bases a_is b_is a_fits b_fits size in
    let guarded = minus_guarded f c a b va vb bases a_is b_is a_fits b_fits size two.core two.keeps two.rax two.rcx in
    after_two f.areas (two_of size a b) _ c _ _ _ two
    (append_to f.areas (minus_guard size a b) (zero_guard size) (divide_by_rcx true size ++ take_rest rest) two.core _
    (after_two f.areas (minus_guard size a b) _ two.core _ _ _ guarded
    (signed_comes f.areas size rest guarded.core (at_size size va) (at_size size vb) (size_below size va a_fits) (size_below size vb b_fits) guarded.rax guarded.rcx)))

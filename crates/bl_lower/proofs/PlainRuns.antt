-- Ways of the plain machine.
use Rattle.std.proofs.Common.{◌≡◌, ◌≢◌, ℕ, suc, ◌+◌, ◌<◌, ◌≤◌, Bool, true, false, cond, ◌&&◌, List, [], ◌∷◌, ◌++◌, length, Some, slice_get, nat_eq, refl, ap, ap₂, ◌∙◌, subst, arith}
use Rattle.std.proofs.lemmas.Bool.{eq-eqb, eqb-true, false_from_ne_true, le-ltb, lt-ltb}
use Rattle.std.specs.List.{AllZip}
use Rattle.bl_base.proofs.Lists.{zip_each}
use Rattle.bl_base.specs.Runs.{StepsTo, goes}
use Rattle.bl_ops.specs.declared.op.Op.{Op}
use Rattle.bl_ops.specs.Numerics.{meaning}
use Rattle.bl_ops.specs.declared.op.Op.TheVariants as op
use Rattle.bl_access.specs.Templates.{set_of, shift}
use Rattle.bl_program.specs.Steps.{Registers, written, Plain, depth, on}
use Rattle.bl_program.specs.declared.command.Command.{Command}
use Rattle.bl_program.specs.declared.command.Operand.{Operand}
use Rattle.bl_program.specs.declared.command.Operand.TheVariants.{Var, Const}
use Rattle.bl_lower.proofs.CodeLayout.{HasAt, IsNot, AreNot, Fresh}
use Rattle.bl_lower.proofs.Machine.{Program, place, value_of, perform, plain_step}
use Rattle.bl_lower.proofs.MatchStates.{Holds, AllHold}
use Rattle.bl_emit.specs.Constructs.{reads, moves}

second_false : (a b : Bool) (x y : ℕ) → b ≡ false → cond (a && b) x y ≡ y
second_false true b x y e = ap (λ c. cond c x y) e
second_false false b x y e = refl

-- what was written is read there
pub read_written : (r : Registers) (d v n : ℕ) → written r d v n d v ≡ n
read_written r d v n = ap₂ (λ a b. cond (a && b) n (r d v)) (eq-eqb d d refl) (eq-eqb v v refl)

-- another variable keeps its number
pub read_other : (r : Registers) (d v n e w : ℕ) → w ≢ v → written r d v n e w ≡ r e w
read_other r d v n e w ne = second_false (nat_eq e d) (nat_eq w v) n (r e w) (false_from_ne_true (nat_eq w v) (λ t. ne (eqb-true w v t)))

-- and so does each variable at another depth
pub read_deeper : (r : Registers) (d v n e w : ℕ) → e ≢ d → written r d v n e w ≡ r e w
read_deeper r d v n e w ne = ap (λ a. cond (a && nat_eq w v) n (r e w)) (false_from_ne_true (nat_eq e d) (λ t. ne (eqb-true e d t)))

pub has_front : {X : Type 0} (code : List X) (pc : ℕ) (a b : List X) → HasAt code pc (a ++ b) → HasAt code pc a
has_front code pc [] b h = tt
has_front code pc (i ∷ a) b h = (h.0, has_front code (suc pc) a b h.1)

pub has_back : {X : Type 0} (code : List X) (pc : ℕ) (a b : List X) → HasAt code pc (a ++ b) → HasAt code (shift (length a) pc) b
has_back code pc [] b h = h
has_back code pc (i ∷ a) b h = has_back code (suc pc) a b h.1

pub move_is : (a b c : ℕ) → meaning op.Move a b c ≡ a
unfolding meaning
move_is a b c = refl

-- the variables from one on below another have the same numbers
abbrev pub Agree : Registers → Registers → ℕ → ℕ → ℕ → Type 0
Agree r r' d low next = (x : ℕ) → low ≤ x → x < next → r' d x ≡ r d x

pub holds_later : (r r' : Registers) (d low next low' next' : ℕ) (a : Operand) (v : ℕ) → Agree r r' d low next → low' ≤ low → next ≤ next' → Holds r d low next a v → Holds r' d low' next' a v
holds_later r r' d low next low' next' (Var x) v agree le le' h = (omega (arith, h.0, le), omega (arith, h.1, le'), agree x.0 h.0 h.1 ∙ h.2)
holds_later r r' d low next low' next' (Const c) v agree le le' h = h

pub all_later : (r r' : Registers) (d low next low' next' : ℕ) (stack : List Operand) (vs : List ℕ) → Agree r r' d low next → low' ≤ low → next ≤ next' → AllHold r d low next stack vs → AllHold r' d low' next' stack vs
all_later r r' d low next low' next' [] [] agree le le' h = h
all_later r r' d low next low' next' [] (v ∷ vs) agree le le' h = absurd h
all_later r r' d low next low' next' (a ∷ stack) [] agree le le' h = absurd h
all_later r r' d low next low' next' (a ∷ stack) (v ∷ vs) agree le le' h = (holds_later r r' d low next low' next' a v agree le le' h.0, all_later r r' d low next low' next' stack vs agree le le' h.1)

-- only these variables at that depth have changed
abbrev pub Kept : Registers → Registers → ℕ → ℕ → ℕ → Type 0
Kept r r' d first count = (e x : ℕ) → ((e ≡ d) → (first ≤ x) → (x < first + count) → ⊥) → r' e x ≡ r e x

-- what an operand reads
abbrev pub Value : Registers → ℕ → ℕ → Operand → ℕ → Type 0
Value r statics d (Var x) v = (statics ≤ x.0) × (r d x.0 ≡ v)
Value r statics d (Const c) v = c ≡ v

pub held_values : (r : Registers) (statics d low next : ℕ) (operands : List Operand) (vs : List ℕ) → statics ≤ low → AllHold r d low next operands vs → AllZip (Value r statics d) operands vs
held_values r statics d low next operands vs le all = zip_each (Holds r d low next) (Value r statics d) each operands vs all
  where
    each : (a : Operand) (v : ℕ) → Holds r d low next a v → Value r statics d a v
    each (Var x) v h = (omega (arith, h.0, le), h.2)
    each (Const c) v h = h

-- operands that aren't a variable read the same after a write of it
values_later : (r : Registers) (statics d first w : ℕ) (operands : List Operand) (vs : List ℕ) → AreNot first operands → AllZip (Value r statics d) operands vs → AllZip (Value (written r d first w) statics d) operands vs
values_later r statics d first w [] [] not h = h
values_later r statics d first w [] (v ∷ vs) not h = absurd h
values_later r statics d first w (a ∷ operands) [] not h = absurd h
values_later r statics d first w (a ∷ operands) (v ∷ vs) not h = (one a not.0 h.0, values_later r statics d first w operands vs not.1 h.1)
  where
    one : (a : Operand) → IsNot first a → Value r statics d a v → Value (written r d first w) statics d a v
    one (Var x) ne g = (g.0, read_other r d first w d x.0 ne ∙ g.1)
    one (Const c) ne g = g

abbrev pub at : ℕ → Registers → Plain → Plain
at position r s = record s { position = position; registers = r }

-- what one write leaves
pub kept_written : (r : Registers) (d first count w : ℕ) → Kept r (written r d first w) d first (suc count)
kept_written r d first count w e x out = by_depth (nat_eq e d) (nat_eq x first) refl refl
  where
    by_depth : (a b : Bool) → nat_eq e d ≡ a → nat_eq x first ≡ b → written r d first w e x ≡ r e x
    by_depth false b f g = ap (λ a. cond (a && nat_eq x first) w (r e x)) f
    by_depth true false f g = second_false (nat_eq e d) (nat_eq x first) w (r e x) g
    by_depth true true f g =
        let same : x ≡ first = eqb-true x first g in
        absurd (out (eqb-true e d f) (omega (arith, same)) (omega (arith, same)))

module _ (program : Program) where
  pub place_is : (s : Plain) (x : ℕ) → program.statics ≤ x → place program x s ≡ depth s
  place_is s x le = ap (λ b. cond b 0 (depth s)) (le-ltb x program.statics le)

  pub place_static : (s : Plain) (x : ℕ) → x < program.statics → place program x s ≡ 0
  place_static s x lt = ap (λ b. cond b 0 (depth s)) (lt-ltb x program.statics lt)

  pub value_is : (s : Plain) (a : Operand) (v : ℕ) → Value s.registers program.statics (depth s) a v → value_of program a s ≡ v
  value_is s (Var x) v h = ap (λ d. s.registers d x.0) (place_is s x.0 h.0) ∙ h.1
  value_is s (Const c) v h = h

  pub holds_value : (s : Plain) (low next : ℕ) (a : Operand) (v : ℕ) → program.statics ≤ low → Holds s.registers (depth s) low next a v → value_of program a s ≡ v
  holds_value s low next (Var x) v le h = value_is s (Var x) v (omega (arith, h.0, le), h.2)
  holds_value s low next (Const c) v le h = h

  -- an operand below the variables that have changed reads as before
  pub kept_value : (s : Plain) (position : ℕ) (r' : Registers) (first count low next : ℕ) (a : Operand) (v : ℕ) → program.statics ≤ low → next ≤ first → Kept s.registers r' (depth s) first count → Holds s.registers (depth s) low next a v
      → value_of program a (at position r' s) ≡ v
  kept_value s position r' first count low next a v static le kept h = holds_value (at position r' s) low next a v static
      (holds_later s.registers r' (depth s) low next low next a v (λ x above below. kept (depth s) x (λ same up down. omega (arith, below, le, up))) (omega arith) (omega arith) h)

  -- a command that stands there is done
  pub does : (s : Plain) (command : Command) → slice_get program.commands s.position ≡ Some command → plain_step program s ≡ perform program (Some command) s
  does s command e = ap (λ c. perform program c s) e

  -- a variable of the function takes a value
  pub sets : (s : Plain) (mark : ℕ) (o : Op) (x w : ℕ) (a b c : Operand) → slice_get program.commands s.position ≡ Some (set_of mark o x a b c) → program.statics ≤ x
      → meaning o (value_of program a s) (value_of program b s) (value_of program c s) ≡ w → plain_step program s ≡ goes (at (suc s.position) (written s.registers (depth s) x w) s)
  sets s mark o x w a b c e le value = does s (set_of mark o x a b c) e ∙ ap (λ d. on s (written s.registers d x (meaning o (value_of program a s) (value_of program b s) (value_of program c s)))) (place_is s x le)
      ∙ ap (λ n. on s (written s.registers (depth s) x n)) value

  -- operands were moved to variables from one on
  pub record Moved (s : Plain) (first count : ℕ) (vs : List ℕ) : Type 0 where
    pub registers : Registers
    pub comes : StepsTo (plain_step program) count s (at (shift count s.position) registers s)
    pub kept : Kept s.registers registers (depth s) first count
    pub holds : AllHold registers (depth s) first (first + count) (reads first count) vs

  pub moves_run : (s : Plain) (mark : ℕ) (operands : List Operand) (vs : List ℕ) (first : ℕ) → HasAt program.commands s.position (moves mark first operands) → program.statics ≤ first → Fresh first operands
      → AllZip (Value s.registers program.statics (depth s)) operands vs → Moved s first (length operands) vs
  moves_run s mark [] [] first h le fresh all = record { registers = s.registers; comes = refl; kept = λ e x out. refl; holds = tt }
  moves_run s mark [] (v ∷ vs) first h le fresh all = absurd all
  moves_run s mark (a ∷ operands) [] first h le fresh all = absurd all
  moves_run s mark (a ∷ operands) (v ∷ vs) first h le fresh all =
      let r' = written s.registers (depth s) first v in
      let s' = at (suc s.position) r' s in
      let m = moves_run s' mark operands vs (suc first) h.1 (omega (arith, le)) fresh.1 (values_later s.registers program.statics (depth s) first v operands vs fresh.0 all.1) in
      record {
        registers = m.registers;
        comes = (s', sets s mark op.Move first v a (Const 0) (Const 0) h.0 le (move_is (value_of program a s) 0 0 ∙ value_is s a v all.0), m.comes);
        kept = λ e x out. m.kept e x (λ same above below. out same (omega (arith, above)) (omega (arith, below)))
            ∙ kept_written s.registers (depth s) first (length operands) v e x out;
        holds = (
          (omega arith, omega arith, m.kept (depth s) first (λ same above below. omega (arith, above)) ∙ read_written s.registers (depth s) first v),
          all_later m.registers m.registers (depth s) (suc first) (suc first + length operands) first (first + suc (length operands)) (reads (suc first) (length operands)) vs (λ x le lt. refl) (omega arith) (omega arith) m.holds,
        );
      }

  pub moved : (s : Plain) (mark : ℕ) (operands : List Operand) (vs : List ℕ) (first count : ℕ) → length operands ≡ count → HasAt program.commands s.position (moves mark first operands) → program.statics ≤ first → Fresh first operands
      → AllZip (Value s.registers program.statics (depth s)) operands vs → Moved s first count vs
  moved s mark operands vs first count e h le fresh all = subst (λ n. Moved s first n vs) e (moves_run s mark operands vs first h le fresh all)

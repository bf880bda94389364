-- The operands of lowering: variables that rise from the bottom to the top, and none of what is still to be written.
use Rattle.std.proofs.Common.{◌≡◌, ℕ, zero, suc, ◌+◌, ◌<◌, ◌≤◌, List, [], ◌∷◌, ◌++◌, length, take, drop, reverse, refl, sym, ap, ◌∙◌, subst, arith, ◌⊎◌, inl, inr}
use Rattle.std.proofs.lemmas.List.{reverse-append, append_assoc, append-nil}
use Rattle.bl_access.specs.Templates.{variable}
use Rattle.bl_program.specs.declared.command.Operand.{Operand}
use Rattle.bl_program.specs.declared.command.Operand.TheVariants.{Var, Const}
use Rattle.bl_lower.proofs.CodeLayout.{AreNot, Fresh}
use Rattle.bl_emit.specs.Constructs.{pad, reads, Kind, whole, again, part, Target, taken, first_to}
use Rattle.bl_lower.proofs.Sizes.{padded_length}

-- ---- the order of operands

-- each operand is a variable below the one above it, topmost first
abbrev pub Below : ℕ → List Operand → Type 0
Below next [] = Unit {0}
Below next (Var x ∷ stack) = (x.0 < next) × Below x.0 stack
Below next (Const c ∷ stack) = ⊥

-- a variable that the moves to a construct don't write too early
abbrev pub lowest : Kind → ℕ
lowest (again start params first) = first
lowest kind = 0

abbrev pub Avoids : Target → Operand → Type 0
Avoids t (Var x) = ((x.0 < t.first) ⊎ (t.first + t.arity ≤ x.0)) × (lowest t.kind ≤ x.0)
Avoids t (Const c) = Unit {0}

abbrev pub AllAvoid : Target → List Operand → Type 0
AllAvoid t [] = Unit {0}
AllAvoid t (a ∷ stack) = Avoids t a × AllAvoid t stack

abbrev pub Clear : List Target → List Operand → Type 0
Clear [] stack = Unit {0}
Clear (t ∷ open_ones) stack = AllAvoid t stack × Clear open_ones stack

-- new variables are above all that is open
abbrev pub NewAboveOpen : List Target → ℕ → Type 0
NewAboveOpen [] next = Unit {0}
NewAboveOpen (t ∷ open_ones) next = (t.first + t.arity ≤ next) × (lowest t.kind ≤ next) × NewAboveOpen open_ones next

pub record OperandsOrdered (open_ones : List Target) (stack : List Operand) (next : ℕ) : Type 0 where
  pub below : Below next stack
  pub clear : Clear open_ones stack
  pub above_open : NewAboveOpen open_ones next

pub below_later : (a b : ℕ) (stack : List Operand) → a ≤ b → Below a stack → Below b stack
below_later a b [] le h = tt
below_later a b (Var x ∷ stack) le h = (omega (arith, h.0, le), h.1)
below_later a b (Const c ∷ stack) le h = absurd h

pub above_open_later : (a b : ℕ) (open_ones : List Target) → a ≤ b → NewAboveOpen open_ones a → NewAboveOpen open_ones b
above_open_later a b [] le h = tt
above_open_later a b (t ∷ open_ones) le h = (omega (arith, h.0, le), omega (arith, h.1, le), above_open_later a b open_ones le h.2)

pub ordered_later : (open_ones : List Target) (stack : List Operand) (a b : ℕ) → a ≤ b → OperandsOrdered open_ones stack a → OperandsOrdered open_ones stack b
ordered_later open_ones stack a b le h = record { below = below_later a b stack le h.below; clear = h.clear; above_open = above_open_later a b open_ones le h.above_open }

all_tail : (t : Target) (n : ℕ) (stack : List Operand) → AllAvoid t stack → AllAvoid t (drop n stack)
all_tail t zero stack h = h
all_tail t (suc n) [] h = tt
all_tail t (suc n) (a ∷ stack) h = all_tail t n stack h.1

clear_tail : (open_ones : List Target) (n : ℕ) (stack : List Operand) → Clear open_ones stack → Clear open_ones (drop n stack)
clear_tail [] n stack h = tt
clear_tail (t ∷ open_ones) n stack h = (all_tail t n stack h.0, clear_tail open_ones n stack h.1)

below_tail : (n next : ℕ) (stack : List Operand) → Below next stack → Below next (drop n stack)
below_tail zero next stack h = h
below_tail (suc n) next [] h = tt
below_tail (suc n) next (Var x ∷ stack) h = below_tail n next stack (below_later x.0 next stack (omega (arith, h.0)) h.1)
below_tail (suc n) next (Const c ∷ stack) h = absurd h

pub ordered_tail : (open_ones : List Target) (n : ℕ) (stack : List Operand) (next : ℕ) → OperandsOrdered open_ones stack next → OperandsOrdered open_ones (drop n stack) next
ordered_tail open_ones n stack next h = record { below = below_tail n next stack h.below; clear = clear_tail open_ones n stack h.clear; above_open = h.above_open }

clear_new : (open_ones : List Target) (next : ℕ) (stack : List Operand) → NewAboveOpen open_ones next → Clear open_ones stack → Clear open_ones (variable next ∷ stack)
clear_new [] next stack above_open h = tt
clear_new (t ∷ open_ones) next stack above_open h = (((inr above_open.0, above_open.1), h.0), clear_new open_ones next stack above_open.2 h.1)

pub ordered_new : (open_ones : List Target) (stack : List Operand) (next : ℕ) → OperandsOrdered open_ones stack next → OperandsOrdered open_ones (variable next ∷ stack) (suc next)
ordered_new open_ones stack next h = record {
  below = (omega arith, h.below);
  clear = clear_new open_ones next stack h.above_open h.clear;
  above_open = above_open_later next (suc next) open_ones (omega arith) h.above_open;
}

pub reverse_step : {X : Type 0} (a : X) (l s : List X) → reverse (a ∷ l) ++ s ≡ reverse l ++ (a ∷ s)
reverse_step a l s = ap (λ r. r ++ s) (reverse-append (a ∷ []) l) ∙ append_assoc (reverse l) (a ∷ []) s

-- new variables on the operands
pub ordered_reads : (count first : ℕ) (open_ones : List Target) (stack : List Operand) → OperandsOrdered open_ones stack first → OperandsOrdered open_ones (reverse (reads first count) ++ stack) (first + count)
ordered_reads zero first open_ones stack h = ordered_later open_ones stack first (first + 0) (omega arith) h
ordered_reads (suc count) first open_ones stack h =
    let same : suc first + count ≡ first + suc count = omega arith in
    subst (OperandsOrdered open_ones (reverse (reads first (suc count)) ++ stack)) same
    (subst (λ l. OperandsOrdered open_ones l (suc first + count)) (sym (reverse_step (variable first) (reads (suc first) count) stack))
    (ordered_reads count (suc first) open_ones (variable first ∷ stack) (ordered_new open_ones stack first h)))

-- ---- inside a construct

abbrev pub AtLeast : ℕ → List Operand → Type 0
AtLeast low [] = Unit {0}
AtLeast low (Var x ∷ stack) = (low ≤ x.0) × AtLeast low stack
AtLeast low (Const c ∷ stack) = AtLeast low stack

at_least_zero : (stack : List Operand) → AtLeast 0 stack
at_least_zero [] = tt
at_least_zero (Var x ∷ stack) = (omega arith, at_least_zero stack)
at_least_zero (Const c ∷ stack) = at_least_zero stack

at_least_reads : (low count first : ℕ) (acc : List Operand) → low ≤ first → AtLeast low acc → AtLeast low (reverse (reads first count) ++ acc)
at_least_reads low zero first acc le h = h
at_least_reads low (suc count) first acc le h =
    subst (AtLeast low) (sym (reverse_step (variable first) (reads (suc first) count) acc)) (at_least_reads low count (suc first) (variable first ∷ acc) (omega (arith, le)) (le, h))

all_avoid : (t : Target) (high : ℕ) (stack : List Operand) → high ≤ t.first → Below high stack → AtLeast (lowest t.kind) stack → AllAvoid t stack
all_avoid t high [] le h g = tt
all_avoid t high (Var x ∷ stack) le h g = ((inl (omega (arith, h.0, le)), g.0), all_avoid t x.0 stack (omega (arith, h.0, le)) h.1 g.1)
all_avoid t high (Const c ∷ stack) le h g = absurd h

-- operands below a construct's results stay as they are inside
ordered_within : (t : Target) (open_ones : List Target) (stack : List Operand) (high next : ℕ) → high ≤ t.first → t.first + t.arity ≤ next → lowest t.kind ≤ next → AtLeast (lowest t.kind) stack → OperandsOrdered open_ones stack high → OperandsOrdered (t ∷ open_ones) stack next
ordered_within t open_ones stack high next le room low least h =
    let later = ordered_later open_ones stack high next (omega (arith, le, room)) h in
    record { below = later.below; clear = (all_avoid t high stack le h.below least, h.clear); above_open = (room, low, later.above_open) }

all_front : (t : Target) (n : ℕ) (stack : List Operand) → AllAvoid t stack → AllAvoid t (take n stack)
all_front t zero stack h = tt
all_front t (suc n) [] h = tt
all_front t (suc n) (a ∷ stack) h = (h.0, all_front t n stack h.1)

clear_front : (open_ones : List Target) (n : ℕ) (stack : List Operand) → Clear open_ones stack → Clear open_ones (take n stack)
clear_front [] n stack h = tt
clear_front (t ∷ open_ones) n stack h = (all_front t n stack h.0, clear_front open_ones n stack h.1)

below_front : (n next : ℕ) (stack : List Operand) → Below next stack → Below next (take n stack)
below_front zero next stack h = tt
below_front (suc n) next [] h = tt
below_front (suc n) next (Var x ∷ stack) h = (h.0, below_front n x.0 stack h.1)
below_front (suc n) next (Const c ∷ stack) h = absurd h

ordered_front : (open_ones : List Target) (n : ℕ) (stack : List Operand) (next : ℕ) → OperandsOrdered open_ones stack next → OperandsOrdered open_ones (take n stack) next
ordered_front open_ones n stack next h = record { below = below_front n next stack h.below; clear = clear_front open_ones n stack h.clear; above_open = h.above_open }

-- inside a block or a part of an if, with the parameters
pub ordered_taken : (t : Target) (open_ones : List Target) (n : ℕ) (stack : List Operand) (from next : ℕ) → from ≤ t.first → t.first + t.arity ≤ next → lowest t.kind ≡ 0 → OperandsOrdered open_ones stack from → OperandsOrdered (t ∷ open_ones) (take n stack) next
ordered_taken t open_ones n stack from next le room low h =
    ordered_within t open_ones (take n stack) from next le room (omega (arith, low)) (subst (λ k. AtLeast k (take n stack)) (sym low) (at_least_zero (take n stack))) (ordered_front open_ones n stack from h)

-- inside a loop, with its new parameter variables
pub ordered_looped : (t : Target) (open_ones : List Target) (n : ℕ) (stack : List Operand) (from next : ℕ) → from + n ≤ t.first → t.first + t.arity ≤ next → lowest t.kind ≡ from → OperandsOrdered open_ones stack from → OperandsOrdered (t ∷ open_ones) (reverse (reads from n)) next
ordered_looped t open_ones n stack from next le room low h =
    ordered_within t open_ones (reverse (reads from n)) (from + n) next le room (omega (arith, low, le, room))
    (subst (λ k. AtLeast k (reverse (reads from n))) (sym low) (subst (AtLeast from) (append-nil (reverse (reads from n))) (at_least_reads from n from [] (omega arith) tt)))
    (subst (λ l. OperandsOrdered open_ones l (from + n)) (append-nil (reverse (reads from n))) (ordered_reads n from open_ones [] (record { below = tt; clear = none open_ones; above_open = h.above_open })))
  where
    none : (open_ones : List Target) → Clear open_ones []
    none [] = tt
    none (t ∷ open_ones) = (tt, none open_ones)

-- ---- what may be written

-- each operand from a list, in the other order
abbrev pub Outside : ℕ → ℕ → Operand → Type 0
Outside low high (Var x) = (x.0 < low) ⊎ (high ≤ x.0)
Outside low high (Const c) = Unit {0}

abbrev pub AllOutside : ℕ → ℕ → List Operand → Type 0
AllOutside low high [] = Unit {0}
AllOutside low high (a ∷ ops) = Outside low high a × AllOutside low high ops

outside_pad : (low high n : ℕ) (stack acc : List Operand) → AllOutside low high stack → AllOutside low high acc → AllOutside low high (reverse (pad n stack) ++ acc)
outside_pad low high zero stack acc h g = g
outside_pad low high (suc n) [] acc h g = subst (AllOutside low high) (sym (reverse_step (Const 0) (pad n []) acc)) (outside_pad low high n [] (Const 0 ∷ acc) tt (tt, g))
outside_pad low high (suc n) (a ∷ stack) acc h g = subst (AllOutside low high) (sym (reverse_step a (pad n stack) acc)) (outside_pad low high n stack (a ∷ acc) h.1 (h.0, g))

not_outside : (low high x : ℕ) (ops : List Operand) → low ≤ x → x < high → AllOutside low high ops → AreNot x ops
not_outside low high x [] le lt h = tt
not_outside low high x (Var y ∷ ops) le lt h = ((λ e. elim h.0 [ inl g ↦ omega (arith, g, le, e) | inr g ↦ omega (arith, g, lt, e) ]), not_outside low high x ops le lt h.1)
not_outside low high x (Const c ∷ ops) le lt h = (tt, not_outside low high x ops le lt h.1)

pub outside_fresh : (low high first : ℕ) (ops : List Operand) → low ≤ first → first + length ops ≤ high → AllOutside low high ops → Fresh first ops
outside_fresh low high first [] le ge h = tt
outside_fresh low high first (a ∷ ops) le ge h =
    (not_outside low high first ops le (omega (arith, ge)) h.1, outside_fresh low high (suc first) ops (omega (arith, le)) (omega (arith, ge)) h.1)

-- operands that rise from a variable on
abbrev pub Rising : ℕ → List Operand → Type 0
Rising low [] = Unit {0}
Rising low (Var x ∷ ops) = (low ≤ x.0) × Rising (suc x.0) ops
Rising low (Const c ∷ ops) = ⊥

rising_later : (a b : ℕ) (ops : List Operand) → b ≤ a → Rising a ops → Rising b ops
rising_later a b [] le h = tt
rising_later a b (Var x ∷ ops) le h = (omega (arith, h.0, le), h.1)
rising_later a b (Const c ∷ ops) le h = absurd h

rising_not : (x low : ℕ) (ops : List Operand) → x < low → Rising low ops → AreNot x ops
rising_not x low [] lt h = tt
rising_not x low (Var y ∷ ops) lt h = ((λ e. omega (arith, e, h.0, lt)), rising_not x (suc y.0) ops (omega (arith, h.0, lt)) h.1)
rising_not x low (Const c ∷ ops) lt h = absurd h

-- moves in order from the least of them on read no variable that an earlier one has written
pub rising_fresh : (first low : ℕ) (ops : List Operand) → first ≤ low → Rising low ops → Fresh first ops
rising_fresh first low [] le h = tt
rising_fresh first low (Var x ∷ ops) le h = (rising_not first (suc x.0) ops (omega (arith, le, h.0)) h.1, rising_fresh (suc first) (suc x.0) ops (omega (arith, le, h.0)) h.1)
rising_fresh first low (Const c ∷ ops) le h = absurd h

rising_pad : (n low next : ℕ) (stack acc : List Operand) → n ≤ length stack → low ≤ next → Below next stack → AtLeast low stack → Rising next acc → Rising low (reverse (pad n stack) ++ acc)
rising_pad zero low next stack acc le from h g rest = rising_later next low acc from rest
rising_pad (suc n) low next [] acc le from h g rest = absurd (omega (arith, le))
rising_pad (suc n) low next (Var x ∷ stack) acc le from h g rest =
    subst (Rising low) (sym (reverse_step (Var x) (pad n stack) acc))
    (rising_pad n low x.0 stack (Var x ∷ acc) (omega (arith, le)) g.0 h.1 g.1 (omega arith, rising_later next (suc x.0) acc (omega (arith, h.0)) rest))
rising_pad (suc n) low next (Const c ∷ stack) acc le from h g rest = absurd h

-- the moves of a construct's results
pub avoids_fresh : (t : Target) (stack : List Operand) → AllAvoid t stack → Fresh t.first (reverse (pad t.arity stack))
avoids_fresh t stack h = outside_fresh t.first (t.first + t.arity) t.first (reverse (pad t.arity stack)) (omega arith) (omega (arith, padded_length t.arity stack))
    (subst (AllOutside t.first (t.first + t.arity)) (append-nil (reverse (pad t.arity stack))) (outside_pad t.first (t.first + t.arity) t.arity stack [] (out stack h) tt))
  where
    out : (stack : List Operand) → AllAvoid t stack → AllOutside t.first (t.first + t.arity) stack
    out [] h = tt
    out (Var x ∷ stack) h = (h.0.0, out stack h.1)
    out (Const c ∷ stack) h = (tt, out stack h.1)

-- the moves of a branch
pub branch_fresh : (t : Target) (stack : List Operand) (next : ℕ) → taken t ≤ length stack → Below next stack → lowest t.kind ≤ next → AllAvoid t stack → Fresh (first_to t) (reverse (pad (taken t) stack))
branch_fresh t stack next enough below low h = by_kind t.kind refl
  where
    least : (first : ℕ) (stack : List Operand) → lowest t.kind ≡ first → AllAvoid t stack → AtLeast first stack
    least first [] e h = tt
    least first (Var x ∷ stack) e h = (omega (arith, e, h.0.1), least first stack e h.1)
    least first (Const c ∷ stack) e h = least first stack e h.1

    by_kind : (kind : Kind) → t.kind ≡ kind → Fresh (first_to t) (reverse (pad (taken t) stack))
    by_kind whole e = subst (λ k. Fresh (first_to (record t { kind = k })) (reverse (pad (taken (record t { kind = k })) stack))) (sym e) (avoids_fresh t stack h)
    by_kind (part second operands) e = subst (λ k. Fresh (first_to (record t { kind = k })) (reverse (pad (taken (record t { kind = k })) stack))) (sym e) (avoids_fresh t stack h)
    by_kind (again start params first) e =
        subst (λ k. Fresh (first_to (record t { kind = k })) (reverse (pad (taken (record t { kind = k })) stack))) (sym e)
        (rising_fresh first first (reverse (pad params stack)) (omega arith)
        (subst (Rising first) (append-nil (reverse (pad params stack)))
        (rising_pad params first next stack [] (omega (arith, enough, ap (λ k. taken (record t { kind = k })) e)) (omega (arith, low, ap lowest e)) below (least first stack (ap lowest e) h) tt)))

-- moves to variables above all operands
pub new_fresh : (n next : ℕ) (stack : List Operand) → Below next stack → Fresh next (reverse (pad n stack))
new_fresh n next stack h = outside_fresh next (next + n) next (reverse (pad n stack)) (omega arith) (omega (arith, padded_length n stack))
    (subst (AllOutside next (next + n)) (append-nil (reverse (pad n stack))) (outside_pad next (next + n) n stack [] (go next stack h (omega arith)) tt))
  where
    go : (top : ℕ) (stack : List Operand) → Below top stack → top ≤ next → AllOutside next (next + n) stack
    go top [] h le = tt
    go top (Var x ∷ stack) h le = (inl (omega (arith, h.0, le)), go x.0 stack h.1 (omega (arith, h.0, le)))
    go top (Const c ∷ stack) h le = absurd h

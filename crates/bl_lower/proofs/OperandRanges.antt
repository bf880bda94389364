-- Operands that are variables from one on and below another, or constants.
use Rattle.std.proofs.Common.{ℕ, zero, suc, ◌+◌, ◌<◌, ◌≤◌, List, [], ◌∷◌, ◌++◌, take, drop, reverse, sym, subst, arith}
use Rattle.std.proofs.lemmas.List.{append-nil}
use Rattle.bl_program.specs.declared.command.Operand.{Operand}
use Rattle.bl_program.specs.declared.command.Operand.TheVariants.{Var, Const}
use Rattle.bl_access.specs.Templates.{variable}
use Rattle.bl_emit.specs.Constructs.{pad, reads, top}
use Rattle.bl_emit.specs.Items.{left, right}
use Rattle.bl_lower.proofs.OperandOrder.{reverse_step}

module _ (low : ℕ) where
  abbrev pub Ranged : ℕ → Operand → Type 0
  Ranged next (Var x) = (low ≤ x.0) × (x.0 < next)
  Ranged next (Const c) = Unit {0}

  abbrev pub AllRanged : ℕ → List Operand → Type 0
  AllRanged next [] = Unit {0}
  AllRanged next (a ∷ stack) = Ranged next a × AllRanged next stack

  one_later : (a b : ℕ) (x : Operand) → a ≤ b → Ranged a x → Ranged b x
  one_later a b (Var x) le h = (h.0, omega (arith, h.1, le))
  one_later a b (Const c) le h = h

  pub ranged_later : (a b : ℕ) (stack : List Operand) → a ≤ b → AllRanged a stack → AllRanged b stack
  ranged_later a b [] le h = tt
  ranged_later a b (x ∷ stack) le h = (one_later a b x le h.0, ranged_later a b stack le h.1)

  pub ranged_tail : (n next : ℕ) (stack : List Operand) → AllRanged next stack → AllRanged next (drop n stack)
  ranged_tail zero next stack h = h
  ranged_tail (suc n) next [] h = tt
  ranged_tail (suc n) next (x ∷ stack) h = ranged_tail n next stack h.1

  pub ranged_front : (n next : ℕ) (stack : List Operand) → AllRanged next stack → AllRanged next (take n stack)
  ranged_front zero next stack h = tt
  ranged_front (suc n) next [] h = tt
  ranged_front (suc n) next (x ∷ stack) h = (h.0, ranged_front n next stack h.1)

  pub ranged_top : (next : ℕ) (stack : List Operand) → AllRanged next stack → Ranged next (top stack)
  ranged_top next [] h = tt
  ranged_top next (x ∷ stack) h = h.0

  pub ranged_left : (n next : ℕ) (stack : List Operand) → AllRanged next stack → Ranged next (left n stack)
  ranged_left zero next stack h = ranged_top next stack h
  ranged_left (suc zero) next stack h = ranged_top next stack h
  ranged_left (suc (suc n)) next stack h = ranged_top next (drop 1 stack) (ranged_tail 1 next stack h)

  pub ranged_right : (n next : ℕ) (stack : List Operand) → AllRanged next stack → Ranged next (right n stack)
  ranged_right zero next stack h = tt
  ranged_right (suc zero) next stack h = tt
  ranged_right (suc (suc n)) next stack h = ranged_top next stack h

  -- new variables on a stack
  pub ranged_reads : (next count first : ℕ) (acc : List Operand) → low ≤ first → first + count ≤ next → AllRanged next acc → AllRanged next (reverse (reads first count) ++ acc)
  ranged_reads next zero first acc le most h = h
  ranged_reads next (suc count) first acc le most h =
      subst (AllRanged next) (sym (reverse_step (variable first) (reads (suc first) count) acc))
      (ranged_reads next count (suc first) (variable first ∷ acc) (omega (arith, le)) (omega (arith, most)) ((le, omega (arith, most)), h))

  pub ranged_new : (next count first : ℕ) → low ≤ first → first + count ≤ next → AllRanged next (reverse (reads first count))
  ranged_new next count first le most = subst (AllRanged next) (append-nil (reverse (reads first count))) (ranged_reads next count first [] le most tt)

  pad_onto : (next n : ℕ) (stack acc : List Operand) → AllRanged next stack → AllRanged next acc → AllRanged next (reverse (pad n stack) ++ acc)
  pad_onto next zero stack acc h g = g
  pad_onto next (suc n) [] acc h g = subst (AllRanged next) (sym (reverse_step (Const 0) (pad n []) acc)) (pad_onto next n [] (Const 0 ∷ acc) tt (tt, g))
  pad_onto next (suc n) (x ∷ stack) acc h g = subst (AllRanged next) (sym (reverse_step x (pad n stack) acc)) (pad_onto next n stack (x ∷ acc) h.1 (h.0, g))

  pub ranged_pad : (next n : ℕ) (stack : List Operand) → AllRanged next stack → AllRanged next (reverse (pad n stack))
  ranged_pad next n stack h = subst (AllRanged next) (append-nil (reverse (pad n stack))) (pad_onto next n stack [] h tt)

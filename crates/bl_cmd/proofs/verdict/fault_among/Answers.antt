use Rattle.std.proofs.Common.{◌≡◌, ℕ, inl, inr, subst, length, arith}
use Rattle.std.proofs.lemmas.Bool.{cases_lt}
use Rattle.bl_cmd.specs.Verdicts.{KeepsBelow}
use Rattle.bl_cmd.proofs.verdict.fault_among.Goals as goal

pub loop-function-init : goal.loop-function-init
loop-function-init c = λ other lt. absurd (omega arith)

pub loop-function-preserved : goal.loop-function-preserved
loop-function-preserved c = λ other lt. elim (cases_lt other c.loop-function.function) as (λ _. KeepsBelow c.args.parts.now other (length c.args.parts.now.commands)) [
  | inl less ↦ c.loop-function.invariant other less
  | inr more ↦
      let same : c.loop-function.function ≡ other = omega arith in
      subst (λ (f : ℕ). KeepsBelow c.args.parts.now f (length c.args.parts.now.commands)) same c.in_default.ensures
]

pub returns-in-Some : goal.returns-in-Some
returns-in-Some c = record { function = c.loop-function.function; fault = c.in-Some.ensures; before = c.loop-function.invariant }

pub returns : goal.returns
returns c = λ function exists. c.loop-function.invariant function (omega arith)

use Rattle.std.proofs.Common.{◌≡◌, inl, inr, subst, arith}
use Rattle.std.proofs.lemmas.Bool.{cases_lt}
use Rattle.bl_program.specs.Programs.{IsTrapAt}
use Rattle.bl_program.proofs.program.have_traps.Goals as goal

pub loop-position-preserved : goal.loop-position-preserved
loop-position-preserved c = λ position lt. elim (cases_lt position c.loop-position.position) as (λ _. IsTrapAt c.args.commands.now position) [
  | inl less ↦ c.loop-position.invariant position less
  | inr more ↦
      let same : c.loop-position.position ≡ position = omega arith in
      subst (IsTrapAt c.args.commands.now) same (c.is_trap_at.ensures.0 c.if-not-is_trap_at.false)
]

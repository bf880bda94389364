-- On one side of an interface there is one least choice and one verdict.
use Rattle.std.proofs.Common.{◌≡◌, ℕ, ◌≤◌, Bool, ap, refl, arith}
use Rattle.bl_base.specs.declared.number.Pos.{Pos}
use Rattle.bl_base.specs.declared.names.Role.{Role}
use Rattle.bl_program.specs.declared.definitions.ProgramParts.{ProgramParts as Program}
use Rattle.bl_iface.specs.RoleTests.{IsFirstGiven, JudgesAs, asked}
use Rattle.bl_iface.specs.declared.iface.Iface.{Iface}
use Rattle.bl_iface.specs.declared.verdict.UnderVerdict.{UnderVerdict}
use Rattle.bl_iface.specs.declared.verdict.UnderVerdict.TheVariants.{Yes, No}

-- positions of one number are one
same_place : (p q : Pos) → p.0 ≡ q.0 → p ≡ q
same_place p q e = ap (λ n. record { 0 = n }) e

module _ (role : Role) (iface : Iface) (program : Program) where
  pub one_given : (one other : ℕ) → IsFirstGiven (asked role iface program) program one → IsFirstGiven (asked role iface program) program other → one ≡ other
  one_given one other a b = let low = a.least other b.given in let high = b.least one a.given in omega arith

  pub one_verdict : (set : ℕ → Bool) (one other : UnderVerdict) → JudgesAs role iface program set one → JudgesAs role iface program set other → one ≡ other
  one_verdict set Yes Yes a b = refl
  one_verdict set Yes (No q) a b = absurd (b.0 a)
  one_verdict set (No p) Yes a b = absurd (a.0 b)
  one_verdict set (No p) (No q) a b =
      let low : p.0 ≤ q.0 = a.1.least q.0 b.1.bad in
      let high : q.0 ≤ p.0 = b.1.least p.0 a.1.bad in
      ap No (same_place p q (omega arith))

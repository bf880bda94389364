use Rattle.std.proofs.Common.{◌≡◌, ℕ, Bool, ap, subst, ◌∙◌}
use Rattle.std.specs.FinSet as fin
use Rattle.bl_program.specs.Sites.{is_protected}
use Rattle.bl_transient.specs.Verdicts.{JudgesUnder, asked_of}
use Rattle.bl_iface.proofs.SideLemmas.{fails_as, passes_as}
use Rattle.bl_iface.proofs.verdict.passes_under.Goals as goal

pub returns-in-None : goal.returns-in-None
returns-in-None c =
    let set : ℕ → Bool = fin.contains c.in_ok-protects.protects in
    let same : (s : ℕ) → set s ≡ is_protected c.args.program.now s =
    λ s. c.in_ok-protects.ensures s ∙ ap (λ p. is_protected p s) (c.parts-parts.ensures.same ∙ c.program.ensures.same) in
    passes_as c.args.role c.args.iface.now c.args.program.now c.in_ok-asked.asked c.in_ok-asked.ensures.asked set (is_protected c.args.program.now) same
    (subst (JudgesUnder (asked_of c.in_ok-asked.asked) c.args.program.now set) c.in-None.is c.in_ok-bad.ensures)

pub returns : goal.returns
returns c =
    let set : ℕ → Bool = fin.contains c.in_ok-protects.protects in
    let same : (s : ℕ) → set s ≡ is_protected c.args.program.now s =
    λ s. c.in_ok-protects.ensures s ∙ ap (λ p. is_protected p s) (c.parts-parts.ensures.same ∙ c.program.ensures.same) in
    fails_as c.args.role c.args.iface.now c.args.program.now c.in_ok-asked.asked c.in_ok-asked.ensures.asked set (is_protected c.args.program.now) same c.in-Some.position.0
    (subst (JudgesUnder (asked_of c.in_ok-asked.asked) c.args.program.now set) c.in-Some.is c.in_ok-bad.ensures)

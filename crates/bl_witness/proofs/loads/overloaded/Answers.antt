use Rattle.std.proofs.Common.{◌≡◌, ◌<◌, ◌≤◌, ◌∙◌, Some, slice_index, arith, subst, sym, inl, inr}
use Rattle.std.proofs.lemmas.Bool.{cases_lt, false≢true}
use Rattle.bl_program.specs.Sites.{site_weight}
use Rattle.bl_witness.proofs.loads.overloaded.Goals as goal

pub loop-at-preserved : goal.loop-at-preserved
loop-at-preserved c = λ s w lt e.
    let loop = c.loop-at in
    elim (cases_lt s loop.at) as (λ _. slice_index c.args.loads.now s ≤ w) [
      | inl less ↦ loop.invariant s w less e
      | inr past ↦
          let same : s ≡ loop.at = omega arith in
          elim (cases_lt w (slice_index c.args.loads.now s)) as (λ _. slice_index c.args.loads.now s ≤ w) [
            | inl above ↦ absurd (false≢true (sym c.if-is_overloaded.false ∙ c.is_overloaded.ensures.1
                (w, subst (λ k. site_weight c.args.program.now k ≡ Some w) same e, subst (λ k. w < slice_index c.args.loads.now k) same above)))
            | inr below ↦ below
          ]
    ]

-- From an image on: what is refused first, or what all stages pass on.
use Rattle.std.proofs.Common.{Result, Err}
use Rattle.bl_job.specs.Refusals.{Refusal}
use Rattle.bl_job.specs.Stages.{Stage, ThenRefuses, at_first, at_second, chain}
use Rattle.bl_job.specs.WorkAnswers.{IsStaged, Tells}
use Rattle.bl_job.specs.declared.refusal.WorkError.{WorkError}
use Rattle.bl_job.proofs.StageLemmas.{tells_on}
use Rattle.bl_build.proofs.BuildLemmas.{staged_behind}

-- what the first of two stages refuses
module _ {A B C X : Type 0} (first : Stage A B) (second : Stage B C) (value : X → C) (a : A) where
  pub staged_first : (e : WorkError) → Tells (first.Refuses a) e → IsStaged (chain first second) value a (Err e)
  staged_first = tells_on (first.Refuses a) (ThenRefuses first second a) (λ refusal r. at_first r)

-- two stages, and then a third one
module _ {A B C D X : Type 0} (first : Stage A B) (second : Stage B C) (third : Stage C D) (value : X → D) (a : A) where
  refused_still : (refusal : Refusal) → ThenRefuses first second a refusal → ThenRefuses first (chain second third) a refusal
  refused_still refusal (at_first r) = at_first r
  refused_still refusal (at_second b passes r) = at_second b passes (at_first r)

  -- what the two refuse
  pub refused_before : (e : WorkError) → Tells ((chain first second).Refuses a) e → IsStaged (chain first (chain second third)) value a (Err e)
  refused_before = tells_on (ThenRefuses first second a) (ThenRefuses first (chain second third) a) refused_still

  -- what comes of a value that they pass on
  pub staged_after : (c : C) (result : Result X WorkError) → (chain first second).Passes a c → IsStaged third value c result → IsStaged (chain first (chain second third)) value a result
  staged_after c result passes h =
      staged_behind first (chain second third) value a passes.0 result passes.1 (staged_behind second third value passes.0 c result passes.2 h)

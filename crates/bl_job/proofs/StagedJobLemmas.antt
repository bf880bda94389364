-- Commands over a stage are lawful and total where their stages are; what is said where one was done.
use Rattle.std.proofs.Common.{◌≡◌, ℕ, List, [], ◌∷◌, subst, sym}
use Rattle.std.specs.List.{AllByRecursion}
use Rattle.std.proofs.lemmas.List.Elements.{All-tail}
use Rattle.bl_base.specs.Fits.{AreBytes}
use Rattle.bl_job.specs.Refusals.{Refusal}
use Rattle.bl_job.specs.Stages.{IsLawfulStage, Stage}
use Rattle.bl_job.specs.Jobs.{AreThere, IsLawful, IsSmall, IsTotal, KeepsNamed, Plan, Read}
use Rattle.bl_job.specs.StagedJobs.{DeedMeans, Stand, WasDone, ReadPasses, ReadRefuses, Reading, Staged, all_read, others, contents_stage, file, staged_job}
use Rattle.bl_job.specs.Status.{kind_of, of_deed}
use Rattle.bl_job.specs.Worlds.{World}
use Rattle.bl_job.proofs.KeptFiles.{all_stand}
use Rattle.bl_job.specs.declared.status.Status.{Status}

-- ---- stages on contents

-- a stage passes something on of a value, or refuses it: it can't be that neither is so
abbrev pub Answers : {A B : Type 0} → Stage A B → A → Type 0
Answers {B = B} stage a = ((b : B) → stage.Passes a b → ⊥) → ((refusal : Refusal) → stage.Refuses a refusal → ⊥) → ⊥

module _ {B : Type 0} where
  -- the stage behind all files is lawful, whatever their bytes
  abbrev pub IsReadLawfully : Reading B → Type 0
  IsReadLawfully (file next) = (bytes : List ℕ) → IsReadLawfully (next bytes)
  IsReadLawfully (all_read stage a) = IsLawfulStage stage
  IsReadLawfully (others stage given) = IsLawfulStage stage

  pub read_result : (reading : Reading B) → IsReadLawfully reading → (contents : List (List ℕ)) (b c : B) → ReadPasses reading contents b → ReadPasses reading contents c → b ≡ c
  read_result (file next) laws [] b c p q = absurd p
  read_result (file next) laws (bytes ∷ contents) b c p q = read_result (next bytes) (laws bytes) contents b c p q
  read_result (all_read stage a) laws [] b c p q = laws.one_result a b c p q
  read_result (all_read stage a) laws (bytes ∷ contents) b c p q = absurd p
  read_result (others stage given) laws contents b c p q = laws.one_result (given contents) b c p q

  read_refusal : (reading : Reading B) → IsReadLawfully reading → (contents : List (List ℕ)) (r s : Refusal) → ReadRefuses reading contents r → ReadRefuses reading contents s → r ≡ s
  read_refusal (file next) laws [] r s h k = absurd h
  read_refusal (file next) laws (bytes ∷ contents) r s h k = read_refusal (next bytes) (laws bytes) contents r s h k
  read_refusal (all_read stage a) laws [] r s h k = laws.one_refusal a r s h k
  read_refusal (all_read stage a) laws (bytes ∷ contents) r s h k = absurd h
  read_refusal (others stage given) laws contents r s h k = laws.one_refusal (given contents) r s h k

  read_not_both : (reading : Reading B) → IsReadLawfully reading → (contents : List (List ℕ)) (b : B) (r : Refusal) → ReadPasses reading contents b → ReadRefuses reading contents r → ⊥
  read_not_both (file next) laws [] b r p h = p
  read_not_both (file next) laws (bytes ∷ contents) b r p h = read_not_both (next bytes) (laws bytes) contents b r p h
  read_not_both (all_read stage a) laws [] b r p h = laws.not_both a b r p h
  read_not_both (all_read stage a) laws (bytes ∷ contents) b r p h = p
  read_not_both (others stage given) laws contents b r p h = laws.not_both (given contents) b r p h

  -- of contents that are there, as many as the reads, it passes something on or refuses them
  abbrev pub IsReadTotally : Reading B → List Read → Type 0
  IsReadTotally (file next) [] = ⊥
  IsReadTotally (file next) (read ∷ reads) = (bytes : List ℕ) → IsReadTotally (next bytes) reads
  IsReadTotally (all_read stage a) [] = Answers stage a
  IsReadTotally (all_read stage a) (read ∷ reads) = ⊥
  IsReadTotally (others stage given) reads = (contents : List (List ℕ)) → AreThere reads contents → Answers stage (given contents)

  read_always : (reading : Reading B) (reads : List Read) → IsReadTotally reading reads → (contents : List (List ℕ)) → AreThere reads contents → Answers (contents_stage reading) contents
  read_always (file next) [] total contents there = absurd total
  read_always (file next) (read ∷ reads) total [] there = absurd there.read
  read_always (file next) (read ∷ reads) total (bytes ∷ contents) there =
      read_always (next bytes) reads (total bytes) contents (record { read = there.read.1; bytes = All-tail AreBytes bytes contents there.bytes })
  read_always (all_read stage a) [] total [] there = total
  read_always (all_read stage a) [] total (bytes ∷ contents) there = absurd there.read
  read_always (all_read stage a) (read ∷ reads) total contents there = absurd total
  read_always (others stage given) reads total contents there = total contents there

  -- what is known of all that it passes on, and of the contents that it is made of
  abbrev pub AllMade : Reading B → (List (List ℕ) → B → Type 0) → Type 0
  AllMade (file next) P = (bytes : List ℕ) → AllMade (next bytes) (λ contents. P (bytes ∷ contents))
  AllMade (all_read stage a) P = (b : B) → stage.Passes a b → P [] b
  AllMade (others stage given) P = (contents : List (List ℕ)) (b : B) → stage.Passes (given contents) b → P contents b

  made : (reading : Reading B) (P : List (List ℕ) → B → Type 0) → AllMade reading P → (contents : List (List ℕ)) (b : B) → ReadPasses reading contents b → P contents b
  made (file next) P facts [] b p = absurd p
  made (file next) P facts (bytes ∷ contents) b p = made (next bytes) (λ contents. P (bytes ∷ contents)) (facts bytes) contents b p
  made (all_read stage a) P facts [] b p = facts b p
  made (all_read stage a) P facts (bytes ∷ contents) b p = absurd p
  made (others stage given) P facts contents b p = facts contents b p

-- ---- commands

-- what makes a command over a stage lawful, and total where something is given: a shelf may be asked for its files; its stage is, and what it plans has one status, of a deed, keeps the
-- files that are named, or none, and means what is said; and there is a plan for all that is made
pub record IsStagedCommand {B : Type 0} (Given : Type 0) (staged : Staged B) : Type 0 where
  pub small : AllByRecursion IsSmall staged.reads
  pub lawful : IsReadLawfully staged.reading
  pub total : Given → IsReadTotally staged.reading staged.reads
  pub one_status : (made : B) (p q : Plan) → staged.Plans made p → staged.Plans made q → p.status ≡ q.status
  pub status_of_deed : (made : B) (plan : Plan) → staged.Plans made plan → kind_of plan.status ≡ of_deed
  pub keeps_named : (made : B) (plan : Plan) → staged.Plans made plan → KeepsNamed staged.keeps plan.keeps
  pub means : AllMade staged.reading (λ contents made. (plan : Plan) → staged.Plans made plan → staged.Means contents made plan)
  pub planned : AllMade staged.reading (λ contents made. ((plan : Plan) → staged.Plans made plan → ⊥) → ⊥)

module _ {B Given : Type 0} (staged : Staged B) (laws : IsStagedCommand Given staged) where
  -- what is planned on contents is planned for one thing
  for_one : (contents : List (List ℕ)) (p q : Plan) → (h : (staged_job staged).Does contents p) → (k : (staged_job staged).Does contents q) → staged.Plans k.made p
  for_one contents p q h k = subst (λ b. staged.Plans b p) (read_result staged.reading laws.lawful contents h.made k.made h.passes k.passes) h.plans

  pub staged_lawful : IsLawful (staged_job staged)
  staged_lawful = record {
    one_refusal = read_refusal staged.reading laws.lawful;
    none_beside_a_deed = λ contents refusal plan refuses h. read_not_both staged.reading laws.lawful contents h.made refusal h.passes refuses;
    one_status = λ contents p q h k. laws.one_status k.made p q (for_one contents p q h k) k.plans;
    status_of_deed = λ contents plan h. laws.status_of_deed h.made plan h.plans;
    keeps_named = λ contents plan h. laws.keeps_named h.made plan h.plans;
  }

  -- where what is made has one plan, contents have
  pub one_done : ((made : B) (p q : Plan) → staged.Plans made p → staged.Plans made q → p ≡ q) → (contents : List (List ℕ)) (p q : Plan) → (staged_job staged).Does contents p → (staged_job staged).Does contents q → p ≡ q
  one_done one contents p q h k = one k.made p q (for_one contents p q h k) k.plans

  pub staged_total : Given → IsTotal (staged_job staged)
  staged_total given = record {
    always = λ contents there refused done.
        read_always staged.reading staged.reads (laws.total given) contents there
        (λ b passes. made staged.reading (λ contents b. ((plan : Plan) → staged.Plans b plan → ⊥) → ⊥) laws.planned contents b passes (λ plan plans. done plan (record { made = b; passes = passes; plans = plans }))) refused;
  }

  -- what is said where the job was done
  pub deed_means : (old new : World) (status : Status) → WasDone (staged_job staged) old new status → DeedMeans staged old new status
  deed_means old new status d = record {
    done = d;
    means = made staged.reading (λ contents b. (plan : Plan) → staged.Plans b plan → staged.Means contents b plan) laws.means d.contents d.does.made d.does.passes d.plan d.does.plans;
    stand = subst (λ files. Stand files d.plan.keeps) (sym d.kept) (all_stand old.files d.plan.keeps);
  }

-- How a request is carried out: by what was fetched, and what its work gave.
use Rattle.std.proofs.Common.{◌≡◌, ℕ, List, Option, Some, None, refl, ◌∙◌, subst}
use Rattle.bl_outside.specs.Shelf.{Files}
use Rattle.bl_job.specs.Ends.{Delivers, Ends, all_kept, as_planned, done, no_memory, not_read, refused}
use Rattle.bl_job.specs.Jobs.{AreRead, FirstRefusal, Job, Plan, Read, against, saying, too_long}
use Rattle.bl_job.specs.Refusals.{Refusal}
use Rattle.bl_job.specs.Status.{status_of}
use Rattle.bl_job.specs.Texts.{refusal_text}
use Rattle.bl_job.specs.WorkAnswers.{IsSaid, IsTold, NotFetched, Tells, failed, no_memory_to_fetch, refusal_in, refused as length_refused}
use Rattle.bl_job.specs.Worlds.{Said, SaidIfRoom, Stream, Unchanged, World, is_said, no_memory_to_say}
use Rattle.bl_job.specs.declared.refusal.WorkError.{WorkError}
use Rattle.bl_job.specs.declared.refusal.WorkError.TheVariants as error
use Rattle.bl_job.specs.declared.status.Status.{Status}
use Rattle.bl_job.specs.declared.status.Status.TheVariants.{Refused}
use Rattle.bl_job.proofs.FetchLemmas.{same_world}
use Rattle.bl_job.proofs.JobLemmas.{lengths_fit}

-- what is said of an error that is that refusal
pub told_said : (refusal : Refusal) (e : WorkError) (old new : Stream) (status : Status) → IsTold (Some refusal) e → IsSaid e old new status
    → SaidIfRoom (refusal_text refusal) (status_of refusal) old new status
told_said refusal (error.Refused other) old new status told said = is_said (subst (λ r. Said (refusal_text r) (status_of r) old new status) told said)
told_said refusal error.Memory old new status told said = no_memory_to_say said.0 said.1

module _ {Request : Type 0} (job_of : Request → Job) (request : Request) (new : World) (status : Status) where
  -- an error is the first
  pub refused_ends : (old : World) (refusal : Refusal) → FirstRefusal (job_of request) old.files refusal → new.files ≡ old.files → new.faults ≡ old.faults
      → SaidIfRoom (refusal_text refusal) (status_of refusal) old.sink new.sink status → Ends job_of (Some request) old new status
  refused_ends old refusal first files faults (is_said s) = as_planned (saying (status_of refusal) (refusal_text refusal)) (refused request refusal refl first) (all_kept files faults s)
  refused_ends old refusal first files faults (no_memory_to_say sink e) = no_memory (record { files = files; faults = faults; sink = sink }) e

  not_fetched : (old : World) → NotFetched (job_of request).reads old new status → Ends job_of (Some request) old new status
  not_fetched old (failed name is fails files said) = not_read request name refl is fails files said
  not_fetched old (length_refused refusal is same said) = refused_ends old refusal (too_long is) same.files same.faults said
  not_fetched old (no_memory_to_fetch u e) = no_memory u e

  pub unfetched_ends : (old : World) (reads : List Read) → reads ≡ (job_of request).reads → NotFetched reads old new status → Ends job_of (Some request) old new status
  unfetched_ends old reads same n = not_fetched old (subst (λ r. NotFetched r old new status) same n)

  -- all files were fetched, and nothing is changed
  module _ (old mid : World) (reads : List Read) (contents : List (List ℕ)) (same : reads ≡ (job_of request).reads) (u : Unchanged old mid) (read : AreRead old.files reads contents) where
    abbrev is_read : AreRead old.files (job_of request).reads contents
    is_read = subst (λ r. AreRead old.files r contents) same read

    at_entry : (P : World → Type 0) → P mid → P old
    at_entry P p = subst P (same_world old mid u) p

    pub done_ends : (plan : Plan) → (job_of request).Does contents plan → Delivers plan mid new status → Ends job_of (Some request) old new status
    done_ends plan does d = as_planned plan (done request contents plan refl is_read does) (at_entry (λ w. Delivers plan w new status) d)

    pub error_ends : (e : WorkError) → Tells ((job_of request).Against contents) e → new.files ≡ mid.files → new.faults ≡ mid.faults → IsSaid e mid.sink new.sink status
        → Ends job_of (Some request) old new status
    error_ends (error.Refused refusal) is files faults said =
        refused_ends old (refusal_in refusal) (against contents is_read is) (files ∙ u.files) (faults ∙ u.faults)
        (is_said (subst (λ s. Said refusal.line.items (Refused refusal.reason) s new.sink status) u.sink said))
    error_ends error.Memory is files faults said = no_memory (record { files = files ∙ u.files; faults = faults ∙ u.faults; sink = said.0 ∙ u.sink }) said.1

-- what was read fits the reads of the job
pub contents_fit : (job : Job) (files : Option Files) (reads : List Read) (contents : List (List ℕ)) → reads ≡ job.reads → AreRead files reads contents → AreRead None job.reads contents
contents_fit job files reads contents same read = lengths_fit files job.reads contents (subst (λ r. AreRead files r contents) same read)

-- an end of a call that is asked for what another one is
pub ends_asked : {Request : Type 0} (job_of : Request → Job) (old new : World) (status : Status) (asked other : Option Request) → other ≡ asked → Ends job_of other old new status → Ends job_of asked old new status
ends_asked job_of old new status asked other same ends = subst (λ a. Ends job_of a old new status) same ends

-- What a caller can rely on of each status.
use Rattle.std.specs.Prelude.{◌≡◌, ℕ, List, Option, Some, None, ◌⊎◌, Contains}
use Rattle.bl_outside.specs.Faults.{Rose}
use Rattle.bl_outside.specs.Shelf.{Files, ReadFails, WriteFails}
use Rattle.bl_job.specs.Jobs.{AreRead, FirstRefusal, Job, Plan, ReadsName}
use Rattle.bl_job.specs.Refusals.{Refusal}
use Rattle.bl_job.specs.Status.{kind_of, of_deed, of_refusal, status_of}
use Rattle.bl_job.specs.Texts.{read_fault_text, write_fault_text, refusal_text}
use Rattle.bl_job.specs.Worlds.{World, took, with_files}
use Rattle.bl_job.specs.declared.status.Status.{Status}
use Rattle.bl_job.specs.declared.status.Status.TheVariants.{Memory, ReadFault, Usage, WriteFault}

-- the status is the one that is meant; or it is that of a fault of reading or writing, or of want of memory
abbrev pub UnlessFault : Status → Status → Type 0
UnlessFault meant status = (status ≡ meant) ⊎ ((status ≡ ReadFault) ⊎ ((status ≡ WriteFault) ⊎ (status ≡ Memory)))

-- no count of faults rose
pub record NoneRose (old new : World) : Type 0 where
  pub reads : Rose old.faults.reads new.faults.reads → ⊥
  pub writes : Rose old.faults.writes new.faults.writes → ⊥
  pub sink : Rose old.sink.faults new.sink.faults → ⊥

-- no count of faults is changed
pub record NoFault (old new : World) : Type 0 where
  pub shelf : new.faults ≡ old.faults
  pub sink : new.sink.faults ≡ old.sink.faults

-- for requests of any kind, each with its job
module _ {Request : Type 0} (job_of : Request → Job) where
  -- a request is refused by the first error in the order of work; the status is that of the refusal, its line was printed, and no
  -- file is changed
  pub record IsRefused (asked : Option Request) (old new : World) (status : Status) : Type 0 where
    pub request : Request
    pub refusal : Refusal
    pub is_request : asked ≡ Some request
    pub first : FirstRefusal (job_of request) old.files refusal
    pub meant : status ≡ status_of refusal
    pub printed : new.sink.taken ≡ took old.sink.taken (refusal_text refusal)
    pub unchanged : new.files ≡ old.files

  -- the job of a request was done: the files were read, what is done with their contents was kept, and nothing else is changed; its
  -- text was printed
  pub record IsDone (asked : Option Request) (old new : World) (status : Status) : Type 0 where
    pub request : Request
    pub contents : List (List ℕ)
    pub plan : Plan
    pub is_request : asked ≡ Some request
    pub read : AreRead old.files (job_of request).reads contents
    pub does : (job_of request).Does contents plan
    pub meant : status ≡ plan.status
    pub kept : new.files ≡ with_files old.files plan.keeps
    pub printed : new.sink.taken ≡ took old.sink.taken plan.text

  -- a file could not be read whose name the request reads, and a line with its name was printed
  pub record IsReadFault (asked : Option Request) (old new : World) : Type 0 where
    pub request : Request
    pub is_request : asked ≡ Some request
    pub is_read : ReadsName old.files (job_of request).reads new.faults.last
    pub fails : ReadFails old.faults new.faults new.faults.last
    pub printed : new.sink.taken ≡ took old.sink.taken (read_fault_text new.faults.last)

  -- a file could not be kept whose name the request keeps, and a line with its name was printed
  pub record IsKeepFault (asked : Option Request) (old new : World) : Type 0 where
    pub request : Request
    pub is_request : asked ≡ Some request
    pub is_kept : Contains (job_of request).keeps new.faults.last
    pub fails : WriteFails old.faults new.faults new.faults.last
    pub printed : new.sink.taken ≡ took old.sink.taken (write_fault_text new.faults.last)

  -- what each status says, and when it comes
  pub record Causes (asked : Option Request) (old new : World) (status : Status) : Type 0 where
    -- usage exactly where there is no request
    pub usage_only : status ≡ Usage → asked ≡ None
    pub usage : asked ≡ None → UnlessFault Usage status
    -- the status of a refusal exactly where that is the first error in the order of work
    pub refused_only : kind_of status ≡ of_refusal → IsRefused asked old new status
    pub refused : (files : Files) (request : Request) (refusal : Refusal) → old.files ≡ Some files → asked ≡ Some request
        → FirstRefusal (job_of request) old.files refusal
        → UnlessFault (status_of refusal) status
    -- the status of what is done exactly where that is done
    pub done_only : kind_of status ≡ of_deed → IsDone asked old new status
    pub done : (files : Files) (request : Request) (contents : List (List ℕ)) (plan : Plan) → old.files ≡ Some files → asked ≡ Some request
        → AreRead old.files (job_of request).reads contents → (job_of request).Does contents plan → UnlessFault plan.status status
    -- a fault only with one of the shelf or of the sink
    pub read_fault : status ≡ ReadFault → IsReadFault asked old new
    pub write_fault : status ≡ WriteFault → Rose old.sink.faults new.sink.faults ⊎ IsKeepFault asked old new
    -- with any status but those of faults and of want of memory no count of faults is changed
    pub quiet : (status ≡ ReadFault → ⊥) → (status ≡ WriteFault → ⊥) → (status ≡ Memory → ⊥) → NoFault old new
    -- where no count rises and nothing is refused, the job is done, or memory ran out
    pub complete : (files : Files) (request : Request) → old.files ≡ Some files → asked ≡ Some request
        → ((refusal : Refusal) → FirstRefusal (job_of request) old.files refusal → ⊥) → NoneRose old new
        → IsDone asked old new status ⊎ (status ≡ Memory)

-- How a call ends.
use Rattle.std.specs.Prelude.{◌≡◌, ℕ, List, Option, Some, None, slice_get, take}
use Rattle.bl_outside.specs.Shelf.{Files, ReadFails, WriteFails}
use Rattle.bl_job.specs.Jobs.{AreRead, FirstRefusal, Job, Plan, ReadsName, saying}
use Rattle.bl_job.specs.Refusals.{Refusal}
use Rattle.bl_job.specs.Status.{status_of}
use Rattle.bl_job.specs.Texts.{read_fault_text, usage_text, write_fault_text, refusal_text}
use Rattle.bl_job.specs.Worlds.{Said, Unchanged, World, with_files}
use Rattle.bl_job.specs.declared.status.Status.{Status}
use Rattle.bl_job.specs.declared.status.Status.TheVariants.{Memory, ReadFault, Usage, WriteFault}

-- how a plan is carried out
pub data Delivers (plan : Plan) (old new : World) (status : Status) : Type 0 where
  -- all files are kept, and the text is printed
  all_kept : new.files ≡ with_files old.files plan.keeps → new.faults ≡ old.faults
      → Said plan.text plan.status old.sink new.sink status → Delivers plan old new status
  -- a file could not be kept; those before it were
  not_kept : (before : ℕ) (keep : List ℕ × List ℕ) → slice_get plan.keeps before ≡ Some keep → WriteFails old.faults new.faults keep.0
      → new.files ≡ with_files old.files (take before plan.keeps)
      → Said (write_fault_text keep.0) WriteFault old.sink new.sink status → Delivers plan old new status
  -- there was no memory to keep a file; those before it were kept, and nothing was printed
  no_memory_to_keep : (before : ℕ) (keep : List ℕ × List ℕ) → slice_get plan.keeps before ≡ Some keep
      → new.files ≡ with_files old.files (take before plan.keeps)
      → new.faults ≡ old.faults → new.sink ≡ old.sink → status ≡ Memory → Delivers plan old new status

-- for requests of any kind, each with its job
module _ {Request : Type 0} (job_of : Request → Job) where
  -- what is to be done where nothing fails
  pub data PlanFor (asked : Option Request) (files : Option Files) : Plan → Type 0 where
    usage : asked ≡ None → PlanFor asked files (saying Usage usage_text)
    refused : (request : Request) (refusal : Refusal) → asked ≡ Some request → FirstRefusal (job_of request) files refusal
        → PlanFor asked files (saying (status_of refusal) (refusal_text refusal))
    done : (request : Request) (contents : List (List ℕ)) (plan : Plan) → asked ≡ Some request
        → AreRead files (job_of request).reads contents → (job_of request).Does contents plan
        → PlanFor asked files plan

  -- how a call ends that is asked for a request, or for none
  pub data Ends (asked : Option Request) (old new : World) (status : Status) : Type 0 where
    -- as is to be done
    as_planned : (plan : Plan) → PlanFor asked old.files plan → Delivers plan old new status → Ends asked old new status
    -- a file could not be read
    not_read : (request : Request) (name : List ℕ) → asked ≡ Some request → ReadsName old.files (job_of request).reads name
        → ReadFails old.faults new.faults name → new.files ≡ old.files
        → Said (read_fault_text name) ReadFault old.sink new.sink status → Ends asked old new status
    -- there was no memory before any file was to be kept or any text to be printed
    no_memory : Unchanged old new → status ≡ Memory → Ends asked old new status

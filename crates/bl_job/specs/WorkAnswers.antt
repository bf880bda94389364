-- What the functions of the work answer.
use Rattle.std.specs.Prelude.{◌≡◌, ℕ, List, [], ◌∷◌, map, Option, Some, None, Result, Ok, Err, Vec, unwrap_or}
use Rattle.std.proofs.Common.{Bor}
use Rattle.std.specs.declared.alloc.Global.{Global}
use Rattle.bl_base.specs.declared.quantity.Quantity.{Quantity}
use Rattle.bl_outside.specs.Shelf.{ReadFails}
use Rattle.bl_outside.specs.declared.shelf.ShelfError.{ShelfError}
use Rattle.bl_outside.specs.declared.shelf.ShelfError.TheVariants as shelf
use Rattle.bl_job.specs.Jobs.{AreRead, Job, Plan, Read, ReadsName, RefusesLength}
use Rattle.bl_job.specs.Refusals.{Refusal}
use Rattle.bl_job.specs.Stages.{Stage}
use Rattle.bl_job.specs.Status.{status_of}
use Rattle.bl_job.specs.Texts.{read_fault_text, refusal_text}
use Rattle.bl_job.specs.Worlds.{Said, SaidIfRoom, SameShelf, Stream, Unchanged, World}
use Rattle.bl_job.specs.declared.content.Content.{Content}
use Rattle.bl_job.specs.declared.content.Content.TheVariants as content
use Rattle.bl_job.specs.declared.job.Keep.{Keep}
use Rattle.bl_job.specs.declared.job.Plan.{Plan as PlanMade}
use Rattle.bl_job.specs.declared.job.Read.{Read as ReadAsked}
use Rattle.bl_job.specs.declared.refusal.Refusal.{Refusal as RefusalTold}
use Rattle.bl_job.specs.declared.refusal.WorkError.{WorkError}
use Rattle.bl_job.specs.declared.refusal.WorkError.TheVariants as error
use Rattle.bl_job.specs.declared.status.Status.{Status}
use Rattle.bl_job.specs.declared.status.Status.TheVariants.{Memory, ReadFault, Refused, WriteFault}

-- ---- values of the code as those of the definitions

abbrev pub read_in : ReadAsked → Read
read_in read = record { name = read.name.now; quantity = read.quantity }

abbrev pub file_in : Bor (List ℕ) × Quantity → Read
file_in file = record { name = file.0.now; quantity = file.1 }

abbrev pub keep_in : Keep → List ℕ × List ℕ
keep_in keep = (keep.name.now, keep.bytes.items)

abbrev pub plan_in : PlanMade → Plan
plan_in plan = record { status = plan.status; keeps = map keep_in plan.keeps.items; text = plan.text.items }

-- the bytes of a file; of a decoder that has failed there are none
abbrev pub content_in : Content → List ℕ
content_in (content.Bytes bytes) = bytes.items
content_in (content.Module fed) = unwrap_or fed []

abbrev pub contents_in : List Content → List (List ℕ)
contents_in contents = map content_in contents

abbrev pub refusal_in : RefusalTold → Refusal
refusal_in told = record { reason = told.reason; line = told.line.items }

-- ---- files

-- a file is not fetched of those that are read in order: its line is printed, or there was no memory
pub data NotFetched (reads : List Read) (old new : World) (status : Status) : Type 0 where
  -- it could not be read
  failed : (name : List ℕ) → ReadsName old.files reads name → ReadFails old.faults new.faults name → new.files ≡ old.files
      → Said (read_fault_text name) ReadFault old.sink new.sink status → NotFetched reads old new status
  -- it is too long
  refused : (refusal : Refusal) → RefusesLength old.files reads refusal → SameShelf old new
      → SaidIfRoom (refusal_text refusal) (status_of refusal) old.sink new.sink status → NotFetched reads old new status
  no_memory_to_fetch : Unchanged old new → status ≡ Memory → NotFetched reads old new status

-- what fetching one file leaves, with the status where it is not fetched
abbrev pub Fetched : Read → World → World → Result Content Status → Type 0
Fetched read old new (Ok content) = Unchanged old new × AreRead old.files (read ∷ []) (content_in content ∷ [])
Fetched read old new (Err status) = NotFetched (read ∷ []) old new status

-- what fetching files in order leaves
abbrev pub AllFetched : List Read → World → World → Result (Vec Content Global) Status → Type 0
AllFetched reads old new (Ok contents) = Unchanged old new × AreRead old.files reads (contents_in contents.items)
AllFetched reads old new (Err status) = NotFetched reads old new status

-- what follows where a file could not be kept: the text, or nothing where there was no memory
abbrev pub NotKept : ShelfError → List ℕ → Stream → Stream → Status → Type 0
NotKept shelf.Failed text old new status = Said text WriteFault old new status
NotKept shelf.Memory text old new status = (new ≡ old) × (status ≡ Memory)

-- ---- the work

-- why the work isn't done: a refusal of which that holds; nothing is said where there was no memory
abbrev pub Tells : (Refusal → Type 0) → WorkError → Type 0
Tells P (error.Refused refusal) = P (refusal_in refusal)
Tells P error.Memory = Unit {0}

-- the error is that refusal, unless there was no memory to make its line; or there is none but that there was no memory
abbrev pub IsTold : Option Refusal → WorkError → Type 0
IsTold (Some refusal) e = Tells (λ told. told ≡ refusal) e
IsTold None e = e ≡ error.Memory

-- what is said of an error: the line of a refusal, and nothing where there was no memory
abbrev pub IsSaid : WorkError → Stream → Stream → Status → Type 0
IsSaid (error.Refused refusal) old new status = Said refusal.line.items (Refused refusal.reason) old new status
IsSaid error.Memory old new status = (new ≡ old) × (status ≡ Memory)

-- what a stage gives, or why it refuses
abbrev pub IsStaged : {A B X : Type 0} → Stage A B → (X → B) → A → Result X WorkError → Type 0
IsStaged stage value a (Ok x) = stage.Passes a (value x)
IsStaged stage value a (Err e) = Tells (stage.Refuses a) e

-- the work of a job on the contents of its reads: what is done, or why they are refused
abbrev pub IsWork : Job → List (List ℕ) → Result PlanMade WorkError → Type 0
IsWork job contents (Ok plan) = job.Does contents (plan_in plan)
IsWork job contents (Err e) = Tells (job.Against contents) e

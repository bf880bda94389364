-- Commands over a stage: the contents of all reads pass a stage, and something is planned for what it makes of them.
use Rattle.std.specs.Prelude.{◌≡◌, ℕ, List, [], ◌∷◌, Option, false}
use Rattle.std.specs.Str.{bytes_eq}
use Rattle.bl_outside.specs.Shelf.{Files}
use Rattle.bl_job.specs.Refusals.{Refusal}
use Rattle.bl_job.specs.Stages.{Stage}
use Rattle.bl_job.specs.Jobs.{AreRead, FileIs, Job, Plan, Read}
use Rattle.bl_job.specs.Worlds.{World, took, with_files}
use Rattle.bl_job.specs.declared.status.Status.{Status}

-- a job was done: its files were read, what is done with their contents was kept and printed, and nothing else is changed
pub record WasDone (job : Job) (old new : World) (status : Status) : Type 0 where
  pub contents : List (List ℕ)
  pub plan : Plan
  pub read : AreRead old.files job.reads contents
  pub does : job.Does contents plan
  pub meant : status ≡ plan.status
  pub kept : new.files ≡ with_files old.files plan.keeps
  pub printed : new.sink.taken ≡ took old.sink.taken plan.text

-- ---- reading

-- what is done with files, one after another: with the bytes of one, and what is then done with the others; where there are no others, a stage
-- takes a value; or a stage takes what all others give
pub data Reading (B : Type 0) : Type 1 where
  file : (List ℕ → Reading B) → Reading B
  all_read : {A : Type 0} → Stage A B → A → Reading B
  others : {A : Type 0} → Stage A B → (List (List ℕ) → A) → Reading B

abbrev pub ReadPasses : {B : Type 0} → Reading B → List (List ℕ) → B → Type 0
ReadPasses (file next) [] made = ⊥
ReadPasses (file next) (bytes ∷ contents) made = ReadPasses (next bytes) contents made
ReadPasses (all_read stage a) [] made = stage.Passes a made
ReadPasses (all_read stage a) (bytes ∷ contents) made = ⊥
ReadPasses (others stage given) contents made = stage.Passes (given contents) made

abbrev pub ReadRefuses : {B : Type 0} → Reading B → List (List ℕ) → Refusal → Type 0
ReadRefuses (file next) [] refusal = ⊥
ReadRefuses (file next) (bytes ∷ contents) refusal = ReadRefuses (next bytes) contents refusal
ReadRefuses (all_read stage a) [] refusal = stage.Refuses a refusal
ReadRefuses (all_read stage a) (bytes ∷ contents) refusal = ⊥
ReadRefuses (others stage given) contents refusal = stage.Refuses (given contents) refusal

-- the stage on the contents of the files
abbrev pub contents_stage : {B : Type 0} → Reading B → Stage (List (List ℕ)) B
contents_stage reading = record { Passes = ReadPasses reading; Refuses = ReadRefuses reading }

-- ---- jobs

-- what a stage makes of a value, and a plan for it
pub record Makes {A B : Type 0} (stage : Stage A B) (Plans : B → Plan → Type 0) (a : A) (plan : Plan) : Type 0 where
  pub made : B
  pub passes : stage.Passes a made
  pub plans : Plans made plan

-- the files that are read, and the names of those that are kept; what is done with the contents; what may be planned for what comes of them; and
-- what such a plan means, of the contents and of what is made of them
pub record Staged (B : Type 0) : Type 1 where
  pub reads : List Read
  pub keeps : List (List ℕ)
  pub reading : Reading B
  pub Plans : B → Plan → Type 0
  pub Means : List (List ℕ) → B → Plan → Type 0

-- reading the files, and doing what is planned; refused where the stage refuses their contents
abbrev pub staged_job : {B : Type 0} → Staged B → Job
staged_job staged = record {
  reads = staged.reads;
  keeps = staged.keeps;
  Against = ReadRefuses staged.reading;
  Does = Makes (contents_stage staged.reading) staged.Plans;
}

-- no file of that name is kept
abbrev pub AreOthers : List ℕ → List (List ℕ × List ℕ) → Type 0
AreOthers name [] = Unit {0}
AreOthers name (keep ∷ keeps) = (bytes_eq keep.0 name ≡ false) × AreOthers name keeps

-- each file is there, but where another one is kept behind it under its name
abbrev pub Stand : Option Files → List (List ℕ × List ℕ) → Type 0
Stand files [] = Unit {0}
Stand files (keep ∷ keeps) = (AreOthers keep.0 keeps → FileIs files keep.0 keep.1) × Stand files keeps

-- what is said where the job was done: the stage made that of the contents, what was planned for it was done, and that means this; and the files
-- that were kept are there
pub record DeedMeans {B : Type 0} (staged : Staged B) (old new : World) (status : Status) : Type 0 where
  pub done : WasDone (staged_job staged) old new status
  pub means : staged.Means done.contents done.does.made done.plan
  pub stand : Stand new.files done.plan.keeps

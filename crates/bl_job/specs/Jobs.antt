-- A command as one record: the files that it reads and keeps, what is refused, and what is done.
use Rattle.std.specs.Prelude.{◌≡◌, ℕ, ◌+◌, ◌<◌, ◌≤◌, ◌⊎◌, List, [], ◌∷◌, length, map, Option, Some, None}
use Rattle.std.specs.FinMap as fin
use Rattle.std.specs.List.{All}
use Rattle.bl_base.specs.Fits.{AreBytes}
use Rattle.bl_base.specs.Quantity.{limit_of}
use Rattle.bl_base.specs.declared.quantity.Quantity.{Quantity}
use Rattle.bl_outside.specs.Shelf.{Files, most_asked}
use Rattle.bl_job.specs.Refusals.{Refusal, limit}
use Rattle.bl_job.specs.Status.{kind_of, of_deed}
use Rattle.bl_job.specs.declared.status.Status.{Status}

-- a file that is read: its name, and the quantity that its length is within
pub record Read : Type 0 where
  pub name : List ℕ
  pub quantity : Quantity

-- a shelf may be asked for as many bytes
abbrev pub IsSmall : Read → Type 0
IsSmall read = limit_of read.quantity ≤ most_asked

-- a status, the files that are kept, in order, by their names and bytes, and the text that is printed
pub record Plan : Type 0 where
  pub status : Status
  pub keeps : List (List ℕ × List ℕ)
  pub text : List ℕ

-- printing a text, and nothing else
abbrev pub saying : Status → List ℕ → Plan
saying status text = record { status = status; keeps = []; text = text }

-- the job of a request: the files that it reads, in the order of its words, and the names of those that it keeps, in order; what
-- is refused, and what is done where nothing is, by the contents of all reads. More than one thing may be done: a flow may be chosen
pub record Job : Type 1 where
  pub reads : List Read
  pub keeps : List (List ℕ)
  pub Against : List (List ℕ) → Refusal → Type 0
  pub Does : List (List ℕ) → Plan → Type 0

-- the files kept are those of these names, in order, or none
abbrev pub KeepsNamed : List (List ℕ) → List (List ℕ × List ℕ) → Type 0
KeepsNamed names keeps = (map (λ keep. keep.0) keeps ≡ names) ⊎ (keeps ≡ [])

-- the laws of a job
pub record IsLawful (job : Job) : Type 0 where
  -- contents have at most one refusal
  pub one_refusal : (contents : List (List ℕ)) (a b : Refusal) → job.Against contents a → job.Against contents b → a ≡ b
  -- nothing is done where one stands
  pub none_beside_a_deed : (contents : List (List ℕ)) (refusal : Refusal) (plan : Plan) → job.Against contents refusal
      → job.Does contents plan → ⊥
  -- all that may be done has one status, which says that the work was done
  pub one_status : (contents : List (List ℕ)) (p q : Plan) → job.Does contents p → job.Does contents q → p.status ≡ q.status
  pub status_of_deed : (contents : List (List ℕ)) (plan : Plan) → job.Does contents plan → kind_of plan.status ≡ of_deed
  -- the files kept are those named, or none
  pub keeps_named : (contents : List (List ℕ)) (plan : Plan) → job.Does contents plan → KeepsNamed job.keeps plan.keeps

-- ---- reading

-- the file of that name has these bytes, if the shelf exposes its contents
abbrev pub FileIs : Option Files → List ℕ → List ℕ → Type 0
FileIs None name bytes = Unit {0}
FileIs (Some files) name bytes = fin.get files name ≡ Some bytes

-- a file is there, and short enough
pub record IsRead (files : Option Files) (read : Read) (bytes : List ℕ) : Type 0 where
  pub file : FileIs files read.name bytes
  pub short : length bytes ≤ limit_of read.quantity

-- a file is there, and longer than that
pub record IsTooLong (files : Option Files) (read : Read) : Type 0 where
  pub bytes : List ℕ
  pub file : FileIs files read.name bytes
  pub long : limit_of read.quantity < length bytes

-- all files are there, and short enough
abbrev pub AreRead : Option Files → List Read → List (List ℕ) → Type 0
AreRead files [] [] = Unit {0}
AreRead files [] (bytes ∷ contents) = ⊥
AreRead files (read ∷ reads) [] = ⊥
AreRead files (read ∷ reads) (bytes ∷ contents) = IsRead files read bytes × AreRead files reads contents

-- something holds of one of the reads, and the files of those before it are there and short enough
abbrev pub At : Option Files → (Read → Type 0) → List Read → Type 0
At files P [] = ⊥
At files P (read ∷ reads) = P read ⊎ ((bytes : List ℕ) × IsRead files read bytes × At files P reads)

-- a file of that name is read: those before it are there and short enough
abbrev pub ReadsName : Option Files → List Read → List ℕ → Type 0
ReadsName files reads name = At files (λ read. name ≡ read.name) reads

-- a file that is read is too long: its length is tested before the next file is read
abbrev pub RefusesLength : Option Files → List Read → Refusal → Type 0
RefusesLength files reads refusal =
    At files (λ read. IsTooLong files read × (refusal ≡ limit read.quantity (limit_of read.quantity + 1))) reads

-- the first error in the order of work, for files that are read without fault
pub data FirstRefusal (job : Job) (files : Option Files) (refusal : Refusal) : Type 0 where
  -- a file is too long
  too_long : RefusesLength files job.reads refusal → FirstRefusal job files refusal
  -- all are read, and their contents are refused
  against : (contents : List (List ℕ)) → AreRead files job.reads contents → job.Against contents refusal → FirstRefusal job files refusal

-- ---- the last law

-- contents that are there: as many as the reads, each short enough, and of bytes
pub record AreThere (reads : List Read) (contents : List (List ℕ)) : Type 0 where
  pub read : AreRead None reads contents
  pub bytes : All AreBytes contents

-- of contents that are there something is refused, or something may be done: it can't be that neither is so
pub record IsTotal (job : Job) : Type 0 where
  pub always : (contents : List (List ℕ)) → AreThere job.reads contents → ((refusal : Refusal) → job.Against contents refusal → ⊥)
      → ((plan : Plan) → job.Does contents plan → ⊥) → ⊥

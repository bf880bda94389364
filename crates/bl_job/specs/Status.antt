-- The exit statuses: their numbers, and what each says of a call.
use Rattle.std.specs.Prelude.{◌≡◌, ℕ}
use Rattle.bl_job.specs.Refusals.{Refusal}
use Rattle.bl_job.specs.declared.status.Reason.{Reason}
use Rattle.bl_job.specs.declared.status.Reason.TheVariants as reason
use Rattle.bl_job.specs.declared.status.Status.{Status}
use Rattle.bl_job.specs.declared.status.Status.TheVariants.{Done, No, Usage, ReadFault, WriteFault, Memory, Trapped, Spent, Stuck, Refused}

-- of refusals
abbrev pub reason_number : Reason → ℕ
reason_number reason.Malformed = 5
reason_number reason.Invalid = 6
reason_number reason.Unsupported = 7
reason_number reason.Limit = 8
reason_number reason.Link = 9
reason_number reason.Labels = 10
reason_number reason.Image = 12
reason_number reason.Certificate = 13
reason_number reason.Trace = 14
reason_number reason.Start = 15
reason_number reason.Counts = 19
reason_number reason.Interface = 20

abbrev pub status_number : Status → ℕ
status_number Done = 0
status_number No = 1
status_number Usage = 2
status_number ReadFault = 3
status_number WriteFault = 4
status_number Memory = 11
status_number Trapped = 16
status_number Spent = 17
status_number Stuck = 18
status_number (Refused why) = reason_number why

-- the status of a refusal
abbrev pub status_of : Refusal → Status
status_of refusal = Refused refusal.reason

-- what a status says of a call: the work was done, the words were no request, the request was refused, a file could not be
-- read, a file or the sink could not be written, or memory ran out
pub data Kind : Type 0 where
  of_deed : Kind
  of_usage : Kind
  of_refusal : Kind
  of_read_fault : Kind
  of_write_fault : Kind
  of_memory : Kind

abbrev pub kind_of : Status → Kind
kind_of Done = of_deed
kind_of No = of_deed
kind_of Usage = of_usage
kind_of ReadFault = of_read_fault
kind_of WriteFault = of_write_fault
kind_of Memory = of_memory
kind_of Trapped = of_deed
kind_of Spent = of_deed
kind_of Stuck = of_deed
kind_of (Refused why) = of_refusal

-- the number is that of a status with that property
pub record IsStatus (code : ℕ) (P : Status → Type 0) : Type 0 where
  pub status : Status
  pub is_code : code ≡ status_number status
  pub holds : P status

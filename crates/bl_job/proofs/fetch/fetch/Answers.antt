use Rattle.std.proofs.Common.{refl}
use Rattle.bl_job.specs.WorkAnswers.{no_memory_to_fetch}
use Rattle.bl_job.proofs.FetchLemmas.{long_refused, not_read}
use Rattle.bl_job.proofs.fetch.fetch.Goals as goal

pub returns-in-Ok-Some : goal.returns-in-Ok-Some
returns-in-Ok-Some g c =
    let obtained = rw c.in-Ok-Some.field-0-is at c.in-Ok-Some.ensures.obtained in
    (record { files = c.in-Ok-Some.ensures.files; faults = obtained.0; sink = refl }, (obtained.1, tt))

pub returns-in-Ok-None : goal.returns-in-Ok-None
returns-in-Ok-None g c =
    let obtained = rw c.in-Ok-None.field-0-is at c.in-Ok-None.ensures.obtained in
    long_refused _ _ _ _ obtained.1 (record { files = c.in-Ok-None.ensures.files; faults = obtained.0 }) c.too_long.ensures

pub returns-in-Err-Failed : goal.returns-in-Err-Failed
returns-in-Err-Failed g c =
    let fails = rw c.in-Err-Failed.field-0-is at c.in-Err-Failed.ensures.obtained in
    let said = rw c.as_bytes-name.ensures.value at c.say_line.ensures in
    not_read _ _ _ _ fails c.in-Err-Failed.ensures.files said

pub returns-in-Err-Memory : goal.returns-in-Err-Memory
returns-in-Err-Memory g c =
    let same = rw c.in-Err-Memory.field-0-is at c.in-Err-Memory.ensures.obtained in
    no_memory_to_fetch (record { files = c.in-Err-Memory.ensures.files; faults = same; sink = refl }) refl

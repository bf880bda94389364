-- The lines of refusals, of faults and of usage. Each ends with a line feed.
use Rattle.std.specs.Prelude.{ℕ, List, ◌++◌, codes}
use Rattle.bl_outcome.specs.Lines.{line}
use Rattle.bl_job.specs.Refusals.{Refusal}

-- why a request is refused
abbrev pub refusal_text : Refusal → List ℕ
refusal_text refusal = refusal.line

abbrev pub usage_text : List ℕ
usage_text = line (codes "usage: blade COMMAND ARGUMENTS")

abbrev pub read_fault_text : List ℕ → List ℕ
read_fault_text word = line (codes "read fault: " ++ word)

abbrev pub write_fault_text : List ℕ → List ℕ
write_fault_text word = line (codes "write fault: " ++ word)

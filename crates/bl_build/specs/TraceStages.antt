-- From the bytes of an image to an exported function of its program with the directives of a trace file and a start, or two starts.
use Rattle.std.specs.Fmt.{decimal}
use Rattle.std.specs.Prelude.{◌≡◌, ℕ, ◌<◌, ◌≤◌, List, [], ◌∷◌, codes, length, Ok, Err}
use Rattle.bl_base.specs.Quantity.{limit_of}
use Rattle.bl_base.specs.declared.quantity.Quantity.TheVariants as quantity
use Rattle.bl_program.specs.declared.definitions.ProgramParts.{ProgramParts as Program}
use Rattle.bl_rob.specs.declared.directive.Directive.{Directive}
use Rattle.bl_trace.specs.Traces.{trace_of}
use Rattle.bl_build.specs.EntryStages.{Entered, Entry, finding, imaging, starting}
use Rattle.bl_job.specs.Refusals.{Refusal, limit, refusal_of}
use Rattle.bl_job.specs.declared.status.Reason.TheVariants as why
use Rattle.bl_job.specs.Stages.{Stage, beside, chain}
use Rattle.bl_base.specs.declared.start.Start.{Start}
use Rattle.bl_text.specs.Lines.{lines_of}

-- ---- trace files

-- a function of a program, and directives
pub record Traced : Type 0 where
  pub entry : Entry
  pub directives : List Directive

-- the bytes of a trace file have at most the number of lines that is taken, and each is a directive
pub record Traces (bytes : List ℕ) (entry : Entry) (traced : Traced) : Type 0 where
  pub same_entry : traced.entry ≡ entry
  pub few : length (lines_of bytes) ≤ limit_of quantity.Directives
  pub read : trace_of bytes ≡ Ok traced.directives

-- a line of a trace file, by its number, from 1
abbrev pub bad_directive : ℕ → Refusal
bad_directive number = refusal_of why.Trace (codes "trace: line " ∷ decimal number ∷ [])

pub data TracingRefuses (bytes : List ℕ) (refusal : Refusal) : Type 0 where
  -- there are more lines
  too_many : limit_of quantity.Directives < length (lines_of bytes) → refusal ≡ limit quantity.Directives (length (lines_of bytes))
      → TracingRefuses bytes refusal
  -- there are no more, and one is no directive; the first one
  no_directive : (line : ℕ) → length (lines_of bytes) ≤ limit_of quantity.Directives → trace_of bytes ≡ Err line
      → refusal ≡ bad_directive line
      → TracingRefuses bytes refusal

abbrev pub tracing : List ℕ → Stage Entry Traced
tracing bytes = record { Passes = Traces bytes; Refuses = λ entry. TracingRefuses bytes }

-- ---- starts

-- a function of a program, a start of it, and directives
pub record Speculated : Type 0 where
  pub entered : Entered
  pub directives : List Directive

-- the bytes of a start file ask for that start of the function
abbrev pub starting_traced : List ℕ → Stage Traced Speculated
starting_traced bytes =
    beside (λ traced. traced.entry) (starting bytes) (λ traced entered. record { entered = entered; directives = traced.directives })

-- ---- all stages

-- from a program to a function of it that is exported under a name, with the directives of a trace file's bytes and the start that the
-- bytes of a start file ask for
abbrev pub program_speculating : List ℕ → List ℕ → List ℕ → Stage Program Speculated
program_speculating export trace start = chain (finding export) (chain (tracing trace) (starting_traced start))

-- from the bytes of an image to such a function of its program
abbrev pub speculating : List ℕ → List ℕ → List ℕ → Stage (List ℕ) Speculated
speculating export trace start = chain imaging (program_speculating export trace start)

-- ---- the other start

-- a function of a program, a start of it, and directives; and another start
pub record Twinned : Type 0 where
  pub speculated : Speculated
  pub other : Start

-- the function of a program
abbrev pub entry_of : Twinned → Entry
entry_of twinned = twinned.speculated.entered.entry

-- the bytes of a start file ask for that other start of the function
abbrev pub starting_other : List ℕ → Stage Speculated Twinned
starting_other bytes =
    beside (λ speculated. speculated.entered.entry) (starting bytes) (λ speculated entered. record { speculated = speculated; other = entered.start })

-- from a program to a function of it that is exported under a name, with the directives of a trace file's bytes and the two starts that
-- the bytes of two start files ask for
abbrev pub program_twinning : List ℕ → List ℕ → List ℕ → List ℕ → Stage Program Twinned
program_twinning export trace start other = chain (program_speculating export trace start) (starting_other other)

-- from the bytes of an image to such a function of its program
abbrev pub twinning : List ℕ → List ℕ → List ℕ → List ℕ → Stage (List ℕ) Twinned
twinning export trace start other = chain imaging (program_twinning export trace start other)

-- The start that a start file asks for, or why it gives none.
use Rattle.std.specs.Prelude.{◌≡◌, ℕ, ◌+◌, if◌then◌else◌, List, [], ◌∷◌, length, Some, None, Result, Ok, Err, nat_lt}
use Rattle.bl_base.specs.declared.names.ValueType.{ValueType}
use Rattle.bl_base.specs.declared.start.Start.{Start}
use Rattle.bl_text.specs.Lines.{lines_of}
use Rattle.bl_trace.specs.declared.entry.Entry.{Entry}
use Rattle.bl_trace.specs.declared.entry.Entry.TheVariants.{Argument, Contents}
use Rattle.bl_trace.specs.declared.error.StartError.{StartError}
use Rattle.bl_trace.specs.declared.error.StartError.TheVariants.{Line, Count, Memory}
use Rattle.bl_trace.specs.Lines.{entry_of}

-- how many arguments an entry is
abbrev pub arguments_in : Entry → ℕ
arguments_in (Argument value) = 1
arguments_in (Contents patch) = 0

-- an entry before those of a start
abbrev pub entry_before : Entry → Start → Start
entry_before (Argument value) start = record start { args = value ∷ start.args }
entry_before (Contents patch) start = record start { patches = patch ∷ start.patches }

-- what a line says and then what the lines behind it say; a bad line's number counts that line too
abbrev pub said_before : Entry → Result Start ℕ → Result Start ℕ
said_before entry (Ok start) = Ok (entry_before entry start)
said_before entry (Err number) = Err (number + 1)

-- what lines say in their order with so many arguments before them; else the first bad one's number, from 1
abbrev pub said : List ValueType → List ℕ → ℕ → List (List ℕ) → Result Start ℕ
said params sizes arguments [] = Ok (record { args = []; patches = [] })
said params sizes arguments (line ∷ lines) =
    elim (entry_of params sizes arguments line) [
      | Some entry ↦ said_before entry (said params sizes (arguments + arguments_in entry) lines)
      | None ↦ Err 1
    ]

-- the answer of lines that say that: a bad line is told before a want of arguments
abbrev pub answer_by : List ValueType → Result Start ℕ → Result Start StartError
answer_by params (Ok start) = if nat_lt (length start.args) (length params) then Err (Count (length start.args)) else Ok start
answer_by params (Err number) = Err (Line number)

-- the answer of a file
abbrev pub answer_of : List ValueType → List ℕ → List ℕ → Result Start StartError
answer_of params sizes bytes = answer_by params (said params sizes 0 (lines_of bytes))

-- an answer is the one that is asked for, or memory ran out, which no clause rules out
abbrev pub IsAnswer : Result Start StartError → Result Start StartError → Type 0
IsAnswer asked (Err Memory) = Unit {0}
IsAnswer asked answer = answer ≡ asked

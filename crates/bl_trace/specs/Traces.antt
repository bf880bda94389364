-- The directives of a trace file.
use Rattle.std.specs.Prelude.{◌≡◌, ℕ, ◌^◌, ◌<◌, true, false, if◌then◌else◌, List, [], ◌∷◌, ◌++◌, take, drop, Option, Some, None, option_map, Result, Ok, Err, codes}
use Rattle.std.specs.Fmt.{decimal}
use Rattle.std.specs.List.{flat_map}
use Rattle.std.specs.Str.{bytes_eq}
use Rattle.bl_text.specs.Digits.{decimal_below}
use Rattle.bl_text.specs.Items.{items_of}
use Rattle.bl_text.specs.Lines.{lines_of}
use Rattle.bl_rob.specs.declared.directive.Directive.{Directive}
use Rattle.bl_rob.specs.declared.directive.Directive.TheVariants.{Fetch, Predict, Exec, Retire}
use Rattle.bl_trace.specs.declared.error.TraceError.{TraceError}
use Rattle.bl_trace.specs.declared.error.TraceError.TheVariants.{Line, Memory}

-- the entry that is to be executed, by a line `exec N`
abbrev pub executed : List ℕ → Option ℕ
executed line = if bytes_eq (take 5 line) (codes "exec ") then decimal_below (2 ^ 32) (drop 5 line) else None

-- the directive that a line says; None where it says none
abbrev pub directive_of : List ℕ → Option Directive
directive_of line =
    if bytes_eq line (codes "fetch") then Some Fetch
    else if bytes_eq line (codes "fetch 0") then Some (Predict false)
    else if bytes_eq line (codes "fetch 1") then Some (Predict true)
    else if bytes_eq line (codes "retire") then Some Retire
    else option_map Exec (executed line)

-- the directives of a file
abbrev pub trace_of : List ℕ → Result (List Directive) ℕ
trace_of bytes = items_of directive_of (lines_of bytes)

-- an answer is the one of the file, or memory ran out, which no clause rules out
abbrev pub IsTrace : Result (List Directive) ℕ → Result (List Directive) TraceError → Type 0
IsTrace asked (Ok directives) = asked ≡ Ok directives
IsTrace asked (Err (Line number)) = asked ≡ Err number
IsTrace asked (Err Memory) = Unit {0}

-- ---- texts

-- the line that says a directive, without its LF
abbrev pub directive_text : Directive → List ℕ
directive_text Fetch = codes "fetch"
directive_text (Predict true) = codes "fetch 1"
directive_text (Predict false) = codes "fetch 0"
directive_text (Exec n) = codes "exec " ++ decimal n
directive_text Retire = codes "retire"

-- the text of directives, a line for each
abbrev pub trace_text : List Directive → List ℕ
trace_text directives = flat_map (λ directive. directive_text directive ++ 10 ∷ []) directives

-- the entry that is executed has a number of 32 bits
abbrev pub IsWritten : Directive → Type 0
IsWritten (Exec n) = n < 2 ^ 32
IsWritten Fetch = Unit {0}
IsWritten (Predict predicted) = Unit {0}
IsWritten Retire = Unit {0}

-- What lines say, line by line.
use Rattle.std.proofs.Common.{◌≡◌, ℕ, ◌+◌, List, [], ◌∷◌, ◌++◌, length, Option, Some, None, Result, Ok, Err, sym, ap, ◌∙◌, arith, append_assoc, append-nil}
use Rattle.std.proofs.lemmas.List.{length_push}
use Rattle.bl_base.specs.declared.names.ValueType.{ValueType}
use Rattle.bl_base.specs.declared.start.Patch.{Patch}
use Rattle.bl_base.specs.declared.start.Start.{Start}
use Rattle.bl_trace.specs.declared.entry.Entry.{Entry}
use Rattle.bl_trace.specs.declared.entry.Entry.TheVariants.{Argument, Contents}
use Rattle.bl_trace.specs.Lines.{entry_of}
use Rattle.bl_trace.specs.StartFiles.{arguments_in, said_before, said}
use Rattle.bl_trace.specs.PartialStarts.{entry_behind}

-- a start and what is said behind so many lines
abbrev pub behind : ℕ → Start → Result Start ℕ → Result Start ℕ
behind lines start (Ok more) = Ok (record { args = start.args ++ more.args; patches = start.patches ++ more.patches })
behind lines start (Err number) = Err (lines + number)

-- an entry moves from what is said to the start
moves : (lines : ℕ) (start : Start) (entry : Entry) (more : Result Start ℕ) →
    behind lines start (said_before entry more) ≡ behind (lines + 1) (entry_behind start entry) more
moves lines start (Argument value) (Ok more) =
    ap (λ (args : List ℕ). Ok (record { args = args; patches = start.patches ++ more.patches })) (sym (append_assoc start.args (value ∷ []) more.args))
moves lines start (Contents patch) (Ok more) =
    ap (λ (patches : List _). Ok (record { args = start.args ++ more.args; patches = patches })) (sym (append_assoc start.patches (patch ∷ []) more.patches))
moves lines start entry (Err number) = ap Err (omega arith)

-- an entry's arguments are counted with the others
arguments_more : (start : Start) (entry : Entry) → length start.args + arguments_in entry ≡ length (entry_behind start entry).args
arguments_more start (Argument value) = sym (length_push start.args value)
arguments_more start (Contents patch) = omega arith

-- what a line and those behind it say, by what the line says
abbrev pub by_entry : List ValueType → List ℕ → ℕ → List (List ℕ) → Option Entry → Result Start ℕ
by_entry params sizes arguments lines (Some entry) = said_before entry (said params sizes (arguments + arguments_in entry) lines)
by_entry params sizes arguments lines None = Err 1

-- one line more is read
one_more : (params : List ValueType) (sizes : List ℕ) (number : ℕ) (start : Start) (line : List ℕ) (lines : List (List ℕ)) (entry : Entry) →
    Some entry ≡ entry_of params sizes (length start.args) line →
    behind number start (said params sizes (length start.args) (line ∷ lines)) ≡
    behind (number + 1) (entry_behind start entry) (said params sizes (length (entry_behind start entry).args) lines)
one_more params sizes number start line lines entry is =
    ap (λ found. behind number start (by_entry params sizes (length start.args) lines found)) (sym is)
    ∙ moves number start entry (said params sizes (length start.args + arguments_in entry) lines)
    ∙ ap (λ n. behind (number + 1) (entry_behind start entry) (said params sizes n lines)) (arguments_more start entry)

-- a line is bad
bad : (params : List ValueType) (sizes : List ℕ) (number : ℕ) (start : Start) (line : List ℕ) (lines : List (List ℕ)) →
    None ≡ entry_of params sizes (length start.args) line →
    behind number start (said params sizes (length start.args) (line ∷ lines)) ≡ Err (number + 1)
bad params sizes number start line lines is =
    ap (λ found. behind number start (by_entry params sizes (length start.args) lines found)) (sym is)

-- the first of the lines that are left is bad
pub bad_first : (params : List ValueType) (sizes : List ℕ) (number : ℕ) (start : Start) (left : List (List ℕ)) (line : List ℕ) (lines : List (List ℕ)) →
    left ≡ line ∷ lines → None ≡ entry_of params sizes (length start.args) line →
    behind number start (said params sizes (length start.args) left) ≡ Err (number + 1)
bad_first params sizes number start left line lines first is =
    ap (λ all. behind number start (said params sizes (length start.args) all)) first
    ∙ bad params sizes number start line lines is

-- it is read
pub more_first : (params : List ValueType) (sizes : List ℕ) (number : ℕ) (start next : Start) (entry : Entry) (left : List (List ℕ)) (line : List ℕ) (lines : List (List ℕ)) →
    left ≡ line ∷ lines → Some entry ≡ entry_of params sizes (length start.args) line → next ≡ entry_behind start entry →
    behind number start (said params sizes (length start.args) left) ≡ behind (number + 1) next (said params sizes (length next.args) lines)
more_first params sizes number start next entry left line lines first is added =
    ap (λ all. behind number start (said params sizes (length start.args) all)) first
    ∙ one_more params sizes number start line lines entry is
    ∙ ap (λ (s : Start). behind (number + 1) s (said params sizes (length s.args) lines)) (sym added)

-- no line is left
pub none_left : (params : List ValueType) (sizes : List ℕ) (number arguments : ℕ) (start : Start) (left : List (List ℕ)) → left ≡ [] →
    behind number start (said params sizes arguments left) ≡ Ok start
none_left params sizes number arguments start left none =
    ap (λ all. behind number start (said params sizes arguments all)) none
    ∙ ap (λ (args : List ℕ). Ok (record { args = args; patches = start.patches ++ [] })) (append-nil start.args)
    ∙ ap (λ (patches : List Patch). Ok (record { args = start.args; patches = patches })) (append-nil start.patches)

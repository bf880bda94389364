-- The answer of a file is what its lines tell.
use Rattle.std.proofs.Common.{◌≡◌, ◌↔◌, ℕ, ◌+◌, Bool, true, false, cond, suc, List, [], ◌∷◌, ◌++◌, length, Option, Some, None, Result, Ok, Err, refl, sym, ap, subst, ◌∙◌, arith, append_assoc, append-nil}
use Rattle.std.proofs.lemmas.Bool.{le-ltb, lt-ltb, ltb-true, ltb-false}
use Rattle.std.proofs.Math.Dec.{ltb}
use Rattle.bl_base.specs.declared.names.ValueType.{ValueType}
use Rattle.bl_base.specs.declared.start.Start.{Start}
use Rattle.bl_text.specs.Lines.{lines_of}
use Rattle.bl_trace.specs.declared.entry.Entry.{Entry}
use Rattle.bl_trace.specs.declared.entry.Entry.TheVariants.{Argument, Contents}
use Rattle.bl_trace.specs.declared.error.StartError.{StartError}
use Rattle.bl_trace.specs.declared.error.StartError.TheVariants.{Count}
use Rattle.bl_trace.specs.Lines.{entry_of}
use Rattle.bl_trace.specs.StartFiles.{arguments_in, said_before, said, answer_by, answer_of}
use Rattle.bl_trace.specs.StartAnswers.{arguments, patches, AreEntries, Tells, start, bad, few}
use Rattle.bl_trace.proofs.LineLemmas.{by_entry}

-- one entry more has one argument more, or none
counted : (before : List Entry) (entry : Entry) → length (arguments before) + arguments_in entry ≡ length (arguments (before ++ entry ∷ []))
counted [] (Argument value) = refl
counted [] (Contents patch) = refl
counted (Argument value ∷ before) entry = omega (arith, counted before entry)
counted (Contents patch ∷ before) entry = counted before entry

-- an entry before the start that others make
entry_first : (entry : Entry) (entries : List Entry) →
    said_before entry (Ok (record { args = arguments entries; patches = patches entries }))
    ≡ Ok (record { args = arguments (entry ∷ entries); patches = patches (entry ∷ entries) })
entry_first (Argument value) entries = refl
entry_first (Contents patch) entries = refl

-- what is said of a line that is an entry, and of those behind it
said_entry : (params : List ValueType) (sizes : List ℕ) (before : List Entry) (line : List ℕ) (lines : List (List ℕ)) (entry : Entry) →
    entry_of params sizes (length (arguments before)) line ≡ Some entry →
    said params sizes (length (arguments before)) (line ∷ lines)
    ≡ said_before entry (said params sizes (length (arguments (before ++ entry ∷ []))) lines)
said_entry params sizes before line lines entry is =
    ap (by_entry params sizes (length (arguments before)) lines) is
    ∙ ap (λ n. said_before entry (said params sizes n lines)) (counted before entry)

-- lines that are entries say the start of these
said_entries : (params : List ValueType) (sizes : List ℕ) (before : List Entry) (lines : List (List ℕ)) (entries : List Entry) →
    AreEntries params sizes before lines entries →
    said params sizes (length (arguments before)) lines ≡ Ok (record { args = arguments entries; patches = patches entries })
said_entries params sizes before [] [] are = refl
said_entries params sizes before (line ∷ lines) (entry ∷ entries) (is, more) =
    said_entry params sizes before line lines entry is
    ∙ ap (said_before entry) (said_entries params sizes (before ++ entry ∷ []) lines entries more)
    ∙ entry_first entry entries
said_entries params sizes before [] (entry ∷ entries) are = elim are [ ]
said_entries params sizes before (line ∷ lines) [] are = elim are [ ]

-- a bad line's number counts the line before it
bad_more : (entry : Entry) (lines : ℕ) → said_before entry (Err (lines + 1)) ≡ Err (suc lines + 1)
bad_more entry lines = ap Err (omega arith)

-- behind lines that are entries, a bad line is the first bad one
said_bad : (params : List ValueType) (sizes : List ℕ) (before : List Entry) (front : List (List ℕ)) (entries : List Entry) (line : List ℕ)
    (behind : List (List ℕ)) → AreEntries params sizes before front entries →
    entry_of params sizes (length (arguments (before ++ entries))) line ≡ None →
    said params sizes (length (arguments before)) (front ++ line ∷ behind) ≡ Err (length front + 1)
said_bad params sizes before [] [] line behind are is =
    ap (by_entry params sizes (length (arguments before)) behind) (subst (λ b. entry_of params sizes (length (arguments b)) line ≡ None) (append-nil before) is)
said_bad params sizes before (first ∷ front) (entry ∷ entries) line behind (first_is, more) is =
    said_entry params sizes before first (front ++ line ∷ behind) entry first_is
    ∙ ap (said_before entry)
    (said_bad params sizes (before ++ entry ∷ []) front entries line behind more
    (subst (λ b. entry_of params sizes (length (arguments b)) line ≡ None) (sym (append_assoc before (entry ∷ []) entries)) is))
    ∙ bad_more entry (length front)
said_bad params sizes before [] (entry ∷ entries) line behind are is = elim are [ ]
said_bad params sizes before (first ∷ front) [] line behind are is = elim are [ ]

-- either all lines are entries, or one is the first that is none
data Reached (params : List ValueType) (sizes : List ℕ) (before : List Entry) (lines : List (List ℕ)) : Type 0 where
  all : (entries : List Entry) → AreEntries params sizes before lines entries → Reached params sizes before lines
  until : (front : List (List ℕ)) (line : List ℕ) (behind : List (List ℕ)) (entries : List Entry) → lines ≡ front ++ line ∷ behind →
      AreEntries params sizes before front entries → entry_of params sizes (length (arguments (before ++ entries))) line ≡ None →
      Reached params sizes before lines

-- one entry before the others
reached_more : (params : List ValueType) (sizes : List ℕ) (before : List Entry) (line : List ℕ) (lines : List (List ℕ)) (entry : Entry) →
    entry_of params sizes (length (arguments before)) line ≡ Some entry → Reached params sizes (before ++ entry ∷ []) lines →
    Reached params sizes before (line ∷ lines)
reached_more params sizes before line lines entry is (all entries are) = all (entry ∷ entries) (is, are)
reached_more params sizes before line lines entry is (until front bad_line behind entries split are none) =
    until (line ∷ front) bad_line behind (entry ∷ entries) (ap (λ rest. line ∷ rest) split) (is, are)
    (subst (λ b. entry_of params sizes (length (arguments b)) bad_line ≡ None) (append_assoc before (entry ∷ []) entries) none)

reached_by : (params : List ValueType) (sizes : List ℕ) (before : List Entry) (line : List ℕ) (lines : List (List ℕ))
    (found : Option Entry) → entry_of params sizes (length (arguments before)) line ≡ found →
    ((entry : Entry) → Reached params sizes (before ++ entry ∷ []) lines) → Reached params sizes before (line ∷ lines)
reached_by params sizes before line lines (Some entry) is more = reached_more params sizes before line lines entry is (more entry)
reached_by params sizes before line lines None is more =
    until [] line lines [] refl tt (subst (λ b. entry_of params sizes (length (arguments b)) line ≡ None) (sym (append-nil before)) is)

reached : (params : List ValueType) (sizes : List ℕ) (before : List Entry) (lines : List (List ℕ)) → Reached params sizes before lines
reached params sizes before [] = all [] tt
reached params sizes before (line ∷ lines) =
    reached_by params sizes before line lines (entry_of params sizes (length (arguments before)) line) refl
    (λ entry. reached params sizes (before ++ entry ∷ []) lines)

-- the answer of what is told
answer_told : (params : List ValueType) (sizes : List ℕ) (lines : List (List ℕ)) (answer : Result Start StartError) →
    Tells params sizes lines answer → answer_by params (said params sizes 0 lines) ≡ answer
answer_told params sizes lines _ (start entries are enough) =
    ap (answer_by params) (said_entries params sizes [] lines entries are)
    ∙ ap (λ b. cond b (Err (Count (length (arguments entries)))) (Ok (record { args = arguments entries; patches = patches entries })))
    (le-ltb (length (arguments entries)) (length params) enough)
answer_told params sizes lines _ (bad before line behind entries split are none) =
    ap (λ whole. answer_by params (said params sizes 0 whole)) split
    ∙ ap (answer_by params) (said_bad params sizes [] before entries line behind are none)
answer_told params sizes lines _ (few entries are below) =
    ap (answer_by params) (said_entries params sizes [] lines entries are)
    ∙ ap (λ b. cond b (Err (Count (length (arguments entries)))) (Ok (record { args = arguments entries; patches = patches entries })))
    (lt-ltb (length (arguments entries)) (length params) below)

-- what lines tell is what is reached in them
tells_entries : (params : List ValueType) (sizes : List ℕ) (lines : List (List ℕ)) (entries : List Entry) →
    AreEntries params sizes [] lines entries → (b : Bool) → ltb (length (arguments entries)) (length params) ≡ b →
    (answer : Result Start StartError) × Tells params sizes lines answer
tells_entries params sizes lines entries are true is = (_, few entries are (ltb-true _ _ is))
tells_entries params sizes lines entries are false is = (_, start entries are (ltb-false _ _ is))

tells : (params : List ValueType) (sizes : List ℕ) (lines : List (List ℕ)) → Reached params sizes [] lines →
    (answer : Result Start StartError) × Tells params sizes lines answer
tells params sizes lines (all entries are) = tells_entries params sizes lines entries are _ refl
tells params sizes lines (until front line behind entries split are none) = (_, bad front line behind entries split are none)

told_by : (params : List ValueType) (sizes : List ℕ) (lines : List (List ℕ)) (answer : Result Start StartError) →
    ((found : Result Start StartError) × Tells params sizes lines found) → answer_by params (said params sizes 0 lines) ≡ answer →
    Tells params sizes lines answer
told_by params sizes lines answer (found, told) is =
    subst (Tells params sizes lines) (sym (answer_told params sizes lines found told) ∙ is) told

-- a file's answer is what its lines tell
pub answer_tells : (params : List ValueType) (sizes bytes : List ℕ) (answer : Result Start StartError) →
    answer_of params sizes bytes ≡ answer ↔ Tells params sizes (lines_of bytes) answer
answer_tells params sizes bytes answer = (
  told_by params sizes (lines_of bytes) answer (tells params sizes (lines_of bytes) (reached params sizes [] (lines_of bytes))),
  answer_told params sizes (lines_of bytes) answer,
)

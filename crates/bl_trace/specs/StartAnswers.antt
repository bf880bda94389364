-- What a start file tells, in the words of its lines: which entry each line is, and which line is the first bad one.
use Rattle.std.specs.Prelude.{◌≡◌, ℕ, ◌+◌, ◌<◌, ◌≤◌, List, [], ◌∷◌, ◌++◌, length, Some, None, Result, Ok, Err}
use Rattle.bl_base.specs.declared.names.ValueType.{ValueType}
use Rattle.bl_base.specs.declared.start.Patch.{Patch}
use Rattle.bl_base.specs.declared.start.Start.{Start}
use Rattle.bl_trace.specs.declared.entry.Entry.{Entry}
use Rattle.bl_trace.specs.declared.entry.Entry.TheVariants.{Argument, Contents}
use Rattle.bl_trace.specs.declared.error.StartError.{StartError}
use Rattle.bl_trace.specs.declared.error.StartError.TheVariants.{Line, Count}
use Rattle.bl_trace.specs.Lines.{entry_of}

-- the arguments among entries, in their order
abbrev pub arguments : List Entry → List ℕ
arguments [] = []
arguments (Argument value ∷ entries) = value ∷ arguments entries
arguments (Contents patch ∷ entries) = arguments entries

-- the patches among entries, in their order
abbrev pub patches : List Entry → List Patch
patches [] = []
patches (Argument value ∷ entries) = patches entries
patches (Contents patch ∷ entries) = patch ∷ patches entries

-- each line is its entry, where as many arguments stand before it as the lines before it have
abbrev pub AreEntries : List ValueType → List ℕ → List Entry → List (List ℕ) → List Entry → Type 0
AreEntries params sizes before [] [] = Unit {0}
AreEntries params sizes before (line ∷ lines) (entry ∷ entries) =
    (entry_of params sizes (length (arguments before)) line ≡ Some entry) × AreEntries params sizes (before ++ entry ∷ []) lines entries
AreEntries params sizes before [] (entry ∷ entries) = ⊥
AreEntries params sizes before (line ∷ lines) [] = ⊥

-- what lines tell
pub data Tells (params : List ValueType) (sizes : List ℕ) (lines : List (List ℕ)) : Result Start StartError → Type 0 where
  -- every line is an entry, and no parameter lacks its argument
  start : (entries : List Entry) → AreEntries params sizes [] lines entries → length params ≤ length (arguments entries) →
      Tells params sizes lines (Ok (record { args = arguments entries; patches = patches entries }))
  -- every line before one is an entry, and that one is none
  bad : (before : List (List ℕ)) (line : List ℕ) (behind : List (List ℕ)) (entries : List Entry) → lines ≡ before ++ line ∷ behind →
      AreEntries params sizes [] before entries → entry_of params sizes (length (arguments entries)) line ≡ None →
      Tells params sizes lines (Err (Line (length before + 1)))
  -- every line is an entry, and there are too few arguments
  few : (entries : List Entry) → AreEntries params sizes [] lines entries → length (arguments entries) < length params →
      Tells params sizes lines (Err (Count (length (arguments entries))))

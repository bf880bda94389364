-- What is read so far of a start file.
use Rattle.std.specs.Prelude.{◌≡◌, ℕ, ◌++◌, [], ◌∷◌, Result, Ok, Err}
use Rattle.bl_base.specs.declared.start.Start.{Start}
use Rattle.bl_trace.specs.declared.entry.Entry.{Entry}
use Rattle.bl_trace.specs.declared.entry.Entry.TheVariants.{Argument, Contents}
use Rattle.bl_trace.specs.declared.error.StartError.{StartError}
use Rattle.bl_trace.specs.declared.error.StartError.TheVariants.{Line, Count, Memory}

-- an entry behind those of a start
abbrev pub entry_behind : Start → Entry → Start
entry_behind start (Argument value) = record start { args = start.args ++ value ∷ [] }
entry_behind start (Contents patch) = record start { patches = start.patches ++ patch ∷ [] }

-- what is read of lines that say that
abbrev pub IsRead : Result Start ℕ → Result Start StartError → Type 0
IsRead asked (Ok start) = asked ≡ Ok start
IsRead asked (Err (Line number)) = asked ≡ Err number
IsRead asked (Err (Count count)) = ⊥
IsRead asked (Err Memory) = Unit {0}

-- What is known of a program before a run.
use Rattle.std.specs.Prelude.{◌≡◌, ℕ, ◌+◌, ◌*◌, List, [], ◌∷◌, ◌++◌, length, replicate}
use Rattle.bl_program.specs.Layout.{statics, first_of, entry_of, params_of, results_of}
use Rattle.bl_program.specs.Programs.{IsProgram}
use Rattle.bl_program.specs.Rules.{IsWellFormed}
use Rattle.bl_program.specs.declared.definitions.FunctionDef.{FunctionDef}
use Rattle.bl_program.specs.declared.definitions.MemoryDef.{MemoryDef}
use Rattle.bl_program.specs.declared.definitions.ProgramParts.{ProgramParts as Program}
use Rattle.bl_seq.specs.declared.layout.Frame.{Frame}
use Rattle.bl_seq.specs.declared.layout.Layout.{Layout}

-- what is known of a function
abbrev pub frame_of : Program → ℕ → Frame
frame_of program function = record {
  entry = entry_of program function;
  first = first_of program function;
  params = params_of program function;
  results = results_of program function;
}

-- functions whose commands and variables begin there, and behind them one that has none
abbrev pub frames_from : ℕ → ℕ → List FunctionDef → List Frame
frames_from entry first [] = record { entry = entry; first = first; params = 0; results = 0 } ∷ []
frames_from entry first (function ∷ functions) =
    record { entry = entry; first = first; params = length function.params; results = length function.results }
    ∷ frames_from (entry + function.length) (first + function.vars) functions

-- for each position of functions the number of the one that holds it, where the first one has that number
abbrev pub owners_from : ℕ → List FunctionDef → List ℕ
owners_from number [] = []
owners_from number (function ∷ functions) = replicate function.length number ++ owners_from (number + 1) functions

-- where memories end that begin there
abbrev pub ends_from : ℕ → List MemoryDef → List ℕ
ends_from base [] = []
ends_from base (memory ∷ memories) = (base + memory.reserve * 65536) ∷ ends_from (base + memory.reserve * 65536) memories

-- the layout is its program's, which is well-formed
pub record IsLayout (layout : Layout) : Type 0 where
  pub facts : IsProgram layout.parts.now
  pub rules : IsWellFormed layout.parts.now
  pub statics_are : layout.statics ≡ statics layout.parts.now
  pub frames : layout.frames.items ≡ frames_from 7 (statics layout.parts.now) layout.parts.now.functions
  pub owners : layout.owners.items ≡ replicate 7 0 ++ owners_from 0 layout.parts.now.functions
  pub bases : layout.bases.items ≡ 0 ∷ ends_from 0 layout.parts.now.memories

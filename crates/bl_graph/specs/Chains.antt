-- Chains of sites from loads to sinks.
use Rattle.std.specs.Prelude.{ℕ, List, [], ◌∷◌}
use Rattle.bl_program.specs.Sites.{IsLoad, Writes, Reads, SinkReads}
use Rattle.bl_program.specs.declared.definitions.ProgramParts.{ProgramParts as Program}

-- from a variable on, each site in this order reads what the former wrote, and a sink reads what the last wrote
abbrev pub Carries : Program → ℕ → List ℕ → ℕ → Type 0
Carries program x [] sink = SinkReads program sink x
Carries program x (s ∷ rest) sink = Reads program s x × ((y : ℕ) × Writes program s y × Carries program y rest sink)

-- the sites begin at a load and lead to a sink
abbrev pub IsChain : Program → List ℕ → ℕ → Type 0
IsChain program [] sink = ⊥
IsChain program (s ∷ rest) sink = IsLoad program s × ((x : ℕ) × Writes program s x × Carries program x rest sink)

-- The least choice of protects, also where something is asked of variables.
use Rattle.std.specs.Prelude.{◌≡◌, ◌≤◌, ℕ, Bool}
use Rattle.bl_program.specs.Sites.{weight_of}
use Rattle.bl_program.specs.declared.definitions.ProgramParts.{ProgramParts as Program}
use Rattle.bl_graph.specs.Ranges.{AreSites}
use Rattle.bl_transient.specs.Transient.{Asked, nothing, PassesUnder, TransUnder}

-- a passing set of sites of least weight, whose transient variables are contained in those of every other one of that weight
pub record LeastUnder (asked : Asked) (program : Program) (set : ℕ → Bool) : Type 0 where
  pub sites : AreSites program set
  pub passes : PassesUnder asked program set
  pub lightest : (other : ℕ → Bool) → AreSites program other → PassesUnder asked program other → weight_of program set ≤ weight_of program other
  pub nearest : (other : ℕ → Bool) → AreSites program other → PassesUnder asked program other → weight_of program set ≡ weight_of program other
      → (x : ℕ) → TransUnder asked program set x → TransUnder asked program other x

-- the same where nothing is asked
abbrev pub Least : Program → (ℕ → Bool) → Type 0
Least = LeastUnder nothing

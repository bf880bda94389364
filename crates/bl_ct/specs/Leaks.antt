-- The first step of a search whose variable may not be secret.
use Rattle.std.specs.Prelude.{◌≡◌, ◌⊎◌, ℕ, Bool, Contains, IsTrue, List, Option, Some, None}
use Rattle.bl_ct.specs.declared.search.Step.{Step}
use Rattle.bl_ct.specs.declared.search.Cause.TheVariants.{Loaded}
use Rattle.bl_ct.specs.declared.verdict.Leak.{Leak}
use Rattle.bl_ct.specs.SecretSearch.{Has, entry_of, mark_of}

-- by a table of ends and one of demanded variables, the variable of a step may not be secret, or may
abbrev pub LeakOf : List ℕ → List (Option ℕ) → List Bool → Step → Option ℕ → Type 0
LeakOf names ends demanded step (Some end) =
    (entry_of names ends step.var ≡ Some end) ⊎ ((memory : ℕ) × (step.cause ≡ Loaded end memory) × IsTrue (mark_of names demanded step.var))
LeakOf names ends demanded step None =
    (entry_of names ends step.var ≡ None) × ((load memory : ℕ) → step.cause ≡ Loaded load memory → IsTrue (mark_of names demanded step.var) → ⊥)

-- there is such a step in the queue, or none
abbrev pub LeakFound : List ℕ → List Step → List (Option ℕ) → List Bool → Option Leak → Type 0
LeakFound names queue ends demanded (Some leak) = (step : Step) × Has queue leak.place step × LeakOf names ends demanded step (Some leak.end)
LeakFound names queue ends demanded None = (step : Step) → Contains queue step → LeakOf names ends demanded step None

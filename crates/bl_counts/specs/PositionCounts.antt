-- Counts of a run, one for each position.
use Rattle.std.specs.Prelude.{◌≡◌, ◌<◌, ℕ, List, length, map, get_or}
use Rattle.bl_program.specs.Steps.{Plain, plain_step}
use Rattle.bl_program.specs.declared.definitions.ProgramParts.{ProgramParts as Program}
use Rattle.bl_counts.specs.RunCounts.{stepped, times}

-- how often commands at a position are executed from a state on, within so many steps
abbrev pub times_from : Program → Plain → ℕ → ℕ → ℕ
times_from program s steps at = times (map (λ c. c.position) (stepped (plain_step program) steps s)) at

-- so it is of each position that has a count
abbrev pub AreTimes : Program → Plain → ℕ → List ℕ → Type 0
AreTimes program s steps counted = (at : ℕ) → at < length counted → get_or counted at 0 ≡ times_from program s steps at

-- Who goes to a position by naming it.
use Rattle.std.specs.Prelude.{◌≡◌, ◌≤◌, ℕ, IsSomeAnd, List, length, set, Option, Some, None, slice_get, unwrap_or}
use Rattle.bl_program.specs.Rules.{GoesTo}
use Rattle.bl_program.specs.declared.command.Command.{Command}
use Rattle.bl_program.specs.declared.command.Command.TheVariants.{Test, Jump}
use Rattle.bl_cmd.specs.declared.tables.Entrants.{Entrants}

-- the command at a position goes to another one
abbrev pub Goes : List Command → ℕ → ℕ → Type 0
Goes commands from to = IsSomeAnd (slice_get commands from) (λ command. GoesTo command to)

-- what is kept of those that go to a position: nothing where there are none, else the least and the greatest
abbrev pub Spans : (ℕ → Type 0) → Option Entrants → Type 0
Spans Goes None = (from : ℕ) → Goes from → ⊥
Spans Goes (Some entrants) =
    Goes entrants.least × Goes entrants.greatest × ((from : ℕ) → Goes from → (entrants.least ≤ from) × (from ≤ entrants.greatest))

-- what is kept of each position, where it is known of two positions whether the first one goes to the second
abbrev pub AreNoted : (ℕ → ℕ → Type 0) → List (Option Entrants) → Type 0
AreNoted Goes entrants = (to : ℕ) (entry : Option Entrants) → slice_get entrants to ≡ Some entry → Spans (λ from. Goes from to) entry

-- what is kept of each position of a program
pub record AreEntrants (commands : List Command) (entrants : List (Option Entrants)) : Type 0 where
  pub len : length entrants ≡ length commands
  pub each : AreNoted (Goes commands) entrants

-- with one more, behind all others
abbrev pub joined : Option Entrants → ℕ → Entrants
joined None from = record { least = from; greatest = from }
joined (Some entrants) from = record { least = entrants.least; greatest = from }

-- with one more that goes to a position, if it is one of those that are kept
abbrev pub with_entrant : List (Option Entrants) → ℕ → ℕ → List (Option Entrants)
with_entrant entrants from to = set entrants to (Some (joined (unwrap_or (slice_get entrants to) None) from))

-- with the command at a position
abbrev pub with_entrants : Command → List (Option Entrants) → ℕ → List (Option Entrants)
with_entrants (Test cond one other) entrants from = with_entrant (with_entrant entrants from one.0) from other.0
with_entrants (Jump to) entrants from = with_entrant entrants from to.0
with_entrants _ entrants from = entrants

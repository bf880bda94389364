-- Counts of recorded runs: which commands are executed, which entries are bad, that a run's counts have none; and counts of several runs, added.
use Rattle.std.specs.Prelude.{◌≡◌, ◌≤◌, ◌<◌, ◌+◌, ◌^◌, ℕ, true, List, [], ◌∷◌, ◌++◌, Option, Some, None}
use Rattle.std.specs.List.{All, AllPairs}
use Rattle.bl_base.specs.Runs.{HasStep, StepsTo}
use Rattle.bl_base.specs.declared.number.Pos.{Pos}
use Rattle.bl_base.specs.declared.start.Start.{Start}
use Rattle.bl_program.specs.Outcomes.{opening}
use Rattle.bl_program.specs.Steps.{Plain, plain_step}
use Rattle.bl_program.specs.declared.definitions.ProgramParts.{ProgramParts as Program}
use Rattle.bl_counts.specs.RunCounts.{count_in, executed, first_bad, is_site, times, total}
use Rattle.bl_counts.specs.declared.counts.SiteCount.{SiteCount}

-- each position is a site, and they rise
pub record AreRising (program : Program) (counts : List SiteCount) : Type 0 where
  pub are_sites : All (λ one. is_site program one.at.0 ≡ true) counts
  pub rise : AllPairs (λ one next. one.at.0 < next.at.0) counts

-- the first entry that ends this, if there is one
pub data FirstBad (program : Program) (counts : List SiteCount) : Option Pos → Type 0 where
  none_bad : AreRising program counts → FirstBad program counts None
  bad : (before : List SiteCount) (one : SiteCount) (behind : List SiteCount) → counts ≡ before ++ one ∷ behind → AreRising program before
      → (AreRising program (before ++ one ∷ []) → ⊥) → FirstBad program counts (Some one.at)

-- the run comes to that position in so many steps, there is a step from there, and it is within those that were asked for
pub record IsExecuted (program : Program) (function : ℕ) (start : Start) (steps count at : ℕ) : Type 0 where
  pub state : Plain
  pub comes : StepsTo (plain_step program) count (opening program function start) state
  pub has_step : HasStep (plain_step program state)
  pub within : count < steps
  pub stands : state.position ≡ at

-- a count that a line can say
pub record IsWritten (one : SiteCount) : Type 0 where
  pub at_fits : one.at.0 < 2 ^ 32
  pub some : 0 < one.count
  pub count_fits : one.count < 2 ^ 32

-- counts that the program can be weighed by: each is of a site of it, they rise, and each can be told in a line; and together they are at
-- most so many
pub record AreRecorded (program : Program) (most : ℕ) (counts : List SiteCount) : Type 0 where
  pub are_sites : first_bad program None counts ≡ None
  pub each : All IsWritten counts
  pub few : total counts ≤ most

-- ---- several runs

-- a run of a program: its function, its start, and within how many steps it is taken
pub record Recorded : Type 0 where
  pub function : ℕ
  pub start : Start
  pub steps : ℕ

-- the positions of the commands that runs execute, one run after another
abbrev pub all_executed : Program → List Recorded → List ℕ
all_executed program [] = []
all_executed program (run ∷ runs) = executed program run.function run.start run.steps ++ all_executed program runs

-- counts are those of the runs together: for each site, how many of the commands that they execute stand there
abbrev pub AreAdded : Program → List Recorded → List SiteCount → Type 0
AreAdded program runs counts = (s : ℕ) → is_site program s ≡ true → count_in counts s ≡ times (all_executed program runs) s

-- counts are those of two lists, added position by position
abbrev pub AreSums : Program → List SiteCount → List SiteCount → List SiteCount → Type 0
AreSums program one two sums = (s : ℕ) → is_site program s ≡ true → count_in sums s ≡ count_in one s + count_in two s

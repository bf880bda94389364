-- What a call answers.
use Rattle.std.specs.Prelude.{◌≡◌, ◌<◌, ◌≤◌, ◌^◌, ◌==◌, if◌then◌else◌, ℕ, List, [], ◌∷◌, Option, Some, None, Result, Ok, Err}
use Rattle.bl_program.specs.declared.definitions.ProgramParts.{ProgramParts as Program}
use Rattle.bl_counts.specs.RunCounts.{first_bad, total, weighed}
use Rattle.bl_counts.specs.declared.counts.SiteCount.{SiteCount}
use Rattle.bl_counts.specs.declared.error.CountError.{CountError}
use Rattle.bl_counts.specs.declared.error.CountError.TheVariants.{Site, Total, Memory}

-- why counts are refused
abbrev pub Refuses : Program → List SiteCount → CountError → Type 0
Refuses program counts (Site at) = first_bad program None counts ≡ Some at
Refuses program counts (Total sum) = (first_bad program None counts ≡ None) × (total counts ≡ sum) × (2 ^ 32 ≤ sum)
Refuses program counts Memory = Unit {0}

-- the weighed program; Site and Total exactly where they are due; a refusal gives the program back
abbrev pub Weighs : Program → List SiteCount → Result Program (Program × CountError) → Type 0
Weighs program counts (Ok weighted) = (weighted ≡ weighed counts program) × (first_bad program None counts ≡ None) × (total counts < 2 ^ 32)
Weighs program counts (Err refusal) = (refusal.0 ≡ program) × Refuses program counts refusal.1

-- the count of the first entry, where it stands for that position
abbrev pub named : List SiteCount → ℕ → Option ℕ
named [] at = None
named (one ∷ others) at = if one.at.0 == at then Some one.count else None

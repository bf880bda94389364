-- Sets of facts at positions, with which a program is definite.
use Rattle.std.proofs.Common.{◌≡◌, ◌⊎◌, inl, inr, ℕ, Bool, true, subst}
use Rattle.bl_program.specs.declared.definitions.ProgramParts.{ProgramParts as Program}
use Rattle.bl_definite.specs.Facts.{AreKnown, IsDefinite, IsFirstLacking, Lacks, begins, lost, goes_on}
use Rattle.bl_definite.specs.declared.facts.Fact.{Fact}
use Rattle.bl_definite.proofs.Ways.{makes_keeps}

-- what is in a position's set isn't lacking there
known_there : (program : Program) (known : ℕ → Fact → Bool) (fact : Fact) (position : ℕ) → AreKnown program known → Lacks program fact position → known position fact ≡ true → ⊥
known_there program known fact _ sets (begins function position exists same unknown) is =
    unknown (sets.entries function fact exists (subst (λ (k : ℕ). known k fact ≡ true) same is))
known_there program known fact _ sets (lost from position here stands follows loses) is = elim (sets.along from position here fact stands follows is) as (λ _. ⊥) [
  | inl makes ↦ makes_keeps here fact makes loses
  | inr stays ↦ stays.0 loses
]
known_there program known fact _ sets (goes_on from position here stands follows unmade lacks) is = elim (sets.along from position here fact stands follows is) as (λ _. ⊥) [
  | inl makes ↦ unmade makes
  | inr stays ↦ known_there program known fact from sets lacks stays.1
]

pub known_definite : (program : Program) (known : ℕ → Fact → Bool) → AreKnown program known → IsDefinite program
known_definite program known sets function position holds here fact stands needs lacks =
    known_there program known fact position sets lacks (sets.found function position here fact holds stands needs)

pub lacking_indefinite : (program : Program) (position : ℕ) → IsFirstLacking program position → IsDefinite program → ⊥
lacking_indefinite program position first definite = definite first.function position first.holds first.here first.fact first.stands first.needs first.lacks

-- Sites that a typing feeds, and those that write a variable that is stable in it.
use Rattle.std.proofs.Common.{◌≡◌, ℕ, Bool, true, false, ◌⊎◌, inl, inr, ◌&&◌}
use Rattle.bl_base.proofs.Decisions.{Decided, decided_either, decided_false, decided_true, holds, holds_if, if_holds}
use Rattle.bl_program.specs.Sites.{IsLoad, Writes, Reads}
use Rattle.bl_program.specs.declared.definitions.ProgramParts.{ProgramParts as Program}
use Rattle.bl_graph.proofs.CommandLists.{decided_load, decided_read, decided_write}

module _ (program : Program) (t : ℕ → Bool) (s : ℕ) where
  decided_fed : Decided (IsLoad program s ⊎ ((x : ℕ) × Reads program s x × (t x ≡ true)))
  decided_fed = decided_either (decided_load program s) (decided_read program s (λ x. t x ≡ true) (λ x. decided_true (t x)))

  decided_stable : Decided ((x : ℕ) × Writes program s x × (t x ≡ false))
  decided_stable = decided_write program s (λ x. t x ≡ false) (λ x. decided_false (t x))

  -- whether a typing feeds a site, and whether the site writes a variable that is stable in it
  pub feeds : Bool
  feeds = holds decided_fed

  pub writes_stable : Bool
  writes_stable = holds decided_stable

  abbrev pub crossed_by : Bool
  crossed_by = feeds && writes_stable

  pub fed_load : IsLoad program s → feeds ≡ true
  unfolding feeds
  fed_load load = holds_if decided_fed (inl load)

  pub fed_read : (x : ℕ) → Reads program s x → t x ≡ true → feeds ≡ true
  unfolding feeds
  fed_read x reads e = holds_if decided_fed (inr (x, reads, e))

  pub fed_how : feeds ≡ true → IsLoad program s ⊎ ((x : ℕ) × Reads program s x × (t x ≡ true))
  unfolding feeds
  fed_how h = if_holds decided_fed h

  pub stable_write : (x : ℕ) → Writes program s x → t x ≡ false → writes_stable ≡ true
  unfolding writes_stable
  stable_write x writes e = holds_if decided_stable (x, writes, e)

  pub stable_how : writes_stable ≡ true → (x : ℕ) × Writes program s x × (t x ≡ false)
  unfolding writes_stable
  stable_how h = if_holds decided_stable h

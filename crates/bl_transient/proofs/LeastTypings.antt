-- The least typing, as a test, and what passes, also where something is asked of variables.
use Rattle.std.proofs.Common.{◌≡◌, ◌⊎◌, ℕ, ◌<◌, Bool, true, refl, subst, inl, inr, not}
use Rattle.std.specs.Prelude.{IsTrue, ◌↔◌}
use Rattle.std.proofs.lemmas.Bool.{cases_eq, not_from_false, false_from_ne_true, false≢true}
use Rattle.bl_base.proofs.BoolLemmas.{never_both}
use Rattle.bl_base.proofs.Decisions.{Decided, decided_as, decided_below, decided_either, decided_three, decided_true, holds, holds_if, if_holds}
use Rattle.bl_program.specs.Sites.{IsLoad, Loads, SinkReads, Writes}
use Rattle.bl_program.specs.declared.definitions.ProgramParts.{ProgramParts as Program}
use Rattle.bl_graph.specs.Ranges.{commands}
use Rattle.bl_graph.proofs.Closures.{Reached, decided_reached, reached_least, reached_on}
use Rattle.bl_graph.proofs.CommandLists.{decided_load, decided_write, stands_below}
use Rattle.bl_transient.specs.Transient.{Asked, nothing, AssignsUnder, FlowsUnder, PassesUnder, Passes, TransUnder, Trans, loaded, moved, given, IsFedUnder}

-- the least set is contained in each typing
pub trans_least : (asked : Asked) (program : Program) (typing set : ℕ → Bool) (x : ℕ) → AssignsUnder asked program typing set → TransUnder asked program set x
    → IsTrue (typing x)
trans_least asked program typing set x keeps (loaded s _ load writes may) = keeps.loads s x load writes may
trans_least asked program typing set x keeps (moved s y _ reads writes may t) =
    keeps.moves s y x reads writes may (trans_least asked program typing set y keeps t)
trans_least asked program typing set x keeps (given _ transient) = keeps.given x transient

-- where a set passes, no sink variable is in the least set
pub passing_sinks : (asked : Asked) (program : Program) (set : ℕ → Bool) → PassesUnder asked program set → (position x : ℕ) → SinkReads program position x
    → TransUnder asked program set x → ⊥
passing_sinks asked program set passes position x sink t =
    never_both (passes.0 x) (trans_least asked program passes.0 set x passes.1.assigns t) (passes.1.sinks position x sink)

-- and none that is asked to be stable
pub passing_stable : (asked : Asked) (program : Program) (set : ℕ → Bool) → PassesUnder asked program set → (x : ℕ) → IsTrue (asked.stable x)
    → TransUnder asked program set x → ⊥
passing_stable asked program set passes x stable t =
    never_both (passes.0 x) (trans_least asked program passes.0 set x passes.1.assigns t) (passes.1.stable x stable)

-- what flows out of a fed site that isn't protected
pub fed_writes : (asked : Asked) (program : Program) (set : ℕ → Bool) (s x : ℕ) → IsFedUnder asked program set s → Writes program s x → IsTrue (not (set s))
    → TransUnder asked program set x
fed_writes asked program set s x (inl load) writes may = loaded s x load writes may
fed_writes asked program set s x (inr r) writes may = moved s r.0 x r.1 writes may r.2

module _ (asked : Asked) (program : Program) (set : ℕ → Bool) where
  -- a variable that is asked to be transient, or that a Load writes that isn't protected
  abbrev Begins : ℕ → Type 0
  Begins x = IsTrue (asked.transient x) ⊎ ((s : ℕ) × (s < commands program) × (IsLoad program s × IsTrue (not (set s)) × ((y : ℕ) × Writes program s y × (y ≡ x))))

  begins : (x : ℕ) → Decided (Begins x)
  begins x =
      decided_either (decided_true (asked.transient x))
      (decided_below (commands program) (λ s. IsLoad program s × IsTrue (not (set s)) × ((y : ℕ) × Writes program s y × (y ≡ x)))
      (λ s. decided_three (decided_load program s) (decided_true (not (set s))) (decided_write program s (λ y. y ≡ x) (λ y. cases_eq y x))))

  abbrev Free : ℕ → Type 0
  Free s = IsTrue (not (set s))

  abbrev FromBegins : ℕ → Type 0
  FromBegins = Reached program Free (λ s. decided_true (not (set s))) Begins begins

  reached_trans : (x : ℕ) → FromBegins x → TransUnder asked program set x
  reached_trans = reached_least program Free (λ s. decided_true (not (set s))) Begins begins (TransUnder asked program set)
      (λ x b. elim b as (λ _. TransUnder asked program set x) [
        | inl transient ↦ given x transient
        | inr l ↦ subst (TransUnder asked program set) l.2.2.2 (loaded l.0 l.2.2.0 l.2.0 l.2.2.1 l.2.1)
      ])
      (λ s x y reads writes may t. moved s x y reads writes may t)

  trans_reached : (x : ℕ) → TransUnder asked program set x → FromBegins x
  trans_reached x (loaded s _ load writes may) = inl (inr (s, stands_below program s Loads load, (load, may, (x, writes, refl))))
  trans_reached x (moved s y _ reads writes may t) = reached_on program Free (λ s. decided_true (not (set s))) Begins begins s y x reads writes may (trans_reached y t)
  trans_reached x (given _ transient) = inl (inl transient)

  pub decided_trans : (x : ℕ) → Decided (TransUnder asked program set x)
  decided_trans x = decided_as (reached_trans x) (trans_reached x) (decided_reached program Free (λ s. decided_true (not (set s))) Begins begins x)

  pub least_typing : ℕ → Bool
  least_typing x = holds (decided_trans x)

  pub typing_trans : (x : ℕ) → least_typing x ≡ true → TransUnder asked program set x
  unfolding least_typing
  typing_trans x h = if_holds (decided_trans x) h

  pub is_trans : (x : ℕ) → TransUnder asked program set x → least_typing x ≡ true
  unfolding least_typing
  is_trans x t = holds_if (decided_trans x) t

  -- a typing by which exactly these are transient keeps the rules
  module _ (typing : ℕ → Bool) (exact : (x : ℕ) → IsTrue (typing x) ↔ TransUnder asked program set x) where
    exact_assigns : AssignsUnder asked program typing set
    exact_assigns = record {
      loads = λ s x load writes may. (exact x).1 (loaded s x load writes may);
      moves = λ s x y reads writes may h. (exact y).1 (moved s x y reads writes may ((exact x).0 h));
      given = λ x transient. (exact x).1 (given x transient);
    }

    pub exact_flows : ((position x : ℕ) → SinkReads program position x → TransUnder asked program set x → ⊥) → ((x : ℕ) → IsTrue (asked.stable x) → TransUnder asked program set x → ⊥)
        → FlowsUnder asked program typing set
    exact_flows sinks stable = record {
      assigns = exact_assigns;
      sinks = λ position x sink. not_from_false _ (false_from_ne_true _ (λ h. sinks position x sink ((exact x).0 h)));
      stable = λ x is. not_from_false _ (false_from_ne_true _ (λ h. stable x is ((exact x).0 h)));
    }

  pub least_assigns : AssignsUnder asked program least_typing set
  least_assigns = exact_assigns least_typing (λ x. (typing_trans x, is_trans x))

  pub passes_under_if : ((position x : ℕ) → SinkReads program position x → TransUnder asked program set x → ⊥)
      → ((x : ℕ) → IsTrue (asked.stable x) → TransUnder asked program set x → ⊥) → PassesUnder asked program set
  passes_under_if sinks stable = (least_typing, exact_flows least_typing (λ x. (typing_trans x, is_trans x)) sinks stable)

-- where nothing is asked
pub passes_if : (program : Program) (set : ℕ → Bool) → ((position x : ℕ) → SinkReads program position x → Trans program set x → ⊥) → Passes program set
passes_if program set none = passes_under_if nothing program set none (λ x stable. absurd (false≢true stable))

-- The least set by the counts of runs, added, is executed least in them together.
use Rattle.std.proofs.Common.{append-nil, ◌≡◌, ℕ, zero, suc, ◌+◌, ◌*◌, ◌^◌, ◌<◌, ◌≤◌, ◌⊎◌, inl, inr, Bool, true, false, List, [], ◌∷◌, ◌++◌, length, Option, Some, None, slice_get, unwrap_or, refl, sym, ap, subst, ◌∙◌, arith}
use Rattle.std.specs.Prelude.{◌==◌, ◌&&◌, IsSome, is_some, option_map, option_and_then, if◌then◌else◌, count_by}
use Rattle.std.proofs.lemmas.Bool.{ne_eqb, eq-eqb, cases_lt, false≢true}
use Rattle.std.proofs.lemmas.List.Sums.{sum_by-append, sum_by-cons}
use Rattle.bl_base.specs.Sums.{sum_below}
use Rattle.bl_base.proofs.Sums.{sum_same, sum_change, sum_none}
use Rattle.bl_program.specs.Rules.{IsWellFormed}
use Rattle.bl_program.specs.Sites.{mark_of, mark_at}
use Rattle.bl_program.specs.declared.command.Mark.{Mark}
use Rattle.bl_program.specs.declared.command.Command.{Command}
use Rattle.bl_program.specs.declared.definitions.ProgramParts.{ProgramParts as Program}
use Rattle.bl_graph.specs.Ranges.{AreSites}
use Rattle.bl_transient.specs.Transient.{Passes}
use Rattle.bl_cut.specs.Least.{Least}
use Rattle.bl_counts.specs.RunCounts.{IsFewer, executions, sites, bare, count_in, counts_from, counts_of, exec, executed, is_site, size_of, times, weight_by, weighed, with_count}
use Rattle.bl_counts.specs.RecordedRuns.{AreAdded, AreSums, Recorded, all_executed}
use Rattle.bl_counts.specs.declared.counts.SiteCount.{SiteCount}
use Rattle.bl_counts.proofs.BarePrograms.{is_site_same}
use Rattle.bl_counts.proofs.WeightedPrograms.{counted, few, weighs, weight_is}

-- ---- the count that is named for a site

module _ (count : ℕ → ℕ) where
  none_before : (s i : ℕ) (commands : List Command) → s < i → count_in (counts_from count i commands) s ≡ 0
  none_before s i [] lt = refl
  none_before s i (command ∷ commands) lt = by (count i) (mark_of command) (none_before s (suc i) commands (omega arith))
    where
      by : (n : ℕ) (o : Option Mark) → count_in (counts_from count (suc i) commands) s ≡ 0 → count_in (with_count i n o (counts_from count (suc i) commands)) s ≡ 0
      by zero o rest = rest
      by (suc n) None rest = rest
      by (suc n) (Some mark) rest = rw (ne_eqb i s (λ e. omega arith)) rest

  count_is : (i k : ℕ) (commands : List Command) → is_some (option_and_then mark_of (slice_get commands k)) ≡ true → count_in (counts_from count i commands) (i + k) ≡ count (i + k)
  count_is i k [] site = absurd (false≢true site)
  count_is i zero (command ∷ commands) site = subst (λ (n : ℕ). count_in (counts_from count i (command ∷ commands)) n ≡ count n) none (by (count i) (mark_of command) refl site (none_before i (suc i) commands (omega arith)))
    where
      none : i ≡ i + 0
      none = omega arith

      by : (n : ℕ) (o : Option Mark) → count i ≡ n → is_some o ≡ true → count_in (counts_from count (suc i) commands) i ≡ 0 → count_in (with_count i n o (counts_from count (suc i) commands)) i ≡ count i
      by zero o e site rest = rest ∙ sym e
      by (suc n) None e site rest = absurd (false≢true site)
      by (suc n) (Some mark) e site rest = rw (eq-eqb i i refl) (sym e)
  count_is i (suc k) (command ∷ commands) site =
      by (count i) (mark_of command) (subst (λ (n : ℕ). count_in (counts_from count (suc i) commands) n ≡ count n) next (count_is (suc i) k commands site))
    where
      next : suc i + k ≡ i + suc k
      next = omega arith

      by : (n : ℕ) (o : Option Mark) → count_in (counts_from count (suc i) commands) (i + suc k) ≡ count (i + suc k)
          → count_in (with_count i n o (counts_from count (suc i) commands)) (i + suc k) ≡ count (i + suc k)
      by zero o rest = rest
      by (suc n) None rest = rest
      by (suc n) (Some mark) rest = rw (ne_eqb i (i + suc k) (λ e. omega arith)) rest

-- ---- executions, by positions and by commands

within : (commands : List Command) (s : ℕ) → is_some (option_and_then mark_of (slice_get commands s)) ≡ true → s < length commands
within [] s site = absurd (false≢true site)
within (command ∷ commands) zero site = omega arith
within (command ∷ commands) (suc s) site = let rest = within commands s site in omega arith

right_of : (a b : Bool) → (a && b) ≡ true → b ≡ true
right_of true b h = h
right_of false b h = absurd (false≢true h)

module _ (f : ℕ → Bool) (n : ℕ) (inside : (s : ℕ) → f s ≡ true → s < n) where
  by_position : (positions : List ℕ) → sum_below n (λ s. if f s then times positions s else 0) ≡ count_by f positions
  by_position [] = sum_none n (λ s. if f s then 0 else 0) (λ k lt. zeros (f k))
    where
      zeros : (b : Bool) → ◌≡◌ {A = ℕ} (if b then 0 else 0) 0
      zeros true = refl
      zeros false = refl
  by_position (p ∷ positions) = by (f p) refl (by_position positions) ∙ sym (sum_by-cons (λ s. if f s then 1 else 0) p positions)
    where
      goal : Bool → Type 0
      goal b = sum_below n (λ s. if f s then times (p ∷ positions) s else 0) ≡ (if b then 1 else 0) + count_by f positions

      more : (s : ℕ) → times (p ∷ positions) s ≡ (if p == s then 1 else 0) + times positions s
      more s = sum_by-cons (λ q. if q == s then 1 else 0) p positions

      away : (s : ℕ) → (s ≡ p → ⊥) → times (p ∷ positions) s ≡ times positions s
      away s ne = more s ∙ rw (ne_eqb p s (λ e. ne (sym e))) (omega arith)

      here : times (p ∷ positions) p ≡ times positions p + 1
      here = more p ∙ rw (eq-eqb p p refl) (omega arith)

      unlike : (s : ℕ) → f p ≡ false → f s ≡ true → s ≡ p → ⊥
      unlike s never held e = false≢true (sym never ∙ ap f (sym e) ∙ held)

      each : (s : ℕ) → f p ≡ false → (b : Bool) → f s ≡ b → (if b then times (p ∷ positions) s else 0) ≡ (if b then times positions s else 0)
      each s never true held = away s (unlike s never held)
      each s never false held = refl

      by : (b : Bool) → f p ≡ b → sum_below n (λ s. if f s then times positions s else 0) ≡ count_by f positions → goal b
      by true held rest =
          let at : (if f p then times (p ∷ positions) p else 0) ≡ (if f p then times positions p else 0) + 1 = rw held here in
          let change = sum_change n (λ s. if f s then times positions s else 0) (λ s. if f s then times (p ∷ positions) s else 0) p 1 (inside p held) at
          (λ k lt ne. ap (λ m. if f k then m else 0) (away k ne)) in
          omega arith
      by false never rest =
          let same = sum_same n (λ s. if f s then times (p ∷ positions) s else 0) (λ s. if f s then times positions s else 0) (λ k lt. each k never (f k) refl) in
          omega arith

-- ---- the law

-- the counts of a run are those of it alone
pub one_added : (program : Program) (run : Recorded) → AreAdded program (run ∷ []) (counts_of program run.function run.start run.steps)
one_added program run s site =
    let positions = executed program run.function run.start run.steps in
    let none : 0 + s ≡ s = omega arith in
    subst (λ (n : ℕ). count_in (counts_of program run.function run.start run.steps) n ≡ times positions n) none (count_is (times positions) 0 s program.commands site)
    ∙ ap (λ (all : List ℕ). times all s) (sym (append-nil positions))

-- the counts of runs and of others, added position by position, are those of all together
pub both_added : (program : Program) (runs others : List Recorded) (one two sums : List SiteCount) → AreAdded program runs one → AreAdded program others two
    → AreSums program one two sums → AreAdded program (runs ++ others) sums
both_added program runs others one two sums first second are s site =
    let sum = are s site in
    let ours = first s site in
    let theirs = second s site in
    let both = all runs in
    omega (arith, sum, ours, theirs, both)
  where
    all : (runs : List Recorded) → times (all_executed program (runs ++ others)) s ≡ times (all_executed program runs) s + times (all_executed program others) s
    all [] = omega arith
    all (run ∷ runs) =
        let positions = executed program run.function run.start run.steps in
        let here = sum_by-append (λ p. if p == s then 1 else 0) positions (all_executed program (runs ++ others)) in
        let there = sum_by-append (λ p. if p == s then 1 else 0) positions (all_executed program runs) in
        let rest = all runs in
        omega (arith, here, there, rest)

module _ (program : Program) (counts : List SiteCount) where
  passes_back : (set : ℕ → Bool) → Passes (weighed counts program) set → Passes program set
  passes_back set h = (h.0, record { assigns = record { loads = h.1.assigns.loads; moves = h.1.assigns.moves; given = h.1.assigns.given }; sinks = h.1.sinks; stable = h.1.stable })

  passes_on : (set : ℕ → Bool) → Passes program set → Passes (weighed counts program) set
  passes_on set h = (h.0, record { assigns = record { loads = h.1.assigns.loads; moves = h.1.assigns.moves; given = h.1.assigns.given }; sinks = h.1.sinks; stable = h.1.stable })

  sites_on : (set : ℕ → Bool) → AreSites program set → AreSites (weighed counts program) set
  sites_on set h s chosen = subst IsSome (sym (weight_is (count_in counts) program s)) (by (mark_at program s) (h s chosen))
    where
      by : (o : Option Mark) → IsSome (option_map (λ (mark : Mark). unwrap_or (Rattle.bl_program.specs.Sites.listed program.weights s) (10 ^ mark.depth)) o) → IsSome (option_map (λ (mark : Mark). weight_by (count_in counts s)) o)
      by None h = h
      by (Some mark) h = refl

  pub least_passes : (set : ℕ → Bool) → Least (weighed counts program) set → Passes program set
  least_passes set h = passes_back set h.passes

  lighter : (e f s t : ℕ) → s ≤ 1048576 → t ≤ 1048576 → e * 2 ^ 21 + s ≤ f * 2 ^ 21 + t → (e < f) ⊎ ((e ≡ f) × (s ≤ t))
  lighter e f s t small few le = elim (cases_lt e f) as (λ _. (e < f) ⊎ ((e ≡ f) × (s ≤ t))) [
    | inl less ↦ inl less
    | inr more ↦ inr (omega arith, omega arith)
  ]

  module _ (other : Program) (same : bare other ≡ bare program) (runs : List Recorded) (added : AreAdded other runs counts) where
    abbrev positions : List ℕ
    positions = all_executed other runs

    -- what the weights count is what is executed
    counted_is : (set : ℕ → Bool) → counted (count_in counts) program set ≡ exec program set positions
    counted_is set =
        sum_same (length program.commands) (λ s. if set s && is_site program s then count_in counts s else 0) (λ s. if set s && is_site program s then times positions s else 0)
        (λ s lt. each s (set s && is_site program s) refl)
        ∙ by_position (λ s. set s && is_site program s) (length program.commands) (λ s h. within program.commands s (right_of (set s) (is_site program s) h)) positions
      where
        each : (s : ℕ) (b : Bool) → (set s && is_site program s) ≡ b → (if b then count_in counts s else 0) ≡ (if b then times positions s else 0)
        each s false h = refl
        each s true h = added s (is_site_same other program same s ∙ right_of (set s) (is_site program s) h)

    pub least_is_fewest : IsWellFormed program → (set : ℕ → Bool) → Least (weighed counts program) set
        → (rival : ℕ → Bool) → AreSites program rival → Passes program rival → IsFewer program positions set rival
    least_is_fewest w set h rival chosen passes =
        let le = h.lightest rival (sites_on rival chosen) (passes_on rival passes) in
        let one = weighs (count_in counts) program set in
        let two = weighs (count_in counts) program rival in
        let mine = counted_is set in
        let its = counted_is rival in
        let commands = w.rule2.commands in
        let small = few (count_in counts) program set in
        let few = few (count_in counts) program rival in
        elim (lighter (exec program set positions) (exec program rival positions) (size_of program set) (size_of program rival) (omega arith) (omega arith) (omega arith))
        as (λ _. IsFewer program positions set rival) [
          | inl less ↦ executions less
          | inr equal ↦ sites equal.0 equal.1
        ]

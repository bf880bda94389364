-- A program with weights by counts: what its sites weigh, and that it is well-formed.
use Rattle.std.proofs.Common.{◌≡◌, ℕ, zero, suc, ◌+◌, ◌*◌, ◌^◌, ◌<◌, ◌≤◌, inl, inr, Bool, true, false, List, [], ◌∷◌, length, Option, Some, None, slice_get, unwrap_or, refl, sym, ap, subst, ◌∙◌, arith}
use Rattle.std.specs.Prelude.{◌==◌, ◌&&◌, IsSome, is_some, option_map, option_and_then, if◌then◌else◌, find}
use Rattle.std.specs.List.{All, AllPairs}
use Rattle.std.proofs.lemmas.Bool.{ne_eqb, eq-eqb, cases_eq}
use Rattle.std.proofs.lemmas.List.Elements.{All-cons, All-nil}
use Rattle.std.proofs.lemmas.List.Kept.{AllPairs-cons}
use Rattle.std.proofs.lemmas.List.Sums.{sum_by-cons}
use Rattle.bl_base.specs.Sums.{sum_below}
use Rattle.bl_base.proofs.Sums.{sum_same, sum_le, sum_plus, sum_none, sum_bound}
use Rattle.bl_program.specs.Layout.{command_at}
use Rattle.bl_program.specs.Programs.{IsProgram}
use Rattle.bl_program.specs.Rules.{Rule9, IsWeight, IsWellFormed}
use Rattle.bl_program.specs.Sites.{mark_of, mark_at, listed, site_weight, weight_of}
use Rattle.bl_program.specs.declared.command.Mark.{Mark}
use Rattle.bl_program.specs.declared.command.Command.{Command}
use Rattle.bl_program.specs.declared.definitions.ProgramParts.{ProgramParts as Program}
use Rattle.bl_program.specs.declared.definitions.SiteWeight.{SiteWeight}
use Rattle.bl_cut.proofs.Remarked.{keeps_rules, unchanged}
use Rattle.bl_counts.specs.RunCounts.{count_in, is_site, size_of, total, weight_by, weighed, weighed_by, weights_from, with_weight}
use Rattle.bl_counts.specs.declared.counts.SiteCount.{SiteCount}

-- ---- the listed weights

module _ (count : ℕ → ℕ) where
  none_before : (s i : ℕ) (commands : List Command) → s < i → listed (weights_from count i commands) s ≡ None
  none_before s i [] lt = refl
  none_before s i (command ∷ commands) lt = by (mark_of command) (none_before s (suc i) commands (omega arith))
    where
      by : (o : Option Mark) → listed (weights_from count (suc i) commands) s ≡ None → listed (with_weight i (count i) o (weights_from count (suc i) commands)) s ≡ None
      by None rest = rest
      by (Some mark) rest = rw (ne_eqb i s (λ e. omega arith)) rest

  listed_is : (i k : ℕ) (commands : List Command)
      → listed (weights_from count i commands) (i + k) ≡ option_map (λ (mark : Mark). weight_by (count (i + k))) (option_and_then mark_of (slice_get commands k))
  listed_is i k [] = refl
  listed_is i zero (command ∷ commands) = by (mark_of command) (none_before (i + 0) (suc i) commands (omega arith))
    where
      by : (o : Option Mark) → listed (weights_from count (suc i) commands) (i + 0) ≡ None
          → listed (with_weight i (count i) o (weights_from count (suc i) commands)) (i + 0) ≡ option_map (λ (mark : Mark). weight_by (count (i + 0))) o
      by None rest = rest
      by (Some mark) rest = let same : i + 0 ≡ i = omega arith in rw same (rw (eq-eqb i i refl) refl)
  listed_is i (suc k) (command ∷ commands) =
      by (mark_of command) (subst (λ (n : ℕ). listed (weights_from count (suc i) commands) n ≡ option_map (λ (mark : Mark). weight_by (count n)) (option_and_then mark_of (slice_get commands k))) next (listed_is (suc i) k commands))
    where
      next : suc i + k ≡ i + suc k
      next = omega arith

      by : (o : Option Mark)
          → listed (weights_from count (suc i) commands) (i + suc k) ≡ option_map (λ (mark : Mark). weight_by (count (i + suc k))) (option_and_then mark_of (slice_get commands k))
          → listed (with_weight i (count i) o (weights_from count (suc i) commands)) (i + suc k) ≡ option_map (λ (mark : Mark). weight_by (count (i + suc k))) (option_and_then mark_of (slice_get commands k))
      by None rest = rest
      by (Some mark) rest = rw (ne_eqb i (i + suc k) (λ e. omega arith)) rest

  -- what holds of the weight of each site holds of all
  all_weights : (P : SiteWeight → Type 0) (i : ℕ) (commands : List Command)
      → ((k : ℕ) (mark : Mark) → option_and_then mark_of (slice_get commands k) ≡ Some mark → P (record { at = record { 0 = i + k }; weight = weight_by (count (i + k)) }))
      → All P (weights_from count i commands)
  all_weights P i [] each = All-nil P
  all_weights P i (command ∷ commands) each =
      by (mark_of command) refl (all_weights P (suc i) commands (λ k mark e.
      let same : i + suc k ≡ suc i + k = omega arith in subst (λ (s : ℕ). P (record { at = record { 0 = s }; weight = weight_by (count s) })) same (each (suc k) mark e)))
    where
      by : (o : Option Mark) → mark_of command ≡ o → All P (weights_from count (suc i) commands) → All P (with_weight i (count i) o (weights_from count (suc i) commands))
      by None e rest = rest
      by (Some mark) e rest =
          let same : i + 0 ≡ i = omega arith in
          All-cons P _ (weights_from count (suc i) commands) (subst (λ (s : ℕ). P (record { at = record { 0 = s }; weight = weight_by (count s) })) same (each 0 mark e)) rest

  rising : (i : ℕ) (commands : List Command) → AllPairs (λ (entry next : SiteWeight). entry.at.0 < next.at.0) (weights_from count i commands)
  rising i [] = λ a b d lt within. absurd (omega arith)
  rising i (command ∷ commands) = by (mark_of command) (rising (suc i) commands)
    where
      by : (o : Option Mark) → AllPairs (λ (entry next : SiteWeight). entry.at.0 < next.at.0) (weights_from count (suc i) commands)
          → AllPairs (λ (entry next : SiteWeight). entry.at.0 < next.at.0) (with_weight i (count i) o (weights_from count (suc i) commands))
      by None rest = rest
      by (Some mark) rest = AllPairs-cons (λ (entry next : SiteWeight). entry.at.0 < next.at.0) _ (weights_from count (suc i) commands)
          (all_weights (λ (next : SiteWeight). i < next.at.0) (suc i) commands (λ k m e. omega arith)) rest

module _ (count : ℕ → ℕ) (program : Program) where
  abbrev pub after : Program
  after = weighed_by count program

  -- each site weighs by its count
  pub weight_is : (s : ℕ) → site_weight after s ≡ option_map (λ (mark : Mark). weight_by (count s)) (mark_at program s)
  weight_is s = by (mark_at program s) (subst (λ (t : ℕ). listed (weights_from count 0 program.commands) t ≡ option_map (λ (mark : Mark). weight_by (count t)) (mark_at program s)) none (listed_is count 0 s program.commands))
    where
      none : 0 + s ≡ s
      none = omega arith

      by : (o : Option Mark) → listed (weights_from count 0 program.commands) s ≡ option_map (λ (mark : Mark). weight_by (count s)) o
          → option_map (λ (mark : Mark). unwrap_or (listed (weights_from count 0 program.commands) s) (10 ^ mark.depth)) o ≡ option_map (λ (mark : Mark). weight_by (count s)) o
      by None e = refl
      by (Some mark) e = ap (λ o. Some (unwrap_or o (10 ^ mark.depth))) e

  -- a set's executions, by the counts
  abbrev pub counted : (ℕ → Bool) → ℕ
  counted set = sum_below (length program.commands) (λ s. if set s && is_site program s then count s else 0)

  scaled : (m : ℕ) (g : ℕ → ℕ) → sum_below m (λ s. g s * 2 ^ 21) ≡ sum_below m g * 2 ^ 21
  scaled zero g = refl
  scaled (suc m) g = let rest = scaled m g in omega arith

  -- the weight of a set tells its executions, and then its sites
  pub weighs : (set : ℕ → Bool) → weight_of after set ≡ counted set * 2 ^ 21 + size_of program set
  weighs set =
      sum_same (length program.commands) _ (λ s. (if set s && is_site program s then count s else 0) * 2 ^ 21 + (if set s && is_site program s then 1 else 0))
      (λ s lt. ap (λ o. (if set s then unwrap_or o 0 else 0)) (weight_is s) ∙ by s (set s) (mark_at program s))
      ∙ sum_plus (length program.commands) (λ s. (if set s && is_site program s then count s else 0) * 2 ^ 21) (λ s. if set s && is_site program s then 1 else 0)
      ∙ ap (λ n. n + size_of program set) (scaled (length program.commands) (λ s. if set s && is_site program s then count s else 0))
    where
      by : (s : ℕ) (b : Bool) (o : Option Mark) → (if b then unwrap_or (option_map (λ (mark : Mark). weight_by (count s)) o) 0 else 0)
          ≡ (if b && is_some o then count s else 0) * 2 ^ 21 + (if b && is_some o then 1 else 0)
      by s true (Some mark) = refl
      by s true None = refl
      by s false (Some mark) = refl
      by s false None = refl

  pub few : (set : ℕ → Bool) → size_of program set ≤ length program.commands
  few set =
      let all = sum_bound (length program.commands) (λ s. if set s && is_site program s then 1 else 0) 1 (λ s lt. by (set s && is_site program s)) in
      omega arith
    where
      by : (b : Bool) → (if b then 1 else 0) ≤ 1
      by true = omega arith
      by false = omega arith

  -- ---- the rules

  rule9_on : weight_of after (λ _. true) < 2 ^ 63 → Rule9 program → Rule9 after
  rule9_on small r = record {
    demands_rise = r.demands_rise;
    demands = r.demands;
    weights_rise = rising count 0 program.commands;
    weights = all_weights count (IsWeight after) 0 program.commands (λ k mark e.
        let none : 0 + k ≡ k = omega arith in
        record {
          site = subst (λ (s : ℕ). IsSome (site_weight after s)) (sym none) (subst IsSome (sym (weight_is k ∙ ap (option_map (λ (mark : Mark). weight_by (count k))) e)) refl);
          positive = omega arith;
        });
    total = small;
  }

  pub is_program : IsProgram program → IsProgram after
  is_program h = record { commands = h.commands; traps = h.traps; lengths = h.lengths }

  pub weighed_rules : weight_of after (λ _. true) < 2 ^ 63 → IsWellFormed program → IsWellFormed after
  weighed_rules small w = keeps_rules program program.commands (weights_from count 0 program.commands) (λ s mark. mark) (λ s. unchanged (command_at program s)) (λ s mark is. is) refl w (rule9_on small w.rule9)

-- ---- the sum of all weights

point : (i c m : ℕ) → sum_below m (λ s. if i == s then c else 0) ≤ c
point i c zero = omega arith
point i c (suc m) = elim (cases_eq i m) as (λ _. sum_below m (λ s. if i == s then c else 0) + (if i == m then c else 0) ≤ c) [
  | inl e ↦ let none = sum_none m (λ s. if i == s then c else 0) (λ k lt. rw (ne_eqb i k (λ f. omega arith)) refl) in rw (eq-eqb i m e) (omega arith)
  | inr ne ↦ let rest = point i c m in rw (ne_eqb i m ne) (omega arith)
]

-- what is counted is at most the sum of all counts
within_total : (m : ℕ) (counts : List SiteCount) → sum_below m (count_in counts) ≤ total counts
within_total m [] = let none = sum_none m (count_in []) (λ k lt. refl) in omega arith
within_total m (one ∷ others) =
    let rest = within_total m others in
    let here = point one.at.0 one.count m in
    let sums = sum_plus m (λ s. if one.at.0 == s then one.count else 0) (count_in others) in
    let each = sum_le m (count_in (one ∷ others)) (λ s. (if one.at.0 == s then one.count else 0) + count_in others s) (λ s lt. by s (one.at.0 == s)) in
    let all = sum_by-cons (λ (c : SiteCount). c.count) one others in
    omega arith
  where
    by : (s : ℕ) (b : Bool) → unwrap_or (option_map (λ (c : SiteCount). c.count) (if b then Some one else find (λ (c : SiteCount). c.at.0 == s) others)) 0 ≤ (if b then one.count else 0) + count_in others s
    by s true = omega arith
    by s false = omega arith

-- a program weighed by counts that add up to less than 2^32 is well-formed
pub is_well_formed : (program : Program) (counts : List SiteCount) → total counts < 2 ^ 32 → IsWellFormed program → IsWellFormed (weighed counts program)
is_well_formed program counts small w = weighed_rules (count_in counts) program below w
  where
    least : (b : Bool) (n : ℕ) → (if b then n else 0) ≤ n
    least true n = omega arith
    least false n = omega arith

    below : weight_of (weighed counts program) (λ _. true) < 2 ^ 63
    below =
        let whole = weighs (count_in counts) program (λ _. true) in
        let sites = few (count_in counts) program (λ _. true) in
        let commands = w.rule2.commands in
        let all = within_total (length program.commands) counts in
        let part = sum_le (length program.commands) (λ s. if is_site program s then count_in counts s else 0) (count_in counts) (λ s lt. least (is_site program s) (count_in counts s)) in
        omega arith

-- the count of a position is at most the sum of all
at_most_total : (counts : List SiteCount) (s : ℕ) → count_in counts s ≤ total counts
at_most_total [] s = omega arith
at_most_total (one ∷ others) s = let rest = at_most_total others s in let all = sum_by-cons (λ (c : SiteCount). c.count) one others in by (one.at.0 == s) rest
  where
    by : (b : Bool) → count_in others s ≤ total others → unwrap_or (option_map (λ (c : SiteCount). c.count) (if b then Some one else find (λ (c : SiteCount). c.at.0 == s) others)) 0 ≤ total (one ∷ others)
    by true rest = let all = sum_by-cons (λ (c : SiteCount). c.count) one others in omega arith
    by false rest = let all = sum_by-cons (λ (c : SiteCount). c.count) one others in omega arith

-- each weight is a number of 64 bits
pub small_weights : (program : Program) (counts : List SiteCount) → total counts < 2 ^ 32 → All (λ (entry : SiteWeight). entry.weight < 2 ^ 64) (weighed counts program).weights
small_weights program counts few =
    all_weights (count_in counts) (λ (entry : SiteWeight). entry.weight < 2 ^ 64) 0 program.commands (λ k mark e. let le = at_most_total counts (0 + k) in omega arith)

-- the parts with other weights
pub made_is : (program parts : Program) (weights other : List SiteWeight) → parts ≡ program → weights ≡ other
    → (let made : Program = record parts { weights = weights } in made) ≡ record program { weights = other }
made_is program parts weights other e f = ap (λ (p : Program). record p { weights = weights }) e ∙ ap (λ l. record program { weights = l }) f

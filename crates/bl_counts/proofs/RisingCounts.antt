-- Counts that rise, taken one after another beside the commands.
use Rattle.std.proofs.Common.{◌≡◌, ℕ, zero, suc, ◌+◌, ◌^◌, ◌<◌, ◌≤◌, ◌⊎◌, inl, inr, Bool, true, false, List, [], ◌∷◌, ◌++◌, length, drop, Option, Some, None, slice_get, unwrap_or, refl, sym, ap, subst, ◌∙◌, arith}
use Rattle.std.specs.Prelude.{◌==◌, ◌&&◌, is_some, option_map, option_and_then, if◌then◌else◌, find}
use Rattle.std.specs.List.{All}
use Rattle.std.proofs.lemmas.Bool.{ne_eqb, eq-eqb, false≢true, cases_eq, ltb-true}
use Rattle.std.proofs.lemmas.List.{append_assoc, append-nil}
use Rattle.std.proofs.lemmas.List.Sums.{sum_by-le}
use Rattle.std.proofs.lemmas.Option.{none-some}
use Rattle.bl_base.specs.declared.number.Pos.{Pos}
use Rattle.bl_program.specs.Sites.{mark_of, mark_at}
use Rattle.bl_program.specs.declared.command.Mark.{Mark}
use Rattle.bl_program.specs.declared.command.Command.{Command}
use Rattle.bl_program.specs.declared.definitions.ProgramParts.{ProgramParts as Program}
use Rattle.bl_program.specs.declared.definitions.SiteWeight.{SiteWeight}
use Rattle.bl_counts.specs.WeighAnswers.{named}
use Rattle.bl_counts.specs.RunCounts.{count_in, first_bad, is_above, is_site, total, weights_from, with_weight}
use Rattle.bl_counts.specs.declared.counts.SiteCount.{SiteCount}

-- positions rise from one on
abbrev pub Ahead : ℕ → List SiteCount → Type 0
Ahead at [] = Unit {0}
Ahead at (one ∷ others) = (at ≤ one.at.0) × Ahead (suc one.at.0) others

-- the least position that may follow
abbrev behind : Option Pos → ℕ
behind None = 0
behind (Some former) = suc former.0

above : (before : Option Pos) (s : ℕ) → is_above before s ≡ true → behind before ≤ s
above None s h = omega arith
above (Some former) s h = let lt = ltb-true former.0 s h in omega arith

within : (commands : List Command) (s : ℕ) → is_some (option_and_then mark_of (slice_get commands s)) ≡ true → s < length commands
within [] s site = absurd (false≢true site)
within (command ∷ commands) zero site = omega arith
within (command ∷ commands) (suc s) site = let rest = within commands s site in omega arith

module _ (program : Program) where
  -- counts without a bad entry rise, and are at most as many as the commands
  rises : (before : Option Pos) (counts : List SiteCount) → first_bad program before counts ≡ None → Ahead (behind before) counts
  rises before [] e = tt
  rises before (one ∷ others) e = by (is_site program one.at.0) (is_above before one.at.0) refl e (rises (Some one.at) others)
    where
      by : (a b : Bool) → is_above before one.at.0 ≡ b → (if a && b then first_bad program (Some one.at) others else Some one.at) ≡ None
          → (first_bad program (Some one.at) others ≡ None → Ahead (suc one.at.0) others) → Ahead (behind before) (one ∷ others)
      by true true up e rest = (above before one.at.0 up, rest e)
      by true false up e rest = absurd (none-some one.at (sym e))
      by false b up e rest = absurd (none-some one.at (sym e))

  pub rising : (counts : List SiteCount) → first_bad program None counts ≡ None → Ahead 0 counts
  rising counts e = rises None counts e

  fewer : (before : Option Pos) (counts : List SiteCount) → first_bad program before counts ≡ None → behind before ≤ length program.commands
      → behind before + length counts ≤ length program.commands
  fewer before [] e le = omega arith
  fewer before (one ∷ others) e le = by (is_site program one.at.0) (is_above before one.at.0) refl refl e (fewer (Some one.at) others)
    where
      by : (a b : Bool) → is_site program one.at.0 ≡ a → is_above before one.at.0 ≡ b → (if a && b then first_bad program (Some one.at) others else Some one.at) ≡ None
          → (first_bad program (Some one.at) others ≡ None → suc one.at.0 ≤ length program.commands → suc one.at.0 + length others ≤ length program.commands)
          → behind before + suc (length others) ≤ length program.commands
      by true true site up e rest =
          let low = above before one.at.0 up in
          let high = within program.commands one.at.0 site in
          let more = rest e (omega arith) in
          omega arith
      by true false site up e rest = absurd (none-some one.at (sym e))
      by false b site up e rest = absurd (none-some one.at (sym e))

  pub total_small : (counts : List SiteCount) → first_bad program None counts ≡ None → length program.commands < 2 ^ 32 → All (λ (one : SiteCount). one.count < 2 ^ 32) counts
      → total counts < 2 ^ 64
  total_small counts e few small =
      let many = fewer None counts e (omega arith) in
      let sums = sum_by-le (λ (one : SiteCount). one.count) 4294967295 counts (λ k d lt. let one = small k d lt in omega arith) in
      omega arith

-- ---- what entries ahead name

no_count : (k s : ℕ) (rest : List SiteCount) → Ahead k rest → s < k → count_in rest s ≡ 0
no_count k s [] ahead lt = refl
no_count k s (one ∷ others) ahead lt = rw (ne_eqb one.at.0 s (λ e. let le = ahead.0 in omega arith)) (no_count (suc one.at.0) s others ahead.1 (let le = ahead.0 in omega arith))

pub here : (at : ℕ) (rest : List SiteCount) → Ahead at rest → count_in rest at ≡ unwrap_or (named rest at) 0
here at [] ahead = refl
here at (one ∷ others) ahead = by (one.at.0 == at) refl
  where
    by : (b : Bool) → (one.at.0 == at) ≡ b → unwrap_or (option_map (λ (c : SiteCount). c.count) (if b then Some one else find (λ (c : SiteCount). c.at.0 == at) others)) 0 ≡ unwrap_or (if b then Some one.count else None) 0
    by true e = refl
    by false e = no_count (suc one.at.0) at others ahead.1 (let le = ahead.0 in omega arith)

-- the weights so far and those of the commands that are left are all
abbrev pub Merged : Program → List SiteCount → ℕ → ℕ → List SiteWeight → Type 0
Merged program counts next at weights =
    (weights ++ weights_from (count_in counts) at (drop at program.commands) ≡ weights_from (count_in counts) 0 program.commands)
    × Ahead at (drop next counts) × ((s : ℕ) → at ≤ s → count_in counts s ≡ count_in (drop next counts) s)

joined : (s n : ℕ) (o : Option Mark) (weights rest : List SiteWeight) → (weights ++ with_weight s n o []) ++ rest ≡ weights ++ with_weight s n o rest
joined s n None weights rest = ap (λ l. l ++ rest) (append-nil weights)
joined s n (Some mark) weights rest = append_assoc weights _ rest

from_get : (commands : List Command) (at : ℕ) (count : ℕ → ℕ) → at < length commands
    → weights_from count at (drop at commands) ≡ with_weight at (count at) (option_and_then mark_of (slice_get commands at)) (weights_from count (at + 1) (drop (at + 1) commands))
from_get commands at count lt = let one : at + 1 ≡ suc at = omega arith in rw one (by commands at at lt)
  where
    by : (commands : List Command) (k s : ℕ) → k < length commands
        → weights_from count s (drop k commands) ≡ with_weight s (count s) (option_and_then mark_of (slice_get commands k)) (weights_from count (suc s) (drop (suc k) commands))
    by [] k s lt = absurd (omega arith)
    by (command ∷ commands) zero s lt = refl
    by (command ∷ commands) (suc k) s lt = by commands k s (omega arith)

module _ (program : Program) (counts : List SiteCount) (next at : ℕ) (weights : List SiteWeight) (lt : at < length program.commands) (m : Merged program counts next at weights) where
  named_here : count_in counts at ≡ unwrap_or (named (drop next counts) at) 0
  named_here = m.2 at (omega arith) ∙ here at (drop next counts) m.1

  step : (n : ℕ) → n ≡ count_in counts at
      → (weights ++ with_weight at n (mark_at program at) []) ++ weights_from (count_in counts) (at + 1) (drop (at + 1) program.commands) ≡ weights_from (count_in counts) 0 program.commands
  step n e =
      joined at n (mark_at program at) weights _
      ∙ ap (λ k. weights ++ with_weight at k (mark_at program at) (weights_from (count_in counts) (at + 1) (drop (at + 1) program.commands))) e
      ∙ ap (λ l. weights ++ l) (sym (from_get program.commands at (count_in counts) lt)) ∙ m.0

  -- the entry ahead isn't this position's
  pub passed_by : None ≡ named (drop next counts) at → Merged program counts next (at + 1) (weights ++ with_weight at 0 (mark_at program at) [])
  passed_by e = (step 0 (sym (named_here ∙ ap (λ o. unwrap_or o 0) (sym e))), ahead (drop next counts) m.1 e, λ s le. m.2 s (omega arith))
    where
      ahead : (rest : List SiteCount) → Ahead at rest → None ≡ named rest at → Ahead (at + 1) rest
      ahead [] h e = tt
      ahead (one ∷ others) h e = (by (cases_eq one.at.0 at), h.1)
        where
          by : (one.at.0 ≡ at) ⊎ (one.at.0 ≡ at → ⊥) → at + 1 ≤ one.at.0
          by (inl same) = absurd (none-some one.count (e ∙ rw (eq-eqb one.at.0 at same) refl))
          by (inr other) = let le = h.0 in omega arith

  -- the entry ahead is this position's
  pub taken : (n : ℕ) → Some n ≡ named (drop next counts) at → Merged program counts (next + 1) (at + 1) (weights ++ with_weight at n (mark_at program at) [])
  taken n e =
      let rest = ahead counts next m.1 e in
      let one : suc next ≡ next + 1 = omega arith in (
        step n (sym (named_here ∙ ap (λ o. unwrap_or o 0) (sym e))),
        subst (λ k. Ahead (at + 1) (drop k counts)) one rest.0,
        λ s le. m.2 s (omega arith) ∙ rest.1 s le ∙ ap (λ k. count_in (drop k counts) s) one,
      )
    where
      ahead : (counts : List SiteCount) (next : ℕ) → Ahead at (drop next counts) → Some n ≡ named (drop next counts) at
          → Ahead (at + 1) (drop (suc next) counts) × ((s : ℕ) → at + 1 ≤ s → count_in (drop next counts) s ≡ count_in (drop (suc next) counts) s)
      ahead [] zero h e = absurd (none-some n (sym e))
      ahead [] (suc next) h e = absurd (none-some n (sym e))
      ahead (one ∷ others) zero h e = by (cases_eq one.at.0 at)
        where
          by : (one.at.0 ≡ at) ⊎ (one.at.0 ≡ at → ⊥) → Ahead (at + 1) others × ((s : ℕ) → at + 1 ≤ s → count_in (one ∷ others) s ≡ count_in others s)
          by (inl same) = (let one_more : suc one.at.0 ≡ at + 1 = omega arith in subst (λ k. Ahead k others) one_more h.1, λ s le. rw (ne_eqb one.at.0 s (λ f. omega arith)) refl)
          by (inr other) = absurd (none-some n (sym (e ∙ rw (ne_eqb one.at.0 at other) refl)))
      ahead (one ∷ others) (suc next) h e = ahead others next h e

pub read_as : (program : Program) (counts : List SiteCount) (at one next : ℕ) (weights other : List SiteWeight) → next ≡ one → other ≡ weights
    → Merged program counts one at weights → Merged program counts next at other
read_as program counts at one next weights other e f m =
    subst (λ w. Merged program counts next at w) (sym f) (subst (λ k. Merged program counts k at weights) (sym e) m)

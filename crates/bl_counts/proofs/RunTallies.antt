-- Counts of a run, step by step.
use Rattle.std.proofs.Common.{◌≡◌, ℕ, zero, suc, ◌+◌, ◌-◌, ◌<◌, ◌≤◌, Bool, true, false, List, [], ◌∷◌, ◌++◌, length, map, drop, take, get_or, Option, Some, None, slice_get, refl, sym, ap, subst, ◌∙◌, arith}
use Rattle.std.specs.Prelude.{◌==◌, if◌then◌else◌, option_and_then}
use Rattle.std.proofs.lemmas.List.{append_assoc, append-nil}
use Rattle.std.proofs.lemmas.List.Sums.{sum_by-cons}
use Rattle.bl_base.specs.Runs.{Outcome, Next, goes, ends, stuck}
use Rattle.bl_base.specs.declared.start.Start.{Start}
use Rattle.bl_program.specs.Outcomes.{opening}
use Rattle.bl_program.specs.Sites.{mark_of, mark_at}
use Rattle.bl_program.specs.Steps.{Plain, plain_step}
use Rattle.bl_program.specs.declared.command.Mark.{Mark}
use Rattle.bl_program.specs.declared.command.Command.{Command}
use Rattle.bl_program.specs.declared.definitions.ProgramParts.{ProgramParts as Program}
use Rattle.bl_counts.specs.RunCounts.{behind, counts_from, counts_of, executed, stepped, times, with_count}
use Rattle.bl_counts.specs.PositionCounts.{AreTimes, times_from}
use Rattle.bl_counts.specs.declared.counts.SiteCount.{SiteCount}

module _ (program : Program) where
  -- what is executed, by the next step
  abbrev by_next : ℕ → Plain → ℕ → Next Plain → ℕ
  by_next n s at next = times (map (λ c. c.position) (behind (plain_step program) s (stepped (plain_step program) n) next)) at

  first_goes : (n : ℕ) (s t : Plain) (at : ℕ) → plain_step program s ≡ goes t → times_from program s (suc n) at ≡ (if s.position == at then 1 else 0) + times_from program t n at
  first_goes n s t at e = ap (by_next n s at) e ∙ sum_by-cons (λ p. if p == at then 1 else 0) s.position (map (λ c. c.position) (stepped (plain_step program) n t))

  first_ends : (n : ℕ) (s : Plain) (outcome : Outcome) (at : ℕ) → plain_step program s ≡ ends outcome → times_from program s (suc n) at ≡ (if s.position == at then 1 else 0) + 0
  first_ends n s outcome at e = ap (by_next n s at) e ∙ sum_by-cons (λ p. if p == at then 1 else 0) s.position []

  first_stuck : (n : ℕ) (s : Plain) (at : ℕ) → plain_step program s ≡ stuck → times_from program s (suc n) at ≡ 0
  first_stuck n s at e = ap (by_next n s at) e

  -- one is counted at a position
  abbrev pub OneMore : ℕ → List ℕ → List ℕ → Type 0
  OneMore position old new = (s : ℕ) → s < length old → get_or new s 0 ≡ (if position == s then 1 else 0) + get_or old s 0

  module _ (from : Plain) (steps : ℕ) where
    -- after so many steps: what is counted, and what is still to be executed
    abbrev pub Tallied : ℕ → Plain → List ℕ → Type 0
    Tallied n now counted =
        ((at : ℕ) → at < length counted → get_or counted at 0 + times_from program now (steps - n) at ≡ times_from program from steps at)
        × ((at : ℕ) → at < length counted → get_or counted at 0 ≤ n)

    pub at_start : (counted : List ℕ) → ((s : ℕ) → get_or counted s 0 ≡ 0) → Tallied 0 from counted
    at_start counted zeros = (
      λ at lt.
          let none = zeros at in let all : steps - 0 ≡ steps = omega arith in
          let same = ap (λ k. times_from program from k at) all in omega arith,
      λ at lt. let none = zeros at in omega arith,
    )

    small : (b : Bool) → (if b then 1 else 0) ≤ 1
    small true = omega arith
    small false = omega arith

    pub tallied_on : (n : ℕ) (now next : Plain) (counted more : List ℕ) → n < steps → Tallied n now counted → plain_step program now ≡ goes next
        → length more ≡ length counted → OneMore now.position counted more → Tallied (n + 1) next more
    tallied_on n now next counted more lt t e len one = (
      λ at within.
          let so_far = t.0 at (omega arith) in
          let here = one at (omega arith) in
          let left : steps - n ≡ suc (steps - (n + 1)) = omega arith in
          let same = ap (λ k. times_from program now k at) left in
          let first = first_goes (steps - (n + 1)) now next at e in
          omega arith,
      λ at within.
          let here = one at (omega arith) in
          let so_far = t.1 at (omega arith) in
          let bit = small (now.position == at) in
          omega arith,
    )

    pub tallied_end : (n : ℕ) (now : Plain) (outcome : Outcome) (counted more : List ℕ) → n < steps → Tallied n now counted → plain_step program now ≡ ends outcome
        → length more ≡ length counted → OneMore now.position counted more → AreTimes program from steps more
    tallied_end n now outcome counted more lt t e len one at within =
        let so_far = t.0 at (omega arith) in
        let here = one at (omega arith) in
        let left : steps - n ≡ suc (steps - (n + 1)) = omega arith in
        let same = ap (λ k. times_from program now k at) left in
        let first = first_ends (steps - (n + 1)) now outcome at e in
        omega arith

    pub tallied_stuck : (n : ℕ) (now : Plain) (counted : List ℕ) → n < steps → Tallied n now counted → plain_step program now ≡ stuck → AreTimes program from steps counted
    tallied_stuck n now counted lt t e at within =
        let so_far = t.0 at within in
        let left : steps - n ≡ suc (steps - (n + 1)) = omega arith in
        let same = ap (λ k. times_from program now k at) left in
        let first = first_stuck (steps - (n + 1)) now at e in
        omega arith

-- ---- the sites' counts

-- the counts so far and those of the commands that are left are all
abbrev pub AreCountsBelow : Program → (ℕ → ℕ) → ℕ → List SiteCount → Type 0
AreCountsBelow program count at counts = counts ++ counts_from count at (drop at program.commands) ≡ counts_from count 0 program.commands

from_get : (commands : List Command) (k s : ℕ) (count : ℕ → ℕ) → k < length commands
    → counts_from count s (drop k commands) ≡ with_count s (count s) (option_and_then mark_of (slice_get commands k)) (counts_from count (suc s) (drop (suc k) commands))
from_get [] k s count lt = absurd (omega arith)
from_get (command ∷ commands) zero s count lt = refl
from_get (command ∷ commands) (suc k) s count lt = from_get commands k s count (omega arith)

joined : (s n : ℕ) (o : Option Mark) (counts rest : List SiteCount) → (counts ++ with_count s n o []) ++ rest ≡ counts ++ with_count s n o rest
joined s zero o counts rest = ap (λ l. l ++ rest) (append-nil counts)
joined s (suc n) None counts rest = ap (λ l. l ++ rest) (append-nil counts)
joined s (suc n) (Some mark) counts rest = append_assoc counts _ rest

pub told_on : (program : Program) (count : ℕ → ℕ) (at : ℕ) (counts more : List SiteCount) → at < length program.commands → AreCountsBelow program count at counts
    → more ≡ counts ++ with_count at (count at) (mark_at program at) [] → AreCountsBelow program count (at + 1) more
told_on program count at counts more lt t e =
    let one : at + 1 ≡ suc at = omega arith in
    ap (λ l. l ++ counts_from count (at + 1) (drop (at + 1) program.commands)) e
    ∙ joined at (count at) (mark_at program at) counts _
    ∙ ap (λ k. counts ++ with_count at (count at) (mark_at program at) (counts_from count k (drop k program.commands))) one
    ∙ ap (λ l. counts ++ l) (sym (from_get program.commands at at count lt)) ∙ t

-- equal counts tell the same
pub counts_same : (f g : ℕ → ℕ) (i : ℕ) (commands : List Command) → ((k : ℕ) → k < length commands → f (i + k) ≡ g (i + k)) → counts_from f i commands ≡ counts_from g i commands
counts_same f g i [] same = refl
counts_same f g i (command ∷ commands) same =
    let none : i + 0 ≡ i = omega arith in
    let rest = counts_same f g (suc i) commands (λ k lt. let one : i + suc k ≡ suc i + k = omega arith in subst (λ (n : ℕ). f n ≡ g n) one (same (suc k) (omega arith))) in
    ap (λ n. with_count i n (mark_of command) (counts_from f (suc i) commands)) (subst (λ (n : ℕ). f n ≡ g n) none (same 0 (omega arith)))
    ∙ ap (λ l. with_count i (g i) (mark_of command) l) rest

-- the sites' counts, where they are told of the times of a run of the program's own parts
pub counts_told : (program : Program) (function : ℕ) (start : Start) (steps : ℕ) (parts others : Program) (opened : Plain) (counted read : List ℕ) (counts : List SiteCount)
    → parts ≡ program → others ≡ program → opened ≡ opening parts function start → read ≡ counted → length counted ≡ length program.commands
    → AreTimes parts opened steps counted → counts ≡ counts_from (λ s. get_or read s 0) 0 others.commands → counts ≡ counts_of program function start steps
counts_told program function start steps parts others opened counted read counts same other at_start e long are told =
    told ∙ ap (λ (p : Program). counts_from (λ s. get_or read s 0) 0 p.commands) other ∙ ap (λ (l : List ℕ). counts_from (λ s. get_or l s 0) 0 program.commands) e
    ∙ counts_same (λ s. get_or counted s 0) (times (executed program function start steps)) 0 program.commands (λ k lt. own (0 + k) (omega arith))
  where
    own : AreTimes program (opening program function start) steps counted
    own = subst (λ p. AreTimes p (opening p function start) steps counted) same (subst (λ s. AreTimes parts s steps counted) at_start are)

-- the front of a list
pub whole_again : (n : ℕ) (front rest : List ℕ) → n ≡ length front → take n (front ++ rest) ≡ front
whole_again n front rest e = ap (λ m. take m (front ++ rest)) e ∙ take_front front rest
  where
    take_front : (xs ys : List ℕ) → take (length xs) (xs ++ ys) ≡ xs
    take_front [] ys = refl
    take_front (x ∷ xs) ys = ap (λ l. x ∷ l) (take_front xs ys)

-- What is counted of a run, and what of its counts is never refused.
use Rattle.std.proofs.Common.{◌≡◌, ℕ, zero, suc, ◌+◌, ◌^◌, ◌<◌, ◌≤◌, ◌⊎◌, inl, inr, Bool, true, false, List, [], ◌∷◌, ◌++◌, append_assoc, append-nil, length, map, Option, Some, None, slice_get, refl, sym, ap, subst, ◌∙◌, arith}
use Rattle.std.specs.Prelude.{◌==◌, ◌&&◌, is_some, option_map, option_and_then, if◌then◌else◌}
use Rattle.std.specs.List.{All}
use Rattle.std.proofs.lemmas.Bool.{cases_eq, eq-eqb, false≢true, lt-ltb, ltb-true, ne_eqb}
use Rattle.std.proofs.lemmas.List.{get_or_append_left, get_or_push, length_push}
use Rattle.std.proofs.lemmas.List.Elements.{All-cons, All-nil, All-push}
use Rattle.std.proofs.lemmas.List.Quantifiers.{all_pairs_push}
use Rattle.std.proofs.lemmas.List.Sums.{count_by-le-length, sum_by-cons}
use Rattle.bl_base.specs.Runs.{EndsAfter, HasStep, Next, Outcome, StepsTo, ends, goes, last, more, stuck}
use Rattle.bl_base.specs.declared.number.Pos.{Pos}
use Rattle.bl_base.specs.declared.start.Start.{Start}
use Rattle.bl_program.specs.Outcomes.{opening}
use Rattle.bl_program.specs.Rules.{IsWellFormed}
use Rattle.bl_program.specs.Sites.{mark_of}
use Rattle.bl_program.specs.Steps.{Plain, plain_step}
use Rattle.bl_program.specs.declared.command.Command.{Command}
use Rattle.bl_program.specs.declared.command.Mark.{Mark}
use Rattle.bl_program.specs.declared.definitions.ProgramParts.{ProgramParts as Program}
use Rattle.bl_counts.specs.RunCounts.{bare, behind, counts_from, counts_of, executed, first_bad, is_above, is_site, stepped, times, total, with_count}
use Rattle.bl_counts.specs.RecordedRuns.{AreRecorded, AreRising, FirstBad, IsExecuted, IsWritten, bad, none_bad}
use Rattle.bl_counts.specs.declared.counts.SiteCount.{SiteCount}
use Rattle.bl_counts.proofs.BarePrograms.{same_length, is_site_same}

same_some : {X : Type 0} {x y : X} → Some x ≡ Some y → x ≡ y
same_some e = cc

both_true : (a b : Bool) → a ≡ true → b ≡ true → (a && b) ≡ true
both_true true b x y = y
both_true false b x y = x

not_both : (a b : Bool) → a ≡ true → b ≡ false → (a && b) ≡ false
not_both true b x y = y
not_both false b x y = refl

-- ---- what is executed

module _ {C : Type 0} (step : C → Next C) where
  -- the configurations within so many steps, by the next step
  abbrev by_next : ℕ → C → Next C → List C
  by_next n c next = behind step c (stepped step n) next

  pub comes_to : (n k : ℕ) (c d : C) → StepsTo step k c d → HasStep (step d) → k < n → slice_get (stepped step n c) k ≡ Some d
  comes_to zero k c d comes has lt = absurd (omega arith)
  comes_to (suc n) zero c d comes has lt = subst (λ (x : C). slice_get (by_next n c (step c)) 0 ≡ Some x) comes (here (step c) (subst (λ (x : C). HasStep (step x)) (sym comes) has))
    where
      here : (next : Next C) → HasStep next → slice_get (by_next n c next) 0 ≡ Some c
      here (goes e) h = refl
      here (ends outcome) h = refl
      here stuck h = absurd h
  comes_to (suc n) (suc k) c d comes has lt =
      ap (λ next. slice_get (by_next n c next) (suc k)) comes.1 ∙ comes_to n k comes.0 d comes.2 has (omega arith)

  pub record Came (n k : ℕ) (c d : C) : Type 0 where
    pub comes : StepsTo step k c d
    pub has_step : HasStep (step d)
    pub within : k < n

  pub came_from : (n k : ℕ) (c d : C) → slice_get (stepped step n c) k ≡ Some d → Came n k c d
  came_from zero k c d e = cc
  came_from (suc n) k c d e = by k (step c) refl e (λ j x h. came_from n j x d h)
    where
      by : (k : ℕ) (next : Next C) → step c ≡ next → slice_get (by_next n c next) k ≡ Some d → ((j : ℕ) (x : C) → slice_get (stepped step n x) j ≡ Some d → Came n j x d) → Came (suc n) k c d
      by zero (goes x) is e rest = let same : c ≡ d = same_some e in record { comes = same; has_step = subst (λ (y : C). HasStep (step y)) same (subst HasStep (sym is) tt); within = omega arith }
      by (suc k) (goes x) is e rest = let later = rest k x e in record { comes = (x, is, later.comes); has_step = later.has_step; within = (let lt = later.within in omega arith) }
      by zero (ends outcome) is e rest = let same : c ≡ d = same_some e in record { comes = same; has_step = subst (λ (y : C). HasStep (step y)) same (subst HasStep (sym is) tt); within = omega arith }
      by (suc k) (ends outcome) is e rest = cc
      by k stuck is e rest = cc

  -- a run that isn't over executes as many commands as it has steps, and one that ends no more than until then
  pub all_spent : (n : ℕ) (c d : C) → StepsTo step n c d → length (stepped step n c) ≡ n
  all_spent zero c d comes = refl
  all_spent (suc n) c d comes = ap (λ next. length (by_next n c next)) comes.1 ∙ ap suc (all_spent n comes.0 d comes.2)

  pub until_end : (n m : ℕ) (c : C) (outcome : Outcome) → EndsAfter step m c outcome → m ≤ n → length (stepped step n c) ≡ m
  until_end zero _ _ _ (last c outcome e) le = absurd (omega arith)
  until_end (suc n) _ _ _ (last c outcome e) le = ap (λ next. length (by_next n c next)) e
  until_end zero _ _ _ (more m c d outcome e rest) le = absurd (omega arith)
  until_end (suc n) _ _ _ (more m c d outcome e rest) le = ap (λ next. length (by_next n c next)) e ∙ ap suc (until_end n m d outcome rest (omega arith))

  pub at_most : (n : ℕ) (c : C) → length (stepped step n c) ≤ n
  at_most zero c = omega arith
  at_most (suc n) c = by (step c) (λ x. at_most n x)
    where
      by : (next : Next C) → ((x : C) → length (stepped step n x) ≤ n) → length (by_next n c next) ≤ suc n
      by (goes x) rest = let le = rest x in omega arith
      by (ends outcome) rest = omega arith
      by stuck rest = omega arith

mapped : {X : Type 0} (f : X → ℕ) (xs : List X) (k : ℕ) (y : ℕ) → slice_get (map f xs) k ≡ Some y → (x : X) × (slice_get xs k ≡ Some x) × (f x ≡ y)
mapped f [] k y e = cc
mapped f (x ∷ xs) zero y e = (x, refl, cc)
mapped f (x ∷ xs) (suc k) y e = mapped f xs k y e

mapped_back : {X : Type 0} (f : X → ℕ) (xs : List X) (k : ℕ) (x : X) → slice_get xs k ≡ Some x → slice_get (map f xs) k ≡ Some (f x)
mapped_back f [] k x e = cc
mapped_back f (y ∷ xs) zero x e = ap (option_map f) e
mapped_back f (y ∷ xs) (suc k) x e = mapped_back f xs k x e

counted : {X : Type 0} (f : X → ℕ) (xs : List X) → length (map f xs) ≡ length xs
counted f [] = refl
counted f (x ∷ xs) = ap suc (counted f xs)

module _ (program : Program) (function : ℕ) (start : Start) (steps : ℕ) where
  abbrev states : List Plain
  states = stepped (plain_step program) steps (opening program function start)

  pub is_executed : (count at : ℕ) → slice_get (executed program function start steps) count ≡ Some at → IsExecuted program function start steps count at
  is_executed count at e =
      let found = mapped (λ (s : Plain). s.position) states count at e in
      let came = came_from (plain_step program) steps count (opening program function start) found.0 found.1 in
      record { state = found.0; comes = came.comes; has_step = came.has_step; within = came.within; stands = found.2 }

  pub executes : (count at : ℕ) → IsExecuted program function start steps count at → slice_get (executed program function start steps) count ≡ Some at
  executes count at is =
      mapped_back (λ (s : Plain). s.position) states count is.state (comes_to (plain_step program) steps count (opening program function start) is.state is.comes is.has_step is.within) ∙ ap Some is.stands

  pub spent : (state : Plain) → StepsTo (plain_step program) steps (opening program function start) state → length (executed program function start steps) ≡ steps
  spent state comes = counted (λ (s : Plain). s.position) states ∙ all_spent (plain_step program) steps (opening program function start) state comes

  pub ended : (count : ℕ) (outcome : Outcome) → EndsAfter (plain_step program) count (opening program function start) outcome → count ≤ steps → length (executed program function start steps) ≡ count
  ended count outcome end le = counted (λ (s : Plain). s.position) states ∙ until_end (plain_step program) steps count (opening program function start) outcome end le

  pub few : length (executed program function start steps) ≤ steps
  few = let le = at_most (plain_step program) steps (opening program function start) in let same = counted (λ (s : Plain). s.position) states in omega arith

-- ---- the first bad entry

module _ (program : Program) where
  -- an entry may follow exactly where those before it are below it
  record Follows (done : List SiteCount) (before : Option Pos) : Type 0 where
    to : (s : ℕ) → is_above before s ≡ true → All (λ (e : SiteCount). e.at.0 < s) done
    from : (s : ℕ) → All (λ (e : SiteCount). e.at.0 < s) done → is_above before s ≡ true

  follows_none : Follows [] None
  follows_none = record { to = λ s h. All-nil (λ (e : SiteCount). e.at.0 < s); from = λ s h. refl }

  last_of : {X : Type 0} (P : X → Type 0) (xs : List X) (y : X) → All P (xs ++ y ∷ []) → P y
  last_of P xs y all = subst P (get_or_push xs y y (length xs) refl) (all (length xs) y (let count = length_push xs y in omega arith))

  follows_on : (done : List SiteCount) (before : Option Pos) (one : SiteCount) → Follows done before → is_above before one.at.0 ≡ true → Follows (done ++ one ∷ []) (Some one.at)
  follows_on done before one f above = record {
    to = λ s h. let lt = ltb-true one.at.0 s h in All-push (λ (e : SiteCount). e.at.0 < s) done one (λ k d within. let low = f.to one.at.0 above k d within in omega arith) lt;
    from = λ s all. lt-ltb one.at.0 s (last_of (λ (e : SiteCount). e.at.0 < s) done one all);
  }

  rising_on : (done : List SiteCount) (before : Option Pos) (one : SiteCount) → Follows done before → AreRising program done → is_site program one.at.0 ≡ true → is_above before one.at.0 ≡ true
      → AreRising program (done ++ one ∷ [])
  rising_on done before one f rising site above = record {
    are_sites = All-push (λ (e : SiteCount). is_site program e.at.0 ≡ true) done one rising.are_sites site;
    rise = all_pairs_push (λ (x y : SiteCount). x.at.0 < y.at.0) done one rising.rise (λ k d lt. f.to one.at.0 above k d lt);
  }

  not_rising : (done : List SiteCount) (before : Option Pos) (one : SiteCount) → Follows done before → (is_site program one.at.0 && is_above before one.at.0) ≡ false → AreRising program (done ++ one ∷ []) → ⊥
  not_rising done before one f bad_one rising =
      let site = last_of (λ (e : SiteCount). is_site program e.at.0 ≡ true) done one rising.are_sites in
      let count = length_push done one in
      let above = f.from one.at.0 (λ k d lt.
      let pair = rising.rise k (length done) d lt (omega arith) in
      let here = ap (λ (e : SiteCount). e.at.0) (get_or_append_left done (one ∷ []) d k lt) in
      let there = ap (λ (e : SiteCount). e.at.0) (get_or_push done one d (length done) refl) in
      omega arith) in
      false≢true (sym bad_one ∙ both_true _ _ site above)

  tells : (rest done : List SiteCount) (before : Option Pos) → Follows done before → AreRising program done → FirstBad program (done ++ rest) (first_bad program before rest)
  tells [] done before f rising = subst (λ all. FirstBad program all None) (sym (append-nil done)) (none_bad rising)
  tells (one ∷ others) done before f rising =
      by (is_site program one.at.0) (is_above before one.at.0) refl refl (λ site above. tells others (done ++ one ∷ []) (Some one.at) (follows_on done before one f above) (rising_on done before one f rising site above))
    where
      by : (a b : Bool) → is_site program one.at.0 ≡ a → is_above before one.at.0 ≡ b
          → (is_site program one.at.0 ≡ true → is_above before one.at.0 ≡ true → FirstBad program ((done ++ one ∷ []) ++ others) (first_bad program (Some one.at) others))
          → FirstBad program (done ++ one ∷ others) (if a && b then first_bad program (Some one.at) others else Some one.at)
      by true true site above rest = subst (λ all. FirstBad program all (first_bad program (Some one.at) others)) (append_assoc done (one ∷ []) others) (rest site above)
      by true false site above rest = bad done one others refl rising (not_rising done before one f (not_both _ _ site above))
      by false b site above rest = bad done one others refl rising (not_rising done before one f (ap (λ x. x && is_above before one.at.0) site))

  pub first_bad_is : (counts : List SiteCount) → FirstBad program counts (first_bad program None counts)
  first_bad_is counts = tells counts [] None follows_none (record { are_sites = All-nil (λ (e : SiteCount). is_site program e.at.0 ≡ true); rise = λ a b d lt within. absurd (omega arith) })

-- ---- the counts of a run

-- the least position that may follow
abbrev least : Option Pos → ℕ
least None = 0
least (Some former) = suc former.0

is_higher : (before : Option Pos) (s : ℕ) → least before ≤ s → is_above before s ≡ true
is_higher None s le = refl
is_higher (Some former) s le = lt-ltb former.0 s (omega arith)

module _ (program : Program) (count : ℕ → ℕ) where
  none_refused : (commands : List Command) (i : ℕ) (before : Option Pos) → least before ≤ i
      → ((k : ℕ) (mark : Mark) → option_and_then mark_of (slice_get commands k) ≡ Some mark → is_site program (i + k) ≡ true) → first_bad program before (counts_from count i commands) ≡ None
  none_refused [] i before le sites = refl
  none_refused (command ∷ commands) i before le sites =
      by (count i) (mark_of command) refl
      (λ next low. none_refused commands (suc i) next low (λ k mark e. let same : i + suc k ≡ suc i + k = omega arith in subst (λ (s : ℕ). is_site program s ≡ true) same (sites (suc k) mark e)))
    where
      by : (n : ℕ) (o : Option Mark) → mark_of command ≡ o → ((next : Option Pos) → least next ≤ suc i → first_bad program next (counts_from count (suc i) commands) ≡ None)
          → first_bad program before (with_count i n o (counts_from count (suc i) commands)) ≡ None
      by zero o e rest = rest before (omega arith)
      by (suc n) None e rest = rest before (omega arith)
      by (suc n) (Some mark) e rest =
          let none : i + 0 ≡ i = omega arith in
          let site : is_site program i ≡ true = subst (λ (s : ℕ). is_site program s ≡ true) none (sites 0 mark e) in
          rw (site, is_higher before i le) (rest (Some (record { 0 = i })) (omega arith))

  each_written : (most : ℕ) → most < 2 ^ 32 → ((s : ℕ) → count s ≤ most) → (commands : List Command) (i : ℕ) → i + length commands < 2 ^ 32 → All IsWritten (counts_from count i commands)
  each_written most small low [] i within = All-nil IsWritten
  each_written most small low (command ∷ commands) i within = by (count i) (mark_of command) (low i) (each_written most small low commands (suc i) (omega arith))
    where
      by : (n : ℕ) (o : Option Mark) → n ≤ most → All IsWritten (counts_from count (suc i) commands) → All IsWritten (with_count i n o (counts_from count (suc i) commands))
      by zero o le rest = rest
      by (suc n) None le rest = rest
      by (suc n) (Some mark) le rest = All-cons IsWritten _ (counts_from count (suc i) commands) (record { at_fits = omega arith; some = omega arith; count_fits = omega arith }) rest

-- one more executed command is counted at most once
once : (p : ℕ) (positions : List ℕ) (s : ℕ) → times (p ∷ positions) s ≡ (if p == s then 1 else 0) + times positions s
once p positions s = sum_by-cons (λ q. if q == s then 1 else 0) p positions

not_here : (p : ℕ) (positions : List ℕ) (s : ℕ) → (p ≡ s → ⊥) → times (p ∷ positions) s ≡ times positions s
not_here p positions s other = once p positions s ∙ rw (ne_eqb p s other) (omega arith)

is_here : (p : ℕ) (positions : List ℕ) → times (p ∷ positions) p ≡ suc (times positions p)
is_here p positions = once p positions p ∙ rw (eq-eqb p p refl) (omega arith)

grows : (s n : ℕ) (o : Option Mark) (rest other : List SiteCount) → total rest ≤ suc (total other) → total (with_count s n o rest) ≤ suc (total (with_count s n o other))
grows s zero o rest other le = le
grows s (suc n) None rest other le = le
grows s (suc n) (Some mark) rest other le =
    let one = sum_by-cons (λ (one : SiteCount). one.count) (record { at = record { 0 = s }; count = suc n }) rest in
    let two = sum_by-cons (λ (one : SiteCount). one.count) (record { at = record { 0 = s }; count = suc n }) other in
    omega arith

grows_here : (s n : ℕ) (o : Option Mark) (rest : List SiteCount) → total (with_count s (suc n) o rest) ≤ suc (total (with_count s n o rest))
grows_here s zero None rest = omega arith
grows_here s (suc n) None rest = omega arith
grows_here s zero (Some mark) rest = let one = sum_by-cons (λ (one : SiteCount). one.count) (record { at = record { 0 = s }; count = 1 }) rest in omega arith
grows_here s (suc n) (Some mark) rest =
    let one = sum_by-cons (λ (one : SiteCount). one.count) (record { at = record { 0 = s }; count = suc (suc n) }) rest in
    let two = sum_by-cons (λ (one : SiteCount). one.count) (record { at = record { 0 = s }; count = suc n }) rest in
    omega arith

module _ (p : ℕ) (positions : List ℕ) where
  unchanged : (commands : List Command) (i : ℕ) → p < i → counts_from (times (p ∷ positions)) i commands ≡ counts_from (times positions) i commands
  unchanged [] i lt = refl
  unchanged (command ∷ commands) i lt =
      ap (λ (n : ℕ). with_count i n (mark_of command) (counts_from (times (p ∷ positions)) (suc i) commands)) (not_here p positions i (λ e. omega arith))
      ∙ ap (with_count i (times positions i) (mark_of command)) (unchanged commands (suc i) (omega arith))

  one_more : (commands : List Command) (i : ℕ) → total (counts_from (times (p ∷ positions)) i commands) ≤ suc (total (counts_from (times positions) i commands))
  one_more [] i = omega arith
  one_more (command ∷ commands) i = by (cases_eq p i) (one_more commands (suc i))
    where
      by : (p ≡ i) ⊎ (p ≡ i → ⊥) → total (counts_from (times (p ∷ positions)) (suc i) commands) ≤ suc (total (counts_from (times positions) (suc i) commands))
          → total (counts_from (times (p ∷ positions)) i (command ∷ commands)) ≤ suc (total (counts_from (times positions) i (command ∷ commands)))
      by (inl same) rest =
          let here : times (p ∷ positions) i ≡ suc (times positions i) = subst (λ (s : ℕ). times (p ∷ positions) s ≡ suc (times positions s)) same (is_here p positions) in
          let later = unchanged commands (suc i) (omega arith) in
          let all : counts_from (times (p ∷ positions)) i (command ∷ commands) ≡ with_count i (suc (times positions i)) (mark_of command) (counts_from (times positions) (suc i) commands) =
          ap (λ (n : ℕ). with_count i n (mark_of command) (counts_from (times (p ∷ positions)) (suc i) commands)) here
          ∙ ap (with_count i (suc (times positions i)) (mark_of command)) later in
          subst (λ (l : List SiteCount). total l ≤ suc (total (counts_from (times positions) i (command ∷ commands)))) (sym all) (grows_here i (times positions i) (mark_of command) (counts_from (times positions) (suc i) commands))
      by (inr other) rest =
          let here = not_here p positions i other in
          let all : counts_from (times (p ∷ positions)) i (command ∷ commands) ≡ with_count i (times positions i) (mark_of command) (counts_from (times (p ∷ positions)) (suc i) commands) =
          ap (λ (n : ℕ). with_count i n (mark_of command) (counts_from (times (p ∷ positions)) (suc i) commands)) here in
          subst (λ (l : List SiteCount). total l ≤ suc (total (counts_from (times positions) i (command ∷ commands)))) (sym all)
          (grows i (times positions i) (mark_of command) (counts_from (times (p ∷ positions)) (suc i) commands) (counts_from (times positions) (suc i) commands) rest)

none_counted : (commands : List Command) (i : ℕ) → counts_from (times []) i commands ≡ []
none_counted [] i = refl
none_counted (command ∷ commands) i = none_counted commands (suc i)

all_counted : (positions : List ℕ) (commands : List Command) (i : ℕ) → total (counts_from (times positions) i commands) ≤ length positions
all_counted [] commands i = let none = ap total (none_counted commands i) in omega arith
all_counted (p ∷ positions) commands i = let first = one_more p positions commands i in let rest = all_counted positions commands i in omega arith

-- the counts of a run weigh its program, and each program that is equal but for marks and weights
pub are_recorded : (program other : Program) (function : ℕ) (start : Start) (steps : ℕ) → bare other ≡ bare program → length other.commands < 2 ^ 32 → steps < 2 ^ 32
    → AreRecorded program steps (counts_of other function start steps)
are_recorded program other function start steps same short small =
    let positions = executed other function start steps in
    let le = few other function start steps in
    record {
      are_sites = none_refused program (times positions) other.commands 0 None (omega arith)
          (λ k mark e. let none : 0 + k ≡ k = omega arith in subst (λ (s : ℕ). is_site program s ≡ true) (sym none) (sym (is_site_same other program same k) ∙ ap is_some e));
      each = each_written program (times positions) steps small (λ s. let most = count_by-le-length (λ p. p == s) positions in omega arith) other.commands 0 (omega arith);
      few = let all = all_counted positions other.commands 0 in omega arith;
    }

-- where the program is well-formed, it has few enough commands
pub recorded : (program other : Program) (function : ℕ) (start : Start) (steps : ℕ) → IsWellFormed program → bare other ≡ bare program → steps < 2 ^ 32
    → AreRecorded program steps (counts_of other function start steps)
recorded program other function start steps rules same small =
    let as_many = same_length other program same in
    let most = rules.rule2.commands in
    are_recorded program other function start steps same (omega arith) small

-- A machine that hasn't ended has a directive to choose.
use Rattle.std.proofs.Common.{◌≡◌, ℕ, suc, Bool, true, false, List, [], ◌∷◌, length, Option, Some, None, refl, sym, ap, ◌∙◌, subst}
use Rattle.std.specs.Prelude.{if◌then◌else◌, slice_get, nat_lt, cond}
use Rattle.std.specs.List.{find, range_with_len}
use Rattle.std.specs.Option.{IsSomeAnd}
use Rattle.bl_base.specs.Quantity.{most_calls}
use Rattle.bl_base.specs.Runs.{HasStep, StepsTo}
use Rattle.bl_base.specs.declared.start.Start.{Start}
use Rattle.bl_program.specs.Layout.{command_at}
use Rattle.bl_program.specs.Outcomes.{IsStart, opening as plain_opening}
use Rattle.bl_program.specs.Programs.{IsProgram}
use Rattle.bl_program.specs.Rules.{IsWellFormed}
use Rattle.bl_program.specs.Steps.{Registers, Plain, perform, plain_step}
use Rattle.bl_program.specs.declared.command.Command.{Command}
use Rattle.bl_program.specs.declared.command.Command.TheVariants as command
use Rattle.bl_program.specs.declared.definitions.ProgramParts.{ProgramParts as Program}
use Rattle.bl_seq.proofs.OwnSizes.{whole}
use Rattle.bl_seq.proofs.OwnSteps.{has_step}
use Rattle.bl_rob.specs.CallResults.{is_some, is_enabled}
use Rattle.bl_rob.specs.Machines.{State, opening, Fetched, Straight, Branch, Nowhere, fetched, before, fetch, predict, visible_of, act, acted, agree, truth, exec_entry, retire_work, retire, directive_step, end_of, end_in}
use Rattle.bl_rob.specs.ReachableStates.{DirectivesLead, stays, more}
use Rattle.bl_rob.specs.declared.directive.Directive.{Directive}
use Rattle.bl_rob.specs.declared.directive.Directive.TheVariants.{Fetch, Predict, Exec, Retire}
use Rattle.bl_rob.specs.declared.directive.Observation.TheVariants as seen
use Rattle.bl_rob.specs.declared.directive.Observation.{Observation}
use Rattle.bl_rob.specs.declared.entry.Act.TheVariants.{Becomes, RollsBack}
use Rattle.bl_rob.specs.declared.entry.Entry.{Entry}
use Rattle.bl_rob.specs.declared.entry.Source.{Source}
use Rattle.bl_rob.specs.declared.entry.Source.TheVariants.{Const, Holds as Reads}
use Rattle.bl_rob.specs.declared.entry.Work.{Work}
use Rattle.bl_rob.specs.declared.entry.Work.TheVariants.{Nop, Assign, Load, Held, Done, Store, Ready, Guard, Fail}
use Rattle.bl_rob.proofs.BufferInvariant.{Holds, Kept, Ran, runs, ended, opening_kept, step_ok}
use Rattle.bl_rob.proofs.FetchedRuns.{config_of}
use Rattle.bl_rob.proofs.PlainTracks.{Config, Tracks, IsThere, value_in, entry_at}
use Rattle.bl_predict.specs.Drives.{first_of, least, or_else, chosen, guessed, shows_read}

-- ---- the first choice that is enabled

module _ (enabled : Directive → Bool) (reads : ℕ → Bool) (sound : (n : ℕ) → reads n ≡ true → enabled (Exec n) ≡ true) where
  abbrev Good : Option Directive → Type 0
  Good o = IsSomeAnd o (λ d. enabled d ≡ true)

  -- a fetch, a guess, the oldest entry's execution or its retirement is enabled
  pub data One (guess : Bool) (count : ℕ) : Type 0 where
    a_fetch : enabled Fetch ≡ true → One guess count
    a_guess : enabled (Predict guess) ≡ true → One guess count
    an_execution : (n : ℕ) → count ≡ suc n → enabled (Exec 0) ≡ true → One guess count
    a_retirement : enabled Retire ≡ true → One guess count

  choose : (b : Bool) (d : Directive) (o : Option Directive) → enabled d ≡ b → (b ≡ false → Good o) → Good (if b then Some d else o)
  choose true d o e k = e
  choose false d o e k = k refl

  abbrev Finds : Option ℕ → Type 0
  Finds None = Unit {0}
  Finds (Some n) = enabled (Exec n) ≡ true

  find_if : (b : Bool) (n : ℕ) (o : Option ℕ) → (b ≡ true → enabled (Exec n) ≡ true) → Finds o → Finds (cond b (Some n) o)
  find_if true n o h k = h refl
  find_if false n o h k = k

  found : (test : ℕ → Bool) → ((n : ℕ) → test n ≡ true → enabled (Exec n) ≡ true) → (ns : List ℕ) → Finds (find test ns)
  found test h [] = tt
  found test h (n ∷ ns) = find_if (test n) n (find test ns) (h n) (found test h ns)

  found_least : (test : ℕ → Bool) → ((n : ℕ) → test n ≡ true → enabled (Exec n) ≡ true) → (count : ℕ) → Finds (least test count)
  unfolding least
  found_least test h count = found test h (range_with_len 0 count)

  otherwise : (x : Option ℕ) (o : Option Directive) → Finds x → (x ≡ None → Good o) → Good (or_else x o)
  otherwise (Some n) o f k = f
  otherwise None o f k = k refl

  none_left : (guess : Bool) (count : ℕ) → One guess count → enabled Fetch ≡ false → enabled (Predict guess) ≡ false
      → least (λ n. enabled (Exec n)) count ≡ None → enabled Retire ≡ false → ⊥
  unfolding least
  none_left guess count (a_fetch e) f p x r = cc
  none_left guess count (a_guess e) f p x r = cc
  none_left guess count (an_execution n is e) f p x r = let x' = rw (is, e) at x in cc
  none_left guess count (a_retirement e) f p x r = cc

  pub first_ok : (guess : Bool) (count : ℕ) → One guess count → Good (first_of enabled reads guess count)
  first_ok guess count one =
      choose (enabled Fetch) Fetch _ refl (λ f. choose (enabled (Predict guess)) (Predict guess) _ refl (λ p.
      otherwise (least reads count) _ (found_least reads sound count) (λ y.
      otherwise (least (λ n. enabled (Exec n)) count) _ (found_least (λ n. enabled (Exec n)) (λ n e. e) count) (λ x.
      choose (enabled Retire) Retire None refl (λ r. absurd (none_left guess count one f p x r))))))

-- what reads is enabled
reads_enabled : (o : Option (State × Observation)) → shows_read o ≡ true → is_some o ≡ true
reads_enabled None h = cc
reads_enabled (Some step) h = refl

-- ---- the oldest entry

always : (rs : Registers) (a : Source) → visible_of rs [] a ≡ Some (value_in rs a)
always rs (Const number) = refl
always rs (Reads x) = refl

data Moves (Q : Program) (s : State) (p : ℕ) (es : List Entry) (e : Work) : Type 0 where
  executes : is_some (acted 0 s (entry_at p e) (act Q s.registers s.space [] e)) ≡ true → Moves Q s p es e
  retires : is_some (retire_work Q s es e) ≡ true → Moves Q s p es e

judged_moves : (s : State) (x : Entry) (b : Bool) → is_some (acted 0 s x (if b then Becomes Nop seen.Nothing else RollsBack)) ≡ true
judged_moves s x true = refl
judged_moves s x false = refl

moves : (Q : Program) (s : State) (p : ℕ) (es : List Entry) (e : Work) → Moves Q s p es e
moves Q s p es Nop = retires refl
moves Q s p es (Assign protect op to a b c) = executes (rw (always s.registers a, always s.registers b, always s.registers c) refl)
moves Q s p es (Load protect kind memory to offset address) = executes (rw (always s.registers address) refl)
moves Q s p es (Held to value) = executes refl
moves Q s p es (Done to value) = retires refl
moves Q s p es (Store kind memory offset address value) = executes (rw (always s.registers address, always s.registers value) refl)
moves Q s p es (Ready kind memory offset address value) = retires refl
moves Q s p es (Guard test predicted other chain) =
    executes (rw (always s.registers test) (judged_moves s (entry_at p (Guard test predicted other chain)) (agree predicted (truth (value_in s.registers test)))))
moves Q s p es (Fail kind) = retires refl

-- ---- the front end over an empty buffer

there_call : (few : Bool) (a : Work) (f : _) (b : Work) (g : _) → IsThere (if few then Straight a f else Straight b g)
there_call true a f b g = tt
there_call false a f b g = tt

-- where the plain run has a step, there is something to fetch
there : (Q : Program) (t : Plain) (o : Option Command) → HasStep (perform Q o t) → IsThere (fetched Q t.position t.chain o)
there Q t None h = h
there Q t (Some (command.Call function)) h = there_call (nat_lt (suc (length t.chain)) most_calls) _ _ _ _
there Q t (Some _) h = tt

data Goes (guess : Bool) (s : State) (x : Fetched) : Type 0 where
  fetches : is_some (fetch true s x) ≡ true → Goes guess s x
  guesses : is_some (predict true guess s x) ≡ true → Goes guess s x

goes_there : (guess : Bool) (s : State) (x : Fetched) → IsThere x → Goes guess s x
goes_there guess s (Straight work front) h = fetches refl
goes_there guess s (Branch test one other) h = guesses refl
goes_there guess s Nowhere h = absurd h

module _ (Q : Program) (facts : IsProgram Q) (rules : IsWellFormed Q) (function : ℕ) (start : Start) (fits : IsStart Q function start) where
  kept : (s : State) → DirectivesLead (directive_step 64 Q) (opening Q function start) s → Kept Q (plain_opening Q function start) s
  kept _ stays = opening_kept Q function start
  kept _ (more s t d observation leads is) = subst (Holds (Kept Q (plain_opening Q function start))) is (step_ok Q (plain_opening Q function start) 64 s d (kept s leads))

  run_there : (n : ℕ) (t : Plain) → StepsTo (plain_step Q) n (plain_opening Q function start) t → IsThere (before Q (config_of t).front)
  run_there n t comes = there Q t (command_at Q t.position) (has_step Q facts rules t (whole Q facts rules t
      (record { facts = facts; rules = rules; function = function; start = start; start_fits = fits; steps = n; comes = comes })))

  front_there : (n : ℕ) (c : Config) (f : _) → f ≡ c.front → f.end ≡ None → Ran Q (plain_opening Q function start) n c → IsThere (before Q f)
  front_there n c f e h (runs t is comes) =
      subst (λ g. IsThere (before Q g)) (sym (e ∙ ap (λ (x : Config). x.front) is)) (run_there n t comes)
  front_there n c f e h (ended t end before last comes r m is run) = let same : f.end ≡ c.front.end = ap (λ g. g.end) e in cc

  module _ (counters : List ℕ) where
    abbrev Can : State → Type 0
    Can s = One (is_enabled 64 Q s) (λ n. shows_read (directive_step 64 Q s (Exec n)))
        (λ n. reads_enabled (directive_step 64 Q s (Exec n))) (guessed counters s) 64

    by_front : (s : State) → s.buffer ≡ [] → Goes (guessed counters s) s (before Q s.front) → Can s
    by_front s is (fetches e) =
        a_fetch (subst (λ b. is_some (fetch (nat_lt (length b) 64) s (before Q s.front)) ≡ true) (sym is) e)
    by_front s is (guesses e) =
        a_guess (subst (λ b. is_some (predict (nat_lt (length b) 64) (guessed counters s) s (before Q s.front)) ≡ true) (sym is) e)

    by_oldest : (s : State) (e : Entry) (es : List Entry) → s.buffer ≡ e ∷ es → Moves Q s e.position es e.work → Can s
    by_oldest s e es is (executes h) =
        an_execution 63 refl (subst (λ b. is_some (exec_entry Q 0 s (slice_get b 0)) ≡ true) (sym is) h)
    by_oldest s e es is (retires h) = a_retirement (subst (λ b. is_some (retire Q s b) ≡ true) (sym is) h)

    can : (s : State) (buffer : List Entry) → s.buffer ≡ buffer → Kept Q (plain_opening Q function start) s → end_in s ≡ None → Can s
    can s [] is k h =
        let tracks : s.front ≡ k.config.front = subst (λ b. Tracks Q b k.config s.front) is k.inv.tracks in
        let running : s.front.end ≡ None = subst (λ b. end_of b s.front ≡ None) is h in
        by_front s is (goes_there (guessed counters s) s (before Q s.front) (front_there s.retired k.config s.front tracks running k.ran))
    can s (e ∷ es) is k h = by_oldest s e es is (moves Q s e.position es e.work)

    pub has_choice : (s : State) → DirectivesLead (directive_step 64 Q) (opening Q function start) s → end_in s ≡ None
        → IsSomeAnd (chosen Q counters s) (λ d. is_enabled 64 Q s d ≡ true)
    has_choice s leads h =
        first_ok (is_enabled 64 Q s) (λ n. shows_read (directive_step 64 Q s (Exec n))) (λ n. reads_enabled (directive_step 64 Q s (Exec n)))
        (guessed counters s) 64 (can s s.buffer refl (kept s leads) h)

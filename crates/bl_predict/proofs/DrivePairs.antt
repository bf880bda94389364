-- Two drives of starts that are observed alike.
use Rattle.std.proofs.Common.{◌≡◌, ℕ, zero, suc, ◌+◌, ◌%◌, List, [], ◌∷◌, ◌++◌, replicate, set, Option, Some, None, refl, sym, ap, ◌∙◌, subst, arith}
use Rattle.std.specs.Prelude.{if◌then◌else◌, slice_get, get_or}
use Rattle.bl_base.specs.declared.start.Start.{Start}
use Rattle.bl_program.specs.Outcomes.{Agree}
use Rattle.bl_program.specs.declared.definitions.ProgramParts.{ProgramParts as Program}
use Rattle.bl_rob.specs.CallResults.{is_some, position_of}
use Rattle.bl_rob.specs.Machines.{State, opening, directive_step, end_of, end_in}
use Rattle.bl_rob.specs.Observations.{Observed, see, observed_from, HasEqualObservations}
use Rattle.bl_rob.specs.declared.directive.Directive.{Directive}
use Rattle.bl_rob.specs.declared.directive.Directive.TheVariants.{Fetch, Predict, Exec, Retire}
use Rattle.bl_rob.specs.declared.directive.End.{End}
use Rattle.bl_rob.specs.declared.directive.Observation.{Observation}
use Rattle.bl_rob.specs.declared.directive.Observation.TheVariants as seen
use Rattle.bl_rob.specs.declared.entry.Entry.{Entry}
use Rattle.bl_rob.specs.declared.entry.Work.{Work}
use Rattle.bl_rob.specs.declared.entry.Work.TheVariants.{Nop, Assign, Load, Held, Done, Store, Ready, Guard, Fail}
use Rattle.bl_rob.proofs.PlainTracks.{entry_at}
use Rattle.bl_predict.specs.Drives.{DriveState, AreSame, begun, first_of, chosen, guess_at, shows_read, guard_at, guard_of, moved, taught, touched, after_observation, stepped, drive_step_by, drive_step, unless_ended, driven}
use Rattle.bl_predict.specs.Lines.{line_of, has, accessed}
use Rattle.bl_predict.specs.Outlines.{IsOther, guards, fails, others, SameOutlines, none, more, Outline}
use Rattle.bl_predict.proofs.OutlineLemmas.{Both, SameGet, no_entry, an_entry, same_get, step_both}

same_end : (s t : State) (es fs : List Entry) → s.front ≡ t.front → SameOutlines es fs → end_of es s.front ≡ end_of fs t.front
same_end s t es fs r none = λ i. (r i).end
same_end s t es fs r (more p e f gs hs g m) = refl

-- entries that are no guards have no counter
unguarded : (p : ℕ) (e : Work) → IsOther e → guard_at (Some (entry_at p e)) ≡ None
unguarded p Nop i = refl
unguarded p (Assign protect op to a b c) i = refl
unguarded p (Load protect kind memory to offset address) i = refl
unguarded p (Held to value) i = refl
unguarded p (Done to value) i = refl
unguarded p (Store kind memory offset address value) i = refl
unguarded p (Ready kind memory offset address value) i = refl
unguarded p (Guard cond predicted other chain) i = absurd i
unguarded p (Fail kind) i = absurd i

guard_entry : (x y : Option Entry) → SameGet x y → guard_at x ≡ guard_at y
guard_entry x y no_entry = refl
guard_entry x y (an_entry p f g (guards cond predicted other chain)) = refl
guard_entry x y (an_entry p f g (fails kind)) = refl
guard_entry x y (an_entry p f g (others h k i j)) = unguarded p h i ∙ sym (unguarded p k j)

guard_both : (s t : State) (d : Directive) → Outline s t → guard_of s d ≡ guard_of t d
guard_both s t Fetch r = refl
guard_both s t (Predict predicted) r = refl
guard_both s t (Exec n) r = guard_entry (slice_get s.buffer n) (slice_get t.buffer n) (same_get n s.buffer t.buffer r.entries)
guard_both s t Retire r = refl

taught_both : (a b : List ℕ) (s t : State) (d : Directive) (o : Observation) → a ≡ b → Outline s t → taught a s d o ≡ taught b t d o
taught_both a b s t d o e r = λ i. moved (e i) o (guard_both s t d r i)

module _ (Q : Program) where
  -- whatever comes is observed alike
  abbrev Future : ℕ → State → State → Type 0
  Future place s t = (directives : List Directive) → observed_from 64 Q place directives s ≡ observed_from 64 Q place directives t

  -- both are enabled, observed alike, and will be; or neither is enabled
  data Paired (place : ℕ) : Option (State × Observation) → Option (State × Observation) → Type 0 where
    neither : Paired place None None
    both : (s t : State) (o : Observation) → Outline s t → Future (suc place) s t → Paired place (Some (s, o)) (Some (t, o))

  pair_up : (place : ℕ) (x y : Option (State × Observation)) → Both Outline x y
      → ((directives : List Directive) → see (observed_from 64 Q (suc place) directives) place x ≡ see (observed_from 64 Q (suc place) directives) place y)
      → Paired place x y
  pair_up place None None w h = neither
  pair_up place None (Some b) w h = let made : [] ≡ b.1 ∷ [] = ap (λ (o : Observed Observation). o.made) (h []) in cc
  pair_up place (Some a) None w h = let made : a.1 ∷ [] ≡ [] = ap (λ (o : Observed Observation). o.made) (h []) in cc
  pair_up place (Some a) (Some b) w h =
      let made : a.1 ∷ [] ≡ b.1 ∷ [] = ap (λ (o : Observed Observation). o.made) (h []) in
      let head : a.1 ≡ b.1 = cc in
      subst (λ o. Paired place (Some a) (Some (b.0, o))) head (both a.0 b.0 a.1 (w head) (λ directives.
      let all : a.1 ∷ (observed_from 64 Q (suc place) directives a.0).made ≡ b.1 ∷ (observed_from 64 Q (suc place) directives b.0).made =
      ap (λ (o : Observed Observation). o.made) (h directives) in
      let tail : (observed_from 64 Q (suc place) directives a.0).made ≡ (observed_from 64 Q (suc place) directives b.0).made = cc in
      let refused : (observed_from 64 Q (suc place) directives a.0).refused ≡ (observed_from 64 Q (suc place) directives b.0).refused =
      ap (λ (o : Observed Observation). o.refused) (h directives) in
      (λ i. record { made = tail i; refused = refused i })))

  paired : (place : ℕ) (s t : State) (d : Directive) → Outline s t → Future place s t → Paired place (directive_step 64 Q s d) (directive_step 64 Q t d)
  paired place s t d r h = pair_up place (directive_step 64 Q s d) (directive_step 64 Q t d) (step_both 64 Q s t d r) (λ directives. h (d ∷ directives))

  same_enabled : (place : ℕ) (x y : Option (State × Observation)) → Paired place x y → is_some x ≡ is_some y
  same_enabled place x y neither = refl
  same_enabled place x y (both s t o r h) = refl

  same_read : (place : ℕ) (x y : Option (State × Observation)) → Paired place x y → shows_read x ≡ shows_read y
  same_read place x y neither = refl
  same_read place x y (both s t o r h) = refl

  record Same (d e : DriveState) : Type 0 where
    pub place : ℕ
    pub outline : Outline d.state e.state
    pub future : Future place d.state e.state
    pub counters : d.counters ≡ e.counters
    pub sets : d.sets ≡ e.sets
    pub trace : d.trace ≡ e.trace
    pub rollbacks : d.rollbacks ≡ e.rollbacks
    pub hits : d.hits ≡ e.hits
    pub misses : d.misses ≡ e.misses

  same_chosen : (d e : DriveState) → Same d e → chosen Q d.counters d.state ≡ chosen Q e.counters e.state
  same_chosen d e m =
      let pair : ((x : Directive) → Paired m.place (directive_step 64 Q d.state x) (directive_step 64 Q e.state x)) =
      λ x. paired m.place d.state e.state x m.outline m.future in
      λ i. first_of (λ x. same_enabled m.place (directive_step 64 Q d.state x) (directive_step 64 Q e.state x) (pair x) i)
      (λ n. same_read m.place (directive_step 64 Q d.state (Exec n)) (directive_step 64 Q e.state (Exec n)) (pair (Exec n)) i)
      (guess_at (m.counters i) (position_of (m.outline.front i))) 64

  touched_both : (address : ℕ) (d e : DriveState) → Same d e → Same (touched address d) (touched address e)
  touched_both address d e m =
      let line = line_of address in
      let number = line % 64 in
      record {
        place = m.place;
        outline = m.outline;
        future = m.future;
        counters = m.counters;
        sets = λ i. set (m.sets i) number (accessed 8 line (get_or (m.sets i) number []));
        trace = m.trace;
        rollbacks = m.rollbacks;
        hits = λ i. if has line (get_or (m.sets i) number []) then m.hits i + 1 else m.hits i;
        misses = λ i. if has line (get_or (m.sets i) number []) then m.misses i else m.misses i + 1;
      }

  noted_both : (o : Observation) (d e : DriveState) → Same d e → Same (after_observation o d) (after_observation o e)
  noted_both (seen.Read address mask) d e m = touched_both address d e m
  noted_both (seen.Write address mask) d e m = touched_both address d e m
  noted_both (seen.Rollback n) d e m = record {
    place = m.place;
    outline = m.outline;
    future = m.future;
    counters = m.counters;
    sets = m.sets;
    trace = m.trace;
    rollbacks = λ i. m.rollbacks i + 1;
    hits = m.hits;
    misses = m.misses;
  }
  noted_both seen.Nothing d e m = m
  noted_both (seen.Divide a b mask) d e m = m
  noted_both seen.Fail d e m = m

  stepped_both : (d e : DriveState) (directive : Directive) (m : Same d e) (x y : Option (State × Observation)) → Paired m.place x y
      → Same (stepped d directive x) (stepped e directive y)
  stepped_both d e directive m x y neither = m
  stepped_both d e directive m x y (both s t o r h) = noted_both o _ _ (record {
    place = suc m.place;
    outline = r;
    future = h;
    counters = taught_both d.counters e.counters d.state e.state directive o m.counters m.outline;
    sets = m.sets;
    trace = λ i. m.trace i ++ directive ∷ [];
    rollbacks = m.rollbacks;
    hits = m.hits;
    misses = m.misses;
  })

  drive_step_by_both : (d e : DriveState) (o : Option Directive) → Same d e → Same (drive_step_by Q d o) (drive_step_by Q e o)
  drive_step_by_both d e None m = m
  drive_step_by_both d e (Some directive) m =
      stepped_both d e directive m (directive_step 64 Q d.state directive) (directive_step 64 Q e.state directive)
      (paired m.place d.state e.state directive m.outline m.future)

  drive_step_both : (d e : DriveState) → Same d e → Same (drive_step Q d) (drive_step Q e)
  drive_step_both d e m = subst (λ o. Same (drive_step Q d) (drive_step_by Q e o)) (same_chosen d e m) (drive_step_by_both d e (chosen Q d.counters d.state) m)

  unless_both : (end : Option End) (next last d e : DriveState) → Same next last → Same d e → Same (unless_ended end next d) (unless_ended end last e)
  unless_both None next last d e n m = n
  unless_both (Some end) next last d e n m = m

  driven_both : (most : ℕ) (d e : DriveState) → Same d e → Same (driven Q most d) (driven Q most e)
  driven_both zero d e m = m
  driven_both (suc most) d e m =
      subst (λ end. Same (driven Q (suc most) d) (unless_ended end (driven Q most (drive_step Q e)) e)) (same_end d.state e.state d.state.buffer e.state.buffer m.outline.front m.outline.entries)
      (unless_both (end_in d.state) (driven Q most (drive_step Q d)) (driven Q most (drive_step Q e)) d e (driven_both most (drive_step Q d) (drive_step Q e) (drive_step_both d e m)) m)

  -- a drive that begins with the machine in a state
  abbrev pub begun_in : State → DriveState
  begun_in s = record { state = s; counters = replicate 1024 1; sets = replicate 64 []; trace = []; rollbacks = 0; hits = 0; misses = 0 }

  pub drives_from : (s t : State) → Outline s t → ((directives : List Directive) → observed_from 64 Q 1 directives s ≡ observed_from 64 Q 1 directives t) → (most : ℕ)
      → AreSame (driven Q most (begun_in s)) (driven Q most (begun_in t))
  drives_from s t outline future most =
      let m = driven_both most (begun_in s) (begun_in t) (record {
        place = 1;
        outline = outline;
        future = future;
        counters = refl;
        sets = refl;
        trace = refl;
        rollbacks = refl;
        hits = refl;
        misses = refl;
      }) in
      record { trace = m.trace; rollbacks = m.rollbacks; hits = m.hits; misses = m.misses }

  pub two_drives : HasEqualObservations Q → (function : ℕ) (a b : Start) → Agree Q function a b → (most : ℕ)
      → AreSame (driven Q most (begun Q function a)) (driven Q most (begun Q function b))
  two_drives equal function a b agree =
      drives_from (opening Q function a) (opening Q function b) (record { entries = none; front = refl })
      (λ directives. (equal 64 (omega arith) (omega arith) function directives a b agree).observed)

-- ---- drives of programs of which each step is the same

module _ (one other : Program) (same : (s : State) (d : Directive) → directive_step 64 one s d ≡ directive_step 64 other s d) where
  chosen_same : (counters : List ℕ) (s : State) → chosen one counters s ≡ chosen other counters s
  chosen_same counters s = λ i. first_of (λ x. is_some (same s x i)) (λ n. shows_read (same s (Exec n) i)) (guess_at counters (position_of s.front)) 64

  drive_step_by_same : (d : DriveState) (o : Option Directive) → drive_step_by one d o ≡ drive_step_by other d o
  drive_step_by_same d None = refl
  drive_step_by_same d (Some directive) = ap (stepped d directive) (same d.state directive)

  drive_step_same : (d : DriveState) → drive_step one d ≡ drive_step other d
  drive_step_same d = drive_step_by_same d (chosen one d.counters d.state) ∙ ap (drive_step_by other d) (chosen_same d.counters d.state)

  pub driven_same : (most : ℕ) (d : DriveState) → driven one most d ≡ driven other most d
  driven_same zero d = refl
  driven_same (suc most) d = ap (λ next. unless_ended (end_in d.state) next d) (driven_same most (drive_step one d) ∙ ap (driven other most) (drive_step_same d))

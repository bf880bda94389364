-- What a drive chooses is taken by the machine.
use Rattle.std.proofs.Common.{◌≡◌, ℕ, zero, suc, ◌+◌, ◌<◌, ◌≤◌, Bool, true, false, List, [], ◌∷◌, ◌++◌, length, Option, Some, None, refl, ap, ◌∙◌, subst, arith}
use Rattle.std.specs.Prelude.{if◌then◌else◌, cond, IfSome}
use Rattle.std.specs.List.{All, find, range_with_len}
use Rattle.std.proofs.lemmas.List.{length-append}
use Rattle.std.proofs.lemmas.List.Elements.{All-push}
use Rattle.bl_program.specs.declared.definitions.ProgramParts.{ProgramParts as Program}
use Rattle.bl_rob.specs.CallResults.{is_enabled}
use Rattle.bl_rob.specs.Machines.{State, directive_step, end_in, opening}
use Rattle.bl_rob.specs.Observations.{Rules, after_by, go_on, observed_by, see}
use Rattle.bl_rob.specs.declared.directive.Directive.{Directive}
use Rattle.bl_rob.specs.declared.directive.Directive.TheVariants.{Fetch, Predict, Exec, Retire}
use Rattle.bl_rob.specs.declared.directive.End.{End}
use Rattle.bl_rob.specs.declared.directive.Observation.{Observation}
use Rattle.bl_rob.specs.declared.directive.Observation.TheVariants as seen
use Rattle.bl_predict.specs.Drives.{DriveState, begun, chosen, driven, first_of, guessed, least, after_observation, or_else, shows_read, stepped, drive_step, drive_step_by, unless_ended}
use Rattle.bl_predict.specs.DriveDirectives.{IsEachTaken, IsNear}

-- ---- directives that are all enabled, and one more

module _ (rules : Rules Observation) where
  abbrev AllBy : ℕ → List Directive → State → State → Option (State × Observation) → Type 0
  AllBy place directives s t step =
      ((see (observed_by rules (suc place) directives) place step).refused ≡ None) × (go_on (after_by rules directives) s step ≡ t)

  pub record AllLead (place : ℕ) (directives : List Directive) (s t : State) : Type 0 where
    pub enabled : (observed_by rules place directives s).refused ≡ None
    pub leads : after_by rules directives s ≡ t

  behind : (place : ℕ) (directives : List Directive) (s t u : State) (d : Directive) (step : Option (State × Observation)) → AllBy place directives s t step
      → ((r : State) → AllLead (suc place) directives r t
      → ((observed_by rules (suc place) (directives ++ d ∷ []) r).refused ≡ None) × (after_by rules (directives ++ d ∷ []) r ≡ u))
      → AllBy place (directives ++ d ∷ []) s u step
  behind place directives s t u d None w more = let wrong : Some place ≡ None = w.0 in cc
  behind place directives s t u d (Some step) w more = more step.0 (record { enabled = w.0; leads = w.1 })

  pub one_more : (place : ℕ) (directives : List Directive) (s t u : State) (d : Directive) (o : Observation) → AllLead place directives s t
      → rules t d ≡ Some (u, o) → AllLead place (directives ++ d ∷ []) s u
  one_more place [] s t u d o h e =
      let here : rules s d ≡ Some (u, o) = ap (λ r. rules r d) h.leads ∙ e in
      record {
        enabled = ap (λ r. (see (observed_by rules (suc place) []) place r).refused) here;
        leads = ap (go_on (after_by rules []) s) here;
      }
  one_more place (first ∷ directives) s t u d o h e =
      let all = behind place directives s t u d (rules s first) (h.enabled, h.leads)
      (λ r rest. let all = one_more (suc place) directives r t u d o rest e in (all.enabled, all.leads)) in
      record { enabled = all.0; leads = all.1 }

-- ---- what is chosen is near

abbrev Below : ℕ → Option ℕ → Type 0
Below bound None = Unit {0}
Below bound (Some n) = n < bound

below_if : (b : Bool) (n bound : ℕ) (o : Option ℕ) → n < bound → Below bound o → Below bound (cond b (Some n) o)
below_if true n bound o lt h = lt
below_if false n bound o lt h = h

found_below : (test : ℕ → Bool) (from count bound : ℕ) → from + count ≤ bound → Below bound (find test (range_with_len from count))
found_below test from zero bound le = tt
found_below test from (suc count) bound le =
    below_if (test from) from bound (find test (range_with_len (from + 1) count)) (omega (arith, le)) (found_below test (from + 1) count bound (omega (arith, le)))

least_below : (test : ℕ → Bool) (count : ℕ) → Below count (least test count)
unfolding least
least_below test count = found_below test 0 count count (omega arith)

near_if : (b : Bool) (d : Directive) (o : Option Directive) → IsNear d → IfSome o IsNear → IfSome (if b then Some d else o) IsNear
near_if true d o near h = near
near_if false d o near h = h

near_or : (n : Option ℕ) (o : Option Directive) → Below 64 n → IfSome o IsNear → IfSome (or_else n o) IsNear
near_or None o lt h = h
near_or (Some n) o lt h = lt

first_near : (enabled : Directive → Bool) (reads : ℕ → Bool) (guess : Bool) → IfSome (first_of enabled reads guess 64) IsNear
first_near enabled reads guess =
    near_if (enabled Fetch) Fetch _ tt
    (near_if (enabled (Predict guess)) (Predict guess) _ tt
    (near_or (least reads 64) _ (least_below reads 64)
    (near_or (least (λ n. enabled (Exec n)) 64) _ (least_below (λ n. enabled (Exec n)) 64) (near_if (enabled Retire) Retire None tt tt))))

-- ---- steps

pub record Takes (Q : Program) (from : State) (steps : ℕ) (d : DriveState) : Type 0 where
  pub all : AllLead (directive_step 64 Q) 1 d.trace from d.state
  pub few : length d.trace ≤ steps
  pub near : All IsNear d.trace

module _ (Q : Program) (from : State) where
  later : (steps : ℕ) (d : DriveState) → Takes Q from steps d → Takes Q from (steps + 1) d
  later steps d h = record { all = h.all; few = omega (arith, h.few); near = h.near }

  noted_too : (steps : ℕ) (o : Observation) (d : DriveState) → Takes Q from steps d → Takes Q from steps (after_observation o d)
  noted_too steps (seen.Read address guards) d h = record { all = h.all; few = h.few; near = h.near }
  noted_too steps (seen.Write address guards) d h = record { all = h.all; few = h.few; near = h.near }
  noted_too steps (seen.Rollback n) d h = record { all = h.all; few = h.few; near = h.near }
  noted_too steps seen.Nothing d h = h
  noted_too steps (seen.Divide a b guards) d h = h
  noted_too steps seen.Fail d h = h

  stepped_too : (steps : ℕ) (d : DriveState) (directive : Directive) (step : Option (State × Observation)) → IsNear directive
      → directive_step 64 Q d.state directive ≡ step → Takes Q from steps d → Takes Q from (steps + 1) (stepped d directive step)
  stepped_too steps d directive None near e h = later steps d h
  stepped_too steps d directive (Some step) near e h =
      let longer : length (d.trace ++ directive ∷ []) ≡ length d.trace + 1 = length-append d.trace (directive ∷ []) in
      noted_too (steps + 1) step.1 _ (record {
        all = one_more (directive_step 64 Q) 1 d.trace from d.state step.0 directive step.1 h.all e;
        few = omega (arith, h.few, longer);
        near = All-push IsNear d.trace directive h.near near;
      })

  drive_step_by_too : (steps : ℕ) (d : DriveState) (o : Option Directive) → IfSome o IsNear → Takes Q from steps d → Takes Q from (steps + 1) (drive_step_by Q d o)
  drive_step_by_too steps d None near h = later steps d h
  drive_step_by_too steps d (Some directive) near h = stepped_too steps d directive (directive_step 64 Q d.state directive) near refl h

  drive_step_too : (steps : ℕ) (d : DriveState) → Takes Q from steps d → Takes Q from (steps + 1) (drive_step Q d)
  drive_step_too steps d =
      drive_step_by_too steps d (chosen Q d.counters d.state)
      (first_near (is_enabled 64 Q d.state) (λ n. shows_read (directive_step 64 Q d.state (Exec n))) (guessed d.counters d.state))

  more_steps : (steps more : ℕ) (d : DriveState) → Takes Q from steps d → Takes Q from (steps + more) d
  more_steps steps more d h = record { all = h.all; few = omega (arith, h.few); near = h.near }

  unless_too : (steps : ℕ) (end : Option End) (next d : DriveState) → Takes Q from steps next → Takes Q from steps d → Takes Q from steps (unless_ended end next d)
  unless_too steps None next d n h = n
  unless_too steps (Some end) next d n h = h

  driven_too : (most steps : ℕ) (d : DriveState) → Takes Q from steps d → Takes Q from (steps + most) (driven Q most d)
  driven_too zero steps d h = more_steps steps 0 d h
  driven_too (suc most) steps d h =
      let same : (steps + 1) + most ≡ steps + suc most = omega arith in
      unless_too (steps + suc most) (end_in d.state) (driven Q most (drive_step Q d)) d
      (subst (λ n. Takes Q from n (driven Q most (drive_step Q d))) same (driven_too most (steps + 1) (drive_step Q d) (drive_step_too steps d h)))
      (more_steps steps (suc most) d h)

pub each_taken : (Q : Program) → IsEachTaken Q
each_taken Q function start most =
    let h = driven_too Q (opening Q function start) most 0 (begun Q function start)
    (record { all = record { enabled = refl; leads = refl }; few = omega arith; near = λ k d lt. absurd (omega (arith, lt)) }) in
    record { enabled = h.all.enabled; leads = h.all.leads; few = omega (arith, h.few); near = h.near }

-- Steps of a drive, one after another.
use Rattle.std.proofs.Common.{◌≡◌, ℕ, zero, suc, ◌+◌, ◌-◌, ◌%◌, ◌<◌, ◌≤◌, Bool, true, false, [], Option, Some, None, refl, sym, ap, ◌∙◌, subst, arith}
use Rattle.std.specs.Prelude.{if◌then◌else◌, get_or, not, IfOk, IsSome, Result}
use Rattle.std.specs.Option.{is_some}
use Rattle.bl_base.specs.declared.memory.NoMemory.{NoMemory}
use Rattle.bl_base.specs.declared.start.Start.{Start}
use Rattle.bl_program.specs.declared.definitions.ProgramParts.{ProgramParts as Program}
use Rattle.bl_rob.specs.Machines.{State, directive_step, end_in}
use Rattle.bl_rob.specs.declared.directive.Directive.{Directive}
use Rattle.bl_rob.specs.declared.directive.End.{End}
use Rattle.bl_rob.specs.declared.directive.Observation.{Observation}
use Rattle.bl_rob.specs.declared.directive.Observation.TheVariants as seen
use Rattle.bl_predict.specs.Drives.{AreFew, DriveState, IsDriven, begun, chosen, driven, after_observation, stepped, touched, drive_step, drive_step_by, unless_ended}
use Rattle.bl_predict.specs.Lines.{has, line_of}
use Rattle.bl_predict.specs.declared.driver.Driven.{Driven}

-- ---- the counts are at most the steps

few_if : (b : Bool) (n steps : ℕ) → n ≤ steps → (if b then n + 1 else n) ≤ steps + 1
few_if true n steps h = omega (arith, h)
few_if false n steps h = omega (arith, h)

few_else : (b : Bool) (n steps : ℕ) → n ≤ steps → (if b then n else n + 1) ≤ steps + 1
few_else true n steps h = omega (arith, h)
few_else false n steps h = omega (arith, h)

few_later : (steps : ℕ) (d : DriveState) → AreFew steps d → AreFew (steps + 1) d
few_later steps d h = record { rollbacks = omega (arith, h.rollbacks); hits = omega (arith, h.hits); misses = omega (arith, h.misses) }

few_touched : (address steps : ℕ) (d : DriveState) → AreFew steps d → AreFew (steps + 1) (touched address d)
few_touched address steps d h =
    let hit = has (line_of address) (get_or d.sets (line_of address % 64) []) in
    record { rollbacks = omega (arith, h.rollbacks); hits = few_if hit d.hits steps h.hits; misses = few_else hit d.misses steps h.misses }

few_noted : (o : Observation) (steps : ℕ) (d : DriveState) → AreFew steps d → AreFew (steps + 1) (after_observation o d)
few_noted (seen.Read address guards) steps d h = few_touched address steps d h
few_noted (seen.Write address guards) steps d h = few_touched address steps d h
few_noted (seen.Rollback n) steps d h = record { rollbacks = omega (arith, h.rollbacks); hits = omega (arith, h.hits); misses = omega (arith, h.misses) }
few_noted seen.Nothing steps d h = few_later steps d h
few_noted (seen.Divide a b guards) steps d h = few_later steps d h
few_noted seen.Fail steps d h = few_later steps d h

few_stepped : (steps : ℕ) (d : DriveState) (directive : Directive) (o : Option (State × Observation)) → AreFew steps d → AreFew (steps + 1) (stepped d directive o)
few_stepped steps d directive None h = few_later steps d h
few_stepped steps d directive (Some step) h = few_noted step.1 steps _ (record { rollbacks = h.rollbacks; hits = h.hits; misses = h.misses })

few_by : (Q : Program) (steps : ℕ) (d : DriveState) (o : Option Directive) → AreFew steps d → AreFew (steps + 1) (drive_step_by Q d o)
few_by Q steps d None h = few_later steps d h
few_by Q steps d (Some directive) h = few_stepped steps d directive (directive_step 64 Q d.state directive) h

-- ---- so many steps

-- where a drive is behind some steps of it: what is left leads to the whole
pub record DrivesOn (Q : Program) (most : ℕ) (begun : DriveState) (steps : ℕ) (d : DriveState) : Type 0 where
  pub within : steps ≤ most
  pub few : AreFew steps d
  pub same : driven Q most begun ≡ driven Q (most - steps) d

pub drives_begin : (Q : Program) (most : ℕ) (begun d : DriveState) → d ≡ begun → AreFew 0 begun → DrivesOn Q most begun 0 d
drives_begin Q most begun d e few =
    let all : most ≡ most - 0 = omega arith in
    record {
      within = omega arith;
      few = subst (AreFew 0) (sym e) few;
      same = λ i. driven Q (all i) (sym e i);
    }

goes_on : (Q : Program) (m : ℕ) (d : DriveState) (end : Option End) → end ≡ None → unless_ended end (driven Q m (drive_step Q d)) d ≡ driven Q m (drive_step Q d)
goes_on Q m d None e = refl
goes_on Q m d (Some end) e = cc

pub drives_on : (Q : Program) (most : ℕ) (begun : DriveState) (steps : ℕ) (d next : DriveState) → DrivesOn Q most begun steps d → steps < most
    → end_in d.state ≡ None → next ≡ drive_step Q d → DrivesOn Q most begun (steps + 1) next
drives_on Q most begun steps d next h lt end is =
    let left : most - steps ≡ suc (most - (steps + 1)) = omega (arith, lt) in
    record {
      within = omega (arith, lt);
      few = subst (AreFew (steps + 1)) (sym is) (few_by Q steps d (chosen Q d.counters d.state) h.few);
      same = h.same ∙ ap (λ m. driven Q m d) left ∙ goes_on Q (most - (steps + 1)) d (end_in d.state) end ∙ ap (driven Q (most - (steps + 1))) (sym is);
    }

stops : (Q : Program) (m : ℕ) (d : DriveState) (end : Option End) → end_in d.state ≡ end → IsSome end → driven Q m d ≡ d
stops Q zero d end e s = refl
stops Q (suc m) d None e s = let wrong : false ≡ true = s in cc
stops Q (suc m) d (Some end) e s = ap (λ o. unless_ended o (driven Q m (drive_step Q d)) d) e

-- the last step was made, or the machine has ended
pub drives_end : (Q : Program) (most : ℕ) (begun : DriveState) (steps : ℕ) (d : DriveState) → DrivesOn Q most begun steps d → most ≤ steps → driven Q most begun ≡ d
drives_end Q most begun steps d h le =
    let none : most - steps ≡ zero = omega (arith, le) in
    h.same ∙ ap (λ m. driven Q m d) none

pub drives_ended : (Q : Program) (most : ℕ) (begun : DriveState) (steps : ℕ) (d : DriveState) → DrivesOn Q most begun steps d → IsSome (end_in d.state) → driven Q most begun ≡ d
drives_ended Q most begun steps d h some = h.same ∙ stops Q (most - steps) d (end_in d.state) refl some

pub none_yet : (Q : Program) (function : ℕ) (start : Start) → AreFew 0 (begun Q function start)
none_yet Q function start = record { rollbacks = omega arith; hits = omega arith; misses = omega arith }

-- ---- how the loop's test is read

pub not_ended : (o end : Option End) (b : Bool) → o ≡ end → is_some o ≡ not b → b ≡ true → end ≡ None
not_ended None end b e is h = sym e
not_ended (Some x) end b e is h = let wrong : true ≡ false = is ∙ ap not h in cc

pub has_ended : (o end : Option End) (b : Bool) → o ≡ end → is_some o ≡ not b → b ≡ false → IsSome end
has_ended o end b e is no_end = ap is_some (sym e) ∙ is ∙ ap not no_end

pub answered : (P Q : Program) (d e : DriveState) (r : Result Driven NoMemory) → P ≡ Q → e ≡ d → IfOk r (IsDriven P d) → IfOk r (IsDriven Q e)
answered P Q d e r same is h = subst (λ x. IfOk r (IsDriven x e)) same (subst (λ y. IfOk r (IsDriven P y)) (sym is) h)

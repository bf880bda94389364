-- Runs of the machine, from the steps that it follows.
use Rattle.bl_reduce.specs.Runnable.{runnable}
use Rattle.std.proofs.Common.{◌≡◌, ℕ, ◌+◌, ◌≤◌, true, false, List, [], length, Option, Some, None, refl, sym, ap, ◌∙◌, subst, arith}
use Rattle.std.specs.Prelude.{IfOk, Result, Ok, Err}
use Rattle.std.specs.List.{AllZip}
use Rattle.std.proofs.lemmas.List.{length-map}
use Rattle.bl_base.specs.Runs.{MemoryState, Outcome, returned, trapped, Next, goes, ends, StepsTo, EndsAfter, last, IsWithin, memory_of, outcome_of}
use Rattle.bl_base.specs.declared.run.Run.{Run}
use Rattle.bl_base.specs.declared.run.Run.TheVariants as run
use Rattle.bl_base.specs.declared.memory.NoMemory.{NoMemory}
use Rattle.bl_base.specs.declared.names.ValueType.{ValueType}
use Rattle.bl_base.specs.declared.start.Start.{Start}
use Rattle.bl_base.proofs.RunLemmas.{comes_then, comes_to_end, run_after, run_pos}
use Rattle.bl_wasm.specs.Linked.{IsLinked}
use Rattle.bl_wasm.specs.declared.linked.Tree.{Tree}
use Rattle.bl_reduce.specs.Configurations.{Config}
use Rattle.bl_reduce.specs.Outcomes.{opening, IsStart, source}
use Rattle.bl_reduce.specs.Steps.{source_step}
use Rattle.bl_reduce.specs.TypedConfigurations.{IsMemoryState, IsTyped, IsTypedEnd, IsTypedStep}
use Rattle.bl_base.proofs.Lists.{zip_length}
use Rattle.bl_reduce.proofs.Soundness.{typed_opening, preservation}
use Rattle.bl_machine.specs.Bodies.{prepared_of}
use Rattle.bl_machine.specs.InterpreterAnswers.{Drives, TellsMemories, has_ended, starting, machine_outcome}
use Rattle.bl_machine.specs.Machines.{Stepped}
use Rattle.bl_machine.specs.MatchStates.{match_states, MatchesNext}
use Rattle.bl_machine.specs.Transitions.{advanced}
use Rattle.bl_machine.specs.declared.machine.Machine.{Machine}
use Rattle.bl_machine.specs.declared.machine.Progress.{Progress}
use Rattle.bl_machine.specs.declared.machine.Progress.TheVariants.{Running, Entering, Returned, Trapped}
use Rattle.bl_memory.proofs.PatchLemmas.{patches_are}
use Rattle.bl_machine.proofs.Simulation.{step_simulates}

-- so many steps have come to a configuration that the machine stands for
pub record Reached (tree : Tree) (function : ℕ) (start : Start) (steps : ℕ) (progress : Progress) (m : Machine) : Type 0 where
  pub config : Config
  pub comes : StepsTo (source_step tree) steps (opening tree function start) config
  pub matches : match_states tree progress m config
  pub results : List ValueType
  pub typed : IsTyped tree results config

-- so many steps have come to such a configuration, or the last of them has ended the run
abbrev pub After : Tree → ℕ → Start → ℕ → Progress → Machine → Type 0
After tree function start steps Running m = Reached tree function start steps Running m
After tree function start steps (Entering number) m = Reached tree function start steps (Entering number) m
After tree function start steps Returned m =
    EndsAfter (source_step tree) steps (opening tree function start) (returned m.stack m.memories) × (length m.memories ≡ length tree.memories)
After tree function start steps (Trapped kind) m =
    EndsAfter (source_step tree) steps (opening tree function start) (trapped kind m.memories) × (length m.memories ≡ length tree.memories)

-- ---- the start

pub begins : (tree : Tree) (function : ℕ) (start : Start) (m : Machine) → IsLinked tree → IsStart tree function start → m ≡ starting tree start
    → Reached tree function start 0 (Entering function) m
begins tree function start m linked is e = subst (Reached tree function start 0 (Entering function)) (sym e) (record {
  config = opening tree function start;
  comes = refl;
  matches = (
    refl,
    record {
      memories = patches_are tree.memories start.patches linked.memories is.fits.patches;
      globals = refl;
      lower = record { values = []; locals = []; labels = [] };
      values = refl;
      locals = refl;
      labels = refl;
      callers_are = record { values = refl; locals = refl; labels = refl };
    },
  );
  results = is.type.results;
  typed = typed_opening tree (runnable tree linked) function start is;
})

-- ---- a step

module _ (tree : Tree) (function : ℕ) (start : Start) (steps : ℕ) (config : Config) (comes : StepsTo (source_step tree) steps (opening tree function start) config) (results : List ValueType) where
  onward : (next : Config) → source_step tree config ≡ goes next → StepsTo (source_step tree) (steps + 1) (opening tree function start) next
  onward next e = comes_then (source_step tree) steps 1 (opening tree function start) config next comes (next, e, refl)

  ended : (outcome wanted : Outcome) → source_step tree config ≡ ends outcome → outcome ≡ wanted → EndsAfter (source_step tree) (steps + 1) (opening tree function start) wanted
  ended outcome wanted e same = comes_to_end (source_step tree) steps 1 (opening tree function start) config wanted comes (last config wanted (e ∙ ap ends same))

  as_many : (states : List MemoryState) → AllZip IsMemoryState tree.memories states → length states ≡ length tree.memories
  as_many states h = sym (zip_length IsMemoryState tree.memories states h)

  led : (progress : Progress) (m : Machine) (next : Next Config) → source_step tree config ≡ next → IsTypedStep tree results next → MatchesNext tree progress m next
      → After tree function start (steps + 1) progress m
  led Running m (goes next) e typed leads = record { config = next; comes = onward next e; matches = leads; results = results; typed = typed }
  led (Entering number) m (goes next) e typed leads = record { config = next; comes = onward next e; matches = leads; results = results; typed = typed }
  led Returned m (ends outcome) e typed leads = (ended outcome (returned m.stack m.memories) e leads, as_many m.memories (subst (IsTypedEnd tree results) leads typed).1)
  led (Trapped kind) m (ends outcome) e typed leads = (ended outcome (trapped kind m.memories) e leads, as_many m.memories (subst (IsTypedEnd tree results) leads typed))
  led progress m next e typed leads = absurd leads

pub stepped : (tree : Tree) (function : ℕ) (start : Start) (steps : ℕ) (progress : Progress) (m : Machine) (later : Progress) (n : Machine)
    → IsLinked tree → Reached tree function start steps progress m
    → advanced tree (prepared_of tree) progress m ≡ record { progress = later; machine = n }
    → After tree function start (steps + 1) later n
stepped tree function start steps progress m later n linked r e =
    let follows = step_simulates tree linked r.results progress m r.config r.matches r.typed in
    let P : Stepped → Type 0 = λ s. After tree function start (steps + 1) s.progress s.machine in
    let s = advanced tree (prepared_of tree) progress m in
    subst P e (led tree function start steps r.config r.comes r.results s.progress s.machine (source_step tree r.config) refl (preservation tree (runnable tree linked) r.results r.config r.typed) follows)

pub goes_on : (tree : Tree) (function : ℕ) (start : Start) (steps : ℕ) (progress : Progress) (m : Machine) → has_ended progress ≡ false → After tree function start steps progress m
    → Reached tree function start steps progress m
goes_on tree function start steps Running m e after = after
goes_on tree function start steps (Entering number) m e after = after
goes_on tree function start steps Returned m e after = cc
goes_on tree function start steps (Trapped kind) m e after = cc

-- ---- the end

pub is_over : (tree : Tree) (function : ℕ) (start : Start) (steps most : ℕ) (progress : Progress) (m : Machine) → has_ended progress ≡ true → steps ≤ most
    → After tree function start steps progress m → Drives tree function start most progress m
is_over tree function start steps most Running m e le after = cc
is_over tree function start steps most (Entering number) m e le after = cc
is_over tree function start steps most Returned m e le after = (steps, after.0, le, after.1)
is_over tree function start steps most (Trapped kind) m e le after = (steps, after.0, le, after.1)

pub is_spent : (tree : Tree) (function : ℕ) (start : Start) (steps most : ℕ) (progress : Progress) (m : Machine) → steps ≡ most → Reached tree function start steps progress m
    → Drives tree function start most progress m
is_spent tree function start steps most Running m e r = (r.config, subst (λ n. StepsTo (source_step tree) n (opening tree function start) r.config) e r.comes)
is_spent tree function start steps most (Entering number) m e r = (r.config, subst (λ n. StepsTo (source_step tree) n (opening tree function start) r.config) e r.comes)
is_spent tree function start steps most Returned m e r = absurd r.matches
is_spent tree function start steps most (Trapped kind) m e r = absurd r.matches

-- ---- the answer

not_within : (tree : Tree) (function : ℕ) (start : Start) (steps : ℕ) (config : Config) → StepsTo (source_step tree) steps (opening tree function start) config
    → (n : ℕ) (outcome : Outcome) → source tree function start n outcome → n ≤ steps → ⊥
not_within tree function start steps config comes n outcome s le =
    let rest = run_after (source_step tree) steps n (opening tree function start) config outcome comes s.run in
    let some = run_pos (source_step tree) rest.0 config outcome rest.2 in
    omega (arith, le, rest.1, some)

pub answers : (tree : Tree) (function : ℕ) (start : Start) (steps : ℕ) (progress : Progress) (m : Machine) → IsStart tree function start
    → Drives tree function start steps progress m → IsWithin (source tree function start) steps (machine_outcome progress m)
answers tree function start steps Running m is d = not_within tree function start steps d.0 d.1
answers tree function start steps (Entering number) m is d = not_within tree function start steps d.0 d.1
answers tree function start steps Returned m is d = (d.0, record { start_fits = is; run = d.1 }, d.2)
answers tree function start steps (Trapped kind) m is d = (d.0, record { start_fits = is; run = d.1 }, d.2)

-- an outcome has so many memories
abbrev pub Counts : ℕ → Option Outcome → Type 0
Counts count None = Unit {0}
Counts count (Some (returned values memories)) = length memories ≡ count
Counts count (Some (trapped kind memories)) = length memories ≡ count

machine_outcome_counts : (tree : Tree) (function : ℕ) (start : Start) (steps : ℕ) (progress : Progress) (m : Machine) → Drives tree function start steps progress m
    → Counts (length tree.memories) (machine_outcome progress m)
machine_outcome_counts tree function start steps Running m d = tt
machine_outcome_counts tree function start steps (Entering number) m d = tt
machine_outcome_counts tree function start steps Returned m d = d.3
machine_outcome_counts tree function start steps (Trapped kind) m d = d.3

run_counts : (count : ℕ) (answer : Run) → Counts count (outcome_of answer) → TellsMemories count answer
run_counts count (run.Returned values memories) h = sym (length-map memories memory_of) ∙ h
run_counts count (run.Trapped kind memories) h = sym (length-map memories memory_of) ∙ h
run_counts count run.Spent h = tt

pub tells_memories : (tree : Tree) (function : ℕ) (start : Start) (steps : ℕ) (progress : Progress) (m : Machine) (answer : Run) → outcome_of answer ≡ machine_outcome progress m
    → Drives tree function start steps progress m → TellsMemories (length tree.memories) answer
tells_memories tree function start steps progress m answer e d =
    run_counts (length tree.memories) answer (subst (Counts (length tree.memories)) (sym e) (machine_outcome_counts tree function start steps progress m d))

-- what holds of the outcome that a run tells, where it tells one
pub machine_outcome_is : (P : Run → Type 0) (result : Result Run NoMemory) (o : Option Outcome) → ((answer : Run) → outcome_of answer ≡ o → P answer)
    → IfOk result (λ answer. outcome_of answer ≡ o) → IfOk result P
machine_outcome_is P (Ok answer) o h e = h answer e
machine_outcome_is P (Err error) o h e = tt

-- What the interpreter answers.
use Rattle.std.specs.Prelude.{◌≡◌, ℕ, ◌≤◌, Bool, true, false, [], length, map, Option, Some, None}
use Rattle.bl_base.specs.Runs.{Outcome, returned, trapped, StepsTo, EndsAfter}
use Rattle.bl_base.specs.declared.run.Run.{Run}
use Rattle.bl_base.specs.declared.run.Run.TheVariants as run
use Rattle.bl_base.specs.declared.start.Start.{Start}
use Rattle.bl_wasm.specs.declared.linked.Tree.{Tree}
use Rattle.bl_reduce.specs.Configurations.{Config}
use Rattle.bl_reduce.specs.Outcomes.{first_memory, opening}
use Rattle.bl_reduce.specs.Steps.{source_step}
use Rattle.bl_memory.specs.Spaces.{patched_all}
use Rattle.bl_machine.specs.declared.machine.Machine.{Machine}
use Rattle.bl_machine.specs.declared.machine.Progress.{Progress}
use Rattle.bl_machine.specs.declared.machine.Progress.TheVariants.{Running, Entering, Returned, Trapped}

-- an answer tells so many memories, where it tells an end
abbrev pub TellsMemories : ℕ → Run → Type 0
TellsMemories count (run.Returned values memories) = length memories ≡ count
TellsMemories count (run.Trapped kind memories) = length memories ≡ count
TellsMemories count run.Spent = Unit {0}

-- ---- the machine

-- before the first step
abbrev pub starting : Tree → Start → Machine
starting tree start = record {
  stack = [];
  locals = start.args;
  labels = [];
  current = record { function = 0; place = 0; arity = 0; locals = 0; labels = 0; values = 0 };
  callers = [];
  globals = map (λ global. global.initial) tree.globals;
  memories = patched_all (map first_memory tree.memories) start.patches;
}

abbrev pub has_ended : Progress → Bool
has_ended Running = false
has_ended (Entering number) = false
has_ended Returned = true
has_ended (Trapped kind) = true

-- the outcome of a machine that has come so far
abbrev pub machine_outcome : Progress → Machine → Option Outcome
machine_outcome Running m = None
machine_outcome (Entering number) m = None
machine_outcome Returned m = Some (returned m.stack m.memories)
machine_outcome (Trapped kind) m = Some (trapped kind m.memories)

-- so many steps from the opening have come so far: to another configuration, or to an end at some step before, with as many
-- memories as the tree has
abbrev pub Drives : Tree → ℕ → Start → ℕ → Progress → Machine → Type 0
Drives tree function start steps Running m = (c : Config) × StepsTo (source_step tree) steps (opening tree function start) c
Drives tree function start steps (Entering number) m = (c : Config) × StepsTo (source_step tree) steps (opening tree function start) c
Drives tree function start steps Returned m =
    (n : ℕ) × EndsAfter (source_step tree) n (opening tree function start) (returned m.stack m.memories) × (n ≤ steps)
    × (length m.memories ≡ length tree.memories)
Drives tree function start steps (Trapped kind) m =
    (n : ℕ) × EndsAfter (source_step tree) n (opening tree function start) (trapped kind m.memories) × (n ≤ steps)
    × (length m.memories ≡ length tree.memories)

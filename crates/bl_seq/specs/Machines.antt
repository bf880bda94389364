-- The machine as a state of the plain run.
use Rattle.std.specs.Prelude.{◌≤◌, ℕ, List, Option, Some, None}
use Rattle.bl_base.specs.Runs.{Outcome, returned, trapped, Next, goes, ends, stuck, StepsTo, EndsAfter}
use Rattle.bl_program.specs.Layout.{results_of, result, running}
use Rattle.bl_program.specs.Steps.{Registers, Plain, values_from, states, plain_step}
use Rattle.bl_program.specs.declared.definitions.ProgramParts.{ProgramParts as Program}
use Rattle.bl_seq.specs.RegisterTrees.{register_at}
use Rattle.bl_seq.specs.declared.state.Machine.{Machine}
use Rattle.bl_seq.specs.declared.state.Progress.{Progress}
use Rattle.bl_seq.specs.declared.state.Progress.TheVariants.{Running, Returned, Trapped, Stuck}

-- the state that a machine stands for
abbrev pub shown : Machine → Plain
shown m = record {
  position = m.position;
  chain = m.chain;
  registers = λ depth x. register_at m.registers depth x;
  space = m.space;
}

-- the results of the function that holds a position, where no call is open but the run's own
abbrev pub results_at : Program → Registers → ℕ → List ℕ
results_at program registers position =
    values_from registers 0 (result program (running program position) 0) (results_of program (running program position))

abbrev pub results_in : Program → Plain → List ℕ
results_in program s = results_at program s.registers s.position

-- what a step has come to, where the machine stands for that state behind it
abbrev pub next_of : Program → Progress → Plain → Next Plain
next_of program Running s = goes s
next_of program Returned s = ends (returned (results_in program s) (states program s))
next_of program (Trapped kind) s = ends (trapped kind (states program s))
next_of program Stuck s = stuck

-- what so many steps from a state have come to: to a state, or to an end at one of them; or they have ended nowhere
abbrev pub RunsTo : Program → Plain → ℕ → Next Plain → Type 0
RunsTo program from steps (goes s) = StepsTo (plain_step program) steps from s
RunsTo program from steps (ends outcome) = (n : ℕ) × EndsAfter (plain_step program) n from outcome × (n ≤ steps)
RunsTo program from steps stuck = (n : ℕ) (outcome : Outcome) → EndsAfter (plain_step program) n from outcome → n ≤ steps → ⊥

-- the outcome of what was come to
abbrev pub told : Next Plain → Option Outcome
told (goes s) = None
told (ends outcome) = Some outcome
told stuck = None

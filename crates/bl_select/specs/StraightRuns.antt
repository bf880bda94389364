-- Runs of instructions one after another, without jumps, calls and returns, and their place in a program.
use Rattle.std.specs.Prelude.{◌≡◌, ℕ, suc, Bool, List, [], ◌∷◌, ◌++◌, Option, Some, None, slice_get}
use Rattle.bl_x64.specs.Machines.{Areas, Core, Effect, goes_on, jumps, calls, returns, faults, effect}
use Rattle.bl_x64.specs.Observations.{Observation, shown}
use Rattle.bl_x64.specs.declared.instruction.Instruction.{Instruction}

-- continues after an effect that goes on to the next instruction; None after a jump, a call and a return, and if there is no step
abbrev pub next : Effect → (Core → Option Core) → Option Core
next (goes_on c) f = f c
next (jumps to c) f = None
next (calls to c) f = None
next (returns address c) f = None
next faults f = None

-- the state after all the instructions; None if one of them jumps, calls, returns or has no step
abbrev pub runs : Areas → List Instruction → Core → Option Core
runs areas [] c = Some c
runs areas (instruction ∷ rest) c = next (effect areas instruction c) (runs areas rest)

-- what is shown after an effect
abbrev pub next_shown : Effect → (Core → List Observation) → List Observation
next_shown (goes_on c) f = f c
next_shown (jumps to c) f = []
next_shown (calls to c) f = []
next_shown (returns address c) f = []
next_shown faults f = []

-- what an observer learns of the instructions, in order, up to a jump, a call, a return or an instruction that has no step
abbrev pub shows : Areas → List Instruction → Core → List Observation
shows areas [] c = []
shows areas (instruction ∷ rest) c = shown instruction c ++ next_shown (effect areas instruction c) (shows areas rest)

-- a program has these instructions from a number on
abbrev pub Stands : List Instruction → ℕ → List Instruction → Type 0
Stands code position [] = Unit {0}
Stands code position (instruction ∷ rest) = (slice_get code position ≡ Some instruction) × Stands code (suc position) rest

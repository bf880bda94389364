-- Programs as lists of instructions, and the machine that runs them. A position is the number of an instruction in the list, and so is the
-- target of a jump or a call. bl_asm relates this machine to the machine over bytes, in which a target is a distance. The position after the end stands
-- for the place in the host to which the host's call returns: a run that comes there is over, and has no more steps.
use Rattle.std.specs.Prelude.{ℕ, zero, suc, ◌+◌, ◌<◌, ◌^◌, ◌==◌, if◌then◌else◌, List, length, Option, Some, None, slice_get, ◌≢◌}
use Rattle.bl_base.specs.Runs.{Next, goes, stuck}
use Rattle.bl_x64.specs.Machines.{Areas, Core, Effect, goes_on, jumps, calls, returns, faults, effect, pushed}
use Rattle.bl_x64.specs.declared.register.Register.{Register}
use Rattle.bl_x64.specs.declared.register.Register.TheVariants.{Rsp}
use Rattle.bl_x64.specs.declared.instruction.Address.{Address}
use Rattle.bl_x64.specs.declared.instruction.Place.{Place}
use Rattle.bl_x64.specs.declared.instruction.Place.TheVariants as place
use Rattle.bl_x64.specs.declared.instruction.Instruction.{Instruction}
use Rattle.bl_x64.specs.declared.instruction.Instruction.TheVariants.{Mov, Store, Constant, Extend, Alu, Test, Imul, Rotate, Count, SetIf, MoveIf, FillSign, Divide, Lfence, Jump, JumpIf, Call, Ret}

-- a state of the machine, with the number of its next instruction
pub record Machine : Type 0 where
  pub position : ℕ
  pub core : Core

-- the position of an address among the first `count` positions, the greatest one if there are several; None if there is none
abbrev pub position_of : (ℕ → ℕ) → ℕ → ℕ → Option ℕ
position_of starts zero address = None
position_of starts (suc count) address = if starts count == address then Some count else position_of starts count address

-- the state after a call has pushed its return address
abbrev pub entered : ℕ → Option Core → Next Machine
entered to None = stuck
entered to (Some c) = goes (record { position = to; core = c })

-- the state after a return
abbrev pub came_back : Option ℕ → Core → Next Machine
came_back None c = stuck
came_back (Some position) c = goes (record { position = position; core = c })

-- the state after an effect, given the number of positions to which a return may go, and the number of the following instruction
abbrev pub after : Areas → ℕ → ℕ → Effect → Next Machine
after areas count next (goes_on c) = goes (record { position = next; core = c })
after areas count next (jumps to c) = goes (record { position = to; core = c })
after areas count next (calls to c) = entered to (pushed areas (areas.starts next) c)
after areas count next (returns address c) = came_back (position_of areas.starts count address) c
after areas count next faults = stuck

-- one step; a position at or beyond the program's end has none
abbrev pub perform : Areas → ℕ → Option Instruction → Machine → Next Machine
perform areas count None m = stuck
perform areas count (Some instruction) m = after areas count (suc m.position) (effect areas instruction m.core)

-- the position of the host
abbrev pub host : List Instruction → ℕ
host code = length code + 1

-- the step of a program
abbrev pub machine_step : Areas → List Instruction → Machine → Next Machine
machine_step areas code m = perform areas (length code + 2) (slice_get code m.position) m

-- ---- which values of the type `Instruction` are instructions: RSP cannot be an index (volume 2, table 2-3), and numbers have the bounds that
-- the types of the code give them

-- an address that has an encoding
abbrev pub IsAddress : Address → Type 0
IsAddress a = (a.index ≢ Some Rsp) × (a.displacement < 2 ^ 32)

-- a register, or an address that has an encoding
abbrev pub IsPlace : Place → Type 0
IsPlace (place.Register r) = Unit {0}
IsPlace (place.Memory a) = IsAddress a

-- an instruction that has an encoding
abbrev pub IsInstruction : Instruction → Type 0
IsInstruction (Mov size to from) = IsPlace from
IsInstruction (Store width to from) = IsAddress to
IsInstruction (Extend how size to from) = IsPlace from
IsInstruction (Alu op size to from) = IsPlace from
IsInstruction (Imul size to from) = IsPlace from
IsInstruction (Count op size to from) = IsPlace from
IsInstruction (MoveIf condition size to from) = IsPlace from
IsInstruction (Constant to value) = value < 2 ^ 64
IsInstruction (Jump to) = to < 2 ^ 32
IsInstruction (JumpIf condition to) = to < 2 ^ 32
IsInstruction (Call to) = to < 2 ^ 32
IsInstruction Ret = Unit {0}
IsInstruction (Test size one other) = Unit {0}
IsInstruction (Rotate op size to) = Unit {0}
IsInstruction (SetIf condition to) = Unit {0}
IsInstruction (FillSign size) = Unit {0}
IsInstruction (Divide sign size divisor) = Unit {0}
IsInstruction Lfence = Unit {0}

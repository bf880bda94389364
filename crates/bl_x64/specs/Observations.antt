-- What an observer learns of an instruction: the address and the size of each access to memory, the direction of a conditional jump, and the
-- operands of a division, since the time of a division may depend on them. A call shows the write of its return address, and a return shows the read of
-- it and the address itself. Every other instruction shows nothing. The observer's knowledge of which instruction runs is not part of this list: it
-- follows from the directions of the jumps and the addresses of the returns.
use Rattle.std.specs.Prelude.{ℕ, Bool, true, false, List, [], ◌∷◌, Option, Some, None}
use Rattle.bl_base.specs.Bytes.{number_of}
use Rattle.bl_x64.specs.Registers.{bits_of, bytes_in, width_of, low}
use Rattle.bl_x64.specs.Operations.{extended_bytes, holds}
use Rattle.bl_x64.specs.Machines.{Core, address_in, bytes_at, pushed_at}
use Rattle.bl_x64.specs.declared.register.Register.TheVariants.{Rax, Rdx, Rsp}
use Rattle.bl_x64.specs.declared.instruction.Place.{Place}
use Rattle.bl_x64.specs.declared.instruction.Place.TheVariants as place
use Rattle.bl_x64.specs.declared.instruction.Instruction.{Instruction}
use Rattle.bl_x64.specs.declared.instruction.Instruction.TheVariants.{Mov, Store, Constant, Extend, Alu, Test, Imul, Rotate, Count, SetIf, MoveIf, FillSign, Divide, Lfence, Jump, JumpIf, Call, Ret}

-- one thing that the observer learns. The direction of a jump is None if a flag that its condition reads is undefined
pub data Observation : Type 0 where
  reads : (address count : ℕ) → Observation
  writes : (address count : ℕ) → Observation
  branches : (taken : Option Bool) → Observation
  divides : (high lowest divisor : ℕ) → Observation
  returns_to : (address : ℕ) → Observation

-- what reading a number of bytes from a place shows
abbrev pub shown_by : ℕ → Place → Core → List Observation
shown_by count (place.Register r) c = []
shown_by count (place.Memory a) c = reads (address_in c.registers a) count ∷ []

-- what an instruction shows in a state
abbrev pub shown : Instruction → Core → List Observation
shown (Mov size to from) c = shown_by (bytes_in size) from c
shown (Store width to from) c = writes (address_in c.registers to) (width_of width) ∷ []
shown (Extend how size to from) c = shown_by (extended_bytes how) from c
shown (Alu op size to from) c = shown_by (bytes_in size) from c
shown (Imul size to from) c = shown_by (bytes_in size) from c
shown (Count op size to from) c = shown_by (bytes_in size) from c
shown (MoveIf condition size to from) c = shown_by (bytes_in size) from c
shown (Divide sign size divisor) c =
    divides (low (bits_of size) c.registers Rdx) (low (bits_of size) c.registers Rax) (low (bits_of size) c.registers divisor) ∷ []
shown (JumpIf condition to) c = branches (holds condition c.flags) ∷ []
shown (Call to) c = writes (pushed_at c) 8 ∷ []
shown Ret c = reads (c.registers Rsp) 8 ∷ returns_to (number_of (bytes_at c.memory (c.registers Rsp) 8)) ∷ []
shown (Constant to value) c = []
shown (Test size one other) c = []
shown (Rotate op size to) c = []
shown (SetIf condition to) c = []
shown (FillSign size) c = []
shown Lfence c = []
shown (Jump to) c = []

-- The bytes of a program: those of its instructions in order, with the number of each target of a jump or a call replaced by a distance. In volume
-- 2 of the manual see "JMP", "Jcc" and "CALL" with rel32.
use Rattle.std.specs.Prelude.{ℕ, zero, suc, ◌+◌, ◌-◌, ◌%◌, ◌^◌, ◌≤◌, ◌<◌, ◌≡◌, List, [], ◌∷◌, ◌++◌, length, Some, slice_get, slice_index}
use Rattle.bl_x64.specs.declared.instruction.Instruction.{Instruction}
use Rattle.bl_x64.specs.declared.instruction.Instruction.TheVariants.{Jump, JumpIf, Call}
use Rattle.bl_x64.specs.Programs.{IsInstruction}
use Rattle.bl_asm.specs.Encoding.{encoded}

-- the place of an instruction: the number of bytes of all instructions before it
abbrev pub place_of : List Instruction → ℕ → ℕ
place_of code zero = 0
place_of [] (suc position) = 0
place_of (instruction ∷ code) (suc position) = length (encoded instruction) + place_of code position

-- the distance from the end of a jump or a call to its target, in 32 bits, two's complement
abbrev pub distance : ℕ → ℕ → ℕ
distance from to = (to + 2 ^ 32 - from) % 2 ^ 32

-- an instruction whose bytes end at a place, with the distance to its target
abbrev pub aimed : List Instruction → ℕ → Instruction → Instruction
aimed code end (Jump to) = Jump (distance end (place_of code to))
aimed code end (JumpIf condition to) = JumpIf condition (distance end (place_of code to))
aimed code end (Call to) = Call (distance end (place_of code to))
aimed code end instruction = instruction

-- the bytes of the last instructions of a program, the first of which begins at a place
abbrev pub bytes_from : List Instruction → ℕ → List Instruction → List ℕ
bytes_from code begin [] = []
bytes_from code begin (instruction ∷ rest) =
    encoded (aimed code (begin + length (encoded instruction)) instruction) ++ bytes_from code (begin + length (encoded instruction)) rest

-- the bytes of the whole program
abbrev pub assembled : List Instruction → List ℕ
assembled code = bytes_from code 0 code

-- ---- programs that can be assembled

-- an instruction that, if it is a jump or a call, goes to an instruction of the program or to its end
abbrev pub IsAimed : List Instruction → Instruction → Type 0
IsAimed code (Jump to) = to ≤ length code
IsAimed code (JumpIf condition to) = to ≤ length code
IsAimed code (Call to) = to ≤ length code
IsAimed code instruction = Unit {0}

-- each instruction has an encoding, and each jump and each call a target
pub record AreInstructions (code : List Instruction) : Type 0 where
  pub each : (position : ℕ) (instruction : Instruction) → slice_get code position ≡ Some instruction → IsInstruction instruction
  pub aims : (position : ℕ) (instruction : Instruction) → slice_get code position ≡ Some instruction → IsAimed code instruction

-- a program that can be assembled: it also has less than 2 ^ 31 bytes, so every distance fits 32 bits
pub record IsCode (code : List Instruction) : Type 0 where
  pub instructions : AreInstructions code
  pub open instructions use *
  pub short : place_of code (length code) < 2 ^ 31

-- a list of the places of all instructions, and of the program's end
pub record ArePlaces (code : List Instruction) (places : List ℕ) : Type 0 where
  pub count : length places ≡ length code + 1
  pub each : (k : ℕ) → k ≤ length code → slice_index places k ≡ place_of code k

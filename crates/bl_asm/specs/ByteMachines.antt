-- The machine that decodes and runs the bytes of a program. Its place is the number of the next byte, and the first byte has number 0: the
-- processor's RIP is the place plus the address of the code, modulo 2 ^ 64. Each step decodes the instruction again, as a processor does. A jump or a
-- call adds its distance, extended by its sign, to the place after it, modulo 2 ^ 64 (volume 2 of the manual, "JMP", "Jcc" and "CALL"). A call pushes the
-- address of the place after it, and a return goes to the place of the address that it pops ("RET"), which may be outside of the code. The code is not in
-- memory, so no store changes it.
use Rattle.std.specs.Prelude.{◌≡◌, ℕ, ◌+◌, ◌-◌, ◌%◌, ◌^◌, ◌<◌, ◌≤◌, List, length, drop, Option, Some, None}
use Rattle.bl_base.specs.Runs.{Next, goes, ends, stuck}
use Rattle.bl_x64.specs.Machines.{Areas, Core, Effect, goes_on, jumps, calls, returns, faults, effect, pushed, widened}
use Rattle.bl_x64.specs.Programs.{Machine, host}
use Rattle.bl_x64.specs.declared.instruction.Instruction.{Instruction}
use Rattle.bl_asm.specs.Assembly.{place_of}
use Rattle.bl_asm.specs.Decoding.{Decoded, decode}

-- a state of the machine over bytes
pub record ByteMachine : Type 0 where
  pub place : ℕ
  pub core : Core

-- the address of the first byte
abbrev pub origin : Areas → ℕ
origin areas = areas.starts 0

-- the place of an address
abbrev pub place_at : Areas → ℕ → ℕ
place_at areas address = (address + 2 ^ 64 - origin areas) % 2 ^ 64

-- the state after a call has pushed its return address
abbrev pub entered : ℕ → Option Core → Next ByteMachine
entered place None = stuck
entered place (Some c) = goes (record { place = place; core = c })

-- the state after an effect of an instruction that ends at a place
abbrev pub after : Areas → ℕ → Effect → Next ByteMachine
after areas end (goes_on c) = goes (record { place = end; core = c })
after areas end (jumps far c) = goes (record { place = (end + widened far) % 2 ^ 64; core = c })
after areas end (calls far c) = entered ((end + widened far) % 2 ^ 64) (pushed areas ((origin areas + end) % 2 ^ 64) c)
after areas end (returns address c) = goes (record { place = place_at areas address; core = c })
after areas end faults = stuck

-- the step of a decoded instruction: it ends where the bytes after it begin. If nothing was decoded there is no step
abbrev pub perform : Areas → List ℕ → Decoded → Core → Next ByteMachine
perform areas bytes None c = stuck
perform areas bytes (Some decoded) c = after areas (length bytes - length decoded.1) (effect areas decoded.0 c)

-- the step of a program of bytes
abbrev pub byte_step : Areas → List ℕ → ByteMachine → Next ByteMachine
byte_step areas bytes m = perform areas bytes (decode (drop m.place bytes)) m.core

-- ---- the machine over bytes next to the machine over instructions

-- the table of addresses is that of the code: each instruction begins where the instruction before it ends, and the code ends below 2 ^ 64
pub record HasPlaces (areas : Areas) (code : List Instruction) : Type 0 where
  pub each : (k : ℕ) → k ≤ length code → areas.starts k ≡ origin areas + place_of code k
  pub below : origin areas + place_of code (length code) < 2 ^ 64

-- the host's address is none of the code's
pub record HasHost (areas : Areas) (code : List Instruction) : Type 0 where
  pub apart : (k : ℕ) → k ≤ length code → areas.starts k ≡ areas.starts (host code) → ⊥

-- the state over bytes that corresponds to a state over instructions. The place of an instruction is the number of bytes before it
abbrev pub placed : Areas → Machine → ByteMachine
placed areas m = record { place = place_at areas (areas.starts m.position); core = m.core }

-- the same for the result of a step
abbrev pub placed_next : Areas → Next Machine → Next ByteMachine
placed_next areas (goes m) = goes (placed areas m)
placed_next areas (ends outcome) = ends outcome
placed_next areas stuck = stuck

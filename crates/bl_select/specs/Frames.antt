-- The locations of a function's variables, and the relation between a state of the machine and a state of the plain run. RSP holds the beginning
-- of the running frame, R15 that of the context, and R14 that of the bytes of all memories. RAX, RCX and RDX are scratch. The other ten
-- registers, the frame and the context hold variables.
use Rattle.std.specs.Prelude.{◌≡◌, ◌≢◌, ℕ, ◌+◌, ◌*◌, ◌^◌, ◌<◌, ◌≤◌, ◌⊎◌, Bool, true, false, IsTrue, List, length, slice_index}
use Rattle.bl_base.specs.Bytes.{number_of}
use Rattle.bl_program.specs.Steps.{Plain, depth, held}
use Rattle.bl_program.specs.declared.command.Operand.{Operand}
use Rattle.bl_program.specs.declared.command.Operand.TheVariants.{Var, Const}
use Rattle.bl_program.specs.declared.definitions.ProgramParts.{ProgramParts as Program}
use Rattle.bl_x64.specs.Registers.{code_of}
use Rattle.bl_x64.specs.Machines.{Area, Areas, Core, bytes_at}
use Rattle.bl_x64.specs.declared.register.Register.{Register}
use Rattle.bl_x64.specs.declared.register.Register.TheVariants.{Rax, Rcx, Rdx, Rsp, R14, R15}
use Rattle.bl_select.specs.declared.location.Location.{Location}
use Rattle.bl_select.specs.declared.location.Location.TheVariants.{Register as InRegister, Slot, Context}
use Rattle.bl_select.specs.declared.location.Source.{Source}
use Rattle.bl_select.specs.declared.location.Source.TheVariants.{At, Number}

-- ---- registers

-- registers that a template may overwrite
abbrev pub is_scratch : Register → Bool
is_scratch Rax = true
is_scratch Rcx = true
is_scratch Rdx = true
is_scratch r = false

-- registers that may hold variables
abbrev pub is_free : Register → Bool
is_free Rax = false
is_free Rcx = false
is_free Rdx = false
is_free Rsp = false
is_free R14 = false
is_free R15 = false
is_free r = true

-- ---- locations

-- the areas, the beginning of the running frame, and its size in bytes. The frames of open calls are above it
pub record Frame : Type 0 where
  pub areas : Areas
  pub base : ℕ
  pub size : ℕ

-- areas have no byte in common
abbrev pub AreApart : Area → Area → Type 0
AreApart a b = (a.start + a.size ≤ b.start) ⊎ (b.start + b.size ≤ a.start)

-- the areas are apart, each ends below 2 ^ 64, and the running frame lies in the slots
pub record IsFrame (f : Frame) : Type 0 where
  pub context_slots : AreApart f.areas.context f.areas.slots
  pub context_memory : AreApart f.areas.context f.areas.memory
  pub slots_memory : AreApart f.areas.slots f.areas.memory
  pub context_ends : f.areas.context.start + f.areas.context.size < 2 ^ 64
  pub slots_end : f.areas.slots.start + f.areas.slots.size < 2 ^ 64
  pub memory_ends : f.areas.memory.start + f.areas.memory.size < 2 ^ 64
  pub begins : f.areas.slots.start ≤ f.base
  pub ends : f.base + f.size ≤ f.areas.slots.start + f.areas.slots.size

-- a location that a variable may have: its bytes lie in the frame or in the context, and its displacement is not negative
abbrev pub IsLocation : Frame → Location → Type 0
IsLocation f (InRegister r) = IsTrue (is_free r)
IsLocation f (Slot at) = (at < 2 ^ 31) × (at + 8 ≤ f.size)
IsLocation f (Context at) = (at < 2 ^ 31) × (at + 8 ≤ f.areas.context.size)

-- locations that have nothing in common
abbrev pub Apart : Location → Location → Type 0
Apart (InRegister r) (InRegister q) = code_of r ≢ code_of q
Apart (Slot a) (Slot b) = (a + 8 ≤ b) ⊎ (b + 8 ≤ a)
Apart (Context a) (Context b) = (a + 8 ≤ b) ⊎ (b + 8 ≤ a)
Apart a b = Unit {0}

-- the number that a location holds
abbrev pub held_at : Frame → Core → Location → ℕ
held_at f c (InRegister r) = c.registers r
held_at f c (Slot at) = number_of (bytes_at c.memory (f.base + at) 8)
held_at f c (Context at) = number_of (bytes_at c.memory (f.areas.context.start + at) 8)

-- ---- variables

-- the placing at a position: the location of each variable, and the variables that are alive
pub record Placing : Type 0 where
  pub location : ℕ → Location
  pub alive : ℕ → Bool

-- live variables have locations, and any two of these are apart
pub record IsPlacing (f : Frame) (p : Placing) : Type 0 where
  pub locations : (x : ℕ) → IsTrue (p.alive x) → IsLocation f (p.location x)
  pub apart : (x y : ℕ) → IsTrue (p.alive x) → IsTrue (p.alive y) → x ≢ y → Apart (p.location x) (p.location y)

-- the placings before and after a command that writes the variable x: x is alive after it, and every other variable that is alive after it was
-- alive before, at the same location
pub record Assigns (p q : Placing) (x : ℕ) : Type 0 where
  pub here : IsTrue (q.alive x)
  pub others : (y : ℕ) → IsTrue (q.alive y) → y ≢ x → IsTrue (p.alive y) × (q.location y ≡ p.location y)

-- the placings before and after a command that writes no variable
pub record Passes (p q : Placing) : Type 0 where
  pub others : (y : ℕ) → IsTrue (q.alive y) → IsTrue (p.alive y) × (q.location y ≡ p.location y)

-- the source of an operand
abbrev pub source_of : Placing → Operand → Source
source_of p (Var x) = At (p.location x.0)
source_of p (Const number) = Number number

-- an operand that is a live variable, or a number below 2 ^ 64
abbrev pub IsSource : Placing → Operand → Type 0
IsSource p (Var x) = IsTrue (p.alive x.0)
IsSource p (Const number) = number < 2 ^ 64

-- ---- states

-- the bytes above the running frame, which belong to open calls, stay as they are
abbrev pub KeepsFrames : Frame → Core → Core → Type 0
KeepsFrames f c d = (address : ℕ) → f.base + f.size ≤ address → address < f.areas.slots.start + f.areas.slots.size → d.memory address ≡ c.memory address

-- a state of the machine matches a state of the plain run: the three registers hold the beginnings of the areas, live variables have their
-- values, which are below 2 ^ 64, and the memories have their bytes
pub record Matches (program : Program) (f : Frame) (p : Placing) (s : Plain) (c : Core) : Type 0 where
  pub slots : c.registers Rsp ≡ f.base
  pub context : c.registers R15 ≡ f.areas.context.start
  pub memory : c.registers R14 ≡ f.areas.memory.start
  pub variables : (x : ℕ) → IsTrue (p.alive x) → held_at f c (p.location x) ≡ s.registers (held program (depth s) x) x
  pub fits : (x : ℕ) → IsTrue (p.alive x) → s.registers (held program (depth s) x) x < 2 ^ 64
  pub space : (place : ℕ) → place < length s.space → c.memory (f.areas.memory.start + place) ≡ slice_index s.space place
  pub bytes : (address : ℕ) → c.memory address < 2 ^ 8
  pub room : length s.space ≤ f.areas.memory.size

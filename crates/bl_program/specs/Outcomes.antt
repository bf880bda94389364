-- What a plain run of a function from a start ends with, and which starts agree in public.
use Rattle.std.specs.Prelude.{◌≡◌, ℕ, zero, suc, ◌-◌, ◌*◌, nat_lt, if◌then◌else◌, List, [], ◌∷◌, ◌++◌, length, map, replicate, slice_get, slice_index, Some}
use Rattle.std.specs.List.{fold}
use Rattle.bl_base.specs.Bytes.{patched}
use Rattle.bl_base.specs.Fits.{Fits}
use Rattle.bl_base.specs.Runs.{MemoryState, Outcome, EndsAfter}
use Rattle.bl_base.specs.declared.names.Label.TheVariants.{Public}
use Rattle.bl_base.specs.declared.start.Start.{Start}
use Rattle.bl_program.specs.Layout.{first_of, entry_of}
use Rattle.bl_program.specs.Steps.{Registers, Plain, overlay, plain_step}
use Rattle.bl_program.specs.declared.definitions.FunctionDef.{FunctionDef}
use Rattle.bl_program.specs.declared.definitions.MemRow.{MemRow}
use Rattle.bl_program.specs.declared.definitions.MemoryDef.{MemoryDef}
use Rattle.bl_program.specs.declared.definitions.ParamDef.{ParamDef}
use Rattle.bl_program.specs.declared.definitions.ProgramParts.{ProgramParts as Program}

-- ---- memories

-- bytes with a row written over them
abbrev pub with_row : List ℕ → MemRow → List ℕ
with_row bytes row = overlay (row.number * 16) row.bytes bytes

-- a memory before the patches: what no row names is 0
abbrev pub first_memory : MemoryDef → MemoryState
first_memory memory = record { pages = memory.pages; bytes = fold with_row (replicate (memory.pages * 65536) 0) memory.rows }

-- the memories at the start: their first contents, with the patches written over them in order
abbrev pub first_memories : Program → Start → List MemoryState
first_memories program start = fold patched (map first_memory program.memories) start.patches

-- a memory's bytes, with zeros up to its reserve
abbrev pub padded : MemoryDef → MemoryState → List ℕ
padded memory state = state.bytes ++ replicate (memory.reserve * 65536 - length state.bytes) 0

-- the memories one after another, each with room for its reserve
abbrev pub space_of : List MemoryDef → List MemoryState → List ℕ
space_of [] states = []
space_of (memory ∷ memories) [] = []
space_of (memory ∷ memories) (state ∷ states) = padded memory state ++ space_of memories states

-- ---- registers

-- at depth 0 the globals and the sizes, at depth 1 the arguments; every other one is 0
abbrev pub first_registers : Program → ℕ → Start → Registers
first_registers program function start zero x =
    slice_index (map (λ global. global.first) program.globals ++ map (λ memory. memory.pages) program.memories) x
first_registers program function start (suc zero) x =
    if nat_lt x (first_of program function) then 0 else slice_index start.args (x - first_of program function)
first_registers program function start (suc (suc depth)) x = 0

-- ---- runs

-- the function's entry, with the arguments of the start
abbrev pub opening : Program → ℕ → Start → Plain
opening program function start = record {
  position = entry_of program function;
  chain = [];
  registers = first_registers program function start;
  space = space_of program.memories (first_memories program start);
}

-- the start fits the function: it exists, its parameters have these arguments, and the patches lie in the first pages
pub record IsStart (program : Program) (function : ℕ) (start : Start) : Type 0 where
  pub defined : FunctionDef
  pub exists : slice_get program.functions function ≡ Some defined
  pub fits : Fits (map (λ p. p.kind) defined.params) (map (λ memory. memory.pages) program.memories) start

-- the start fits, and the run from the function's entry ends with that outcome after exactly so many commands
pub record plain (program : Program) (function : ℕ) (start : Start) (steps : ℕ) (outcome : Outcome) : Type 0 where
  pub start_fits : IsStart program function start
  pub run : EndsAfter (plain_step program) steps (opening program function start) outcome

-- ---- agreement

-- both starts fit the function; their arguments are equal at its parameters that aren't declared secret, and, after the
-- patches, so are the first contents of the memories that aren't declared secret
pub record Agree (program : Program) (function : ℕ) (one other : Start) : Type 0 where
  pub one_fits : IsStart program function one
  pub other_fits : IsStart program function other
  pub arguments : (index : ℕ) (param : ParamDef) → slice_get one_fits.defined.params index ≡ Some param → param.label ≡ Public
      → slice_get one.args index ≡ slice_get other.args index
  pub memories : (index : ℕ) (memory : MemoryDef) → slice_get program.memories index ≡ Some memory → memory.label ≡ Public
      → slice_get (first_memories program one) index ≡ slice_get (first_memories program other) index

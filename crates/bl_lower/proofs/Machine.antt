-- Plain steps by what lowering knows of a program: where its functions and variables stand is given by shapes, and where its
-- memories stand by the linked tree's.
use Rattle.std.specs.Prelude.{ℕ, zero, suc, ◌+◌, ◌-◌, ◌*◌, ◌%◌, ◌^◌, ◌==◌, List, [], ◌∷◌, ◌++◌, length, take, drop, replicate, Option, Some, None, slice_get, nat_lt, if◌then◌else◌}
use Rattle.bl_base.specs.Quantity.{most_calls}
use Rattle.bl_base.specs.Runs.{MemoryState, Next, goes, ends, stuck, returned, trapped}
use Rattle.bl_base.specs.declared.trap.Trap.TheVariants as trap_kind
use Rattle.bl_ops.specs.Numerics.{meaning}
use Rattle.bl_wasm.specs.declared.linked.Memory.{Memory}
use Rattle.bl_wasm.specs.declared.types.BlockType.{BlockType}
use Rattle.bl_program.specs.Steps.{Registers, written, Plain, depth, on, to, loaded, stored}
use Rattle.bl_program.specs.declared.command.Command.{Command}
use Rattle.bl_program.specs.declared.command.Command.TheVariants.{Set, Load, Store, Test, Jump, Arg, Call, Out, Ret, Trap}
use Rattle.bl_program.specs.declared.command.Operand.{Operand}
use Rattle.bl_program.specs.declared.command.Operand.TheVariants.{Var, Const}
use Rattle.bl_emit.specs.Shapes.{Counts, Shape, param, result}

-- ---- all memories in one space of bytes, each at its base with room for its reserve

-- where a memory's bytes begin
abbrev pub base : List Memory → ℕ → ℕ
base [] index = 0
base (memory ∷ memories) zero = 0
base (memory ∷ memories) (suc index) = memory.reserve * 65536 + base memories index

-- a memory's bytes, with zeros up to its reserve
abbrev pub padded : Memory → MemoryState → List ℕ
padded memory state = state.bytes ++ replicate (memory.reserve * 65536 - length state.bytes) 0

abbrev pub space_of : List Memory → List MemoryState → List ℕ
space_of [] states = []
space_of (memory ∷ memories) [] = []
space_of (memory ∷ memories) (state ∷ states) = padded memory state ++ space_of memories states

-- ---- programs

pub record Program : Type 0 where
  pub commands : List Command
  pub shape : ℕ → Shape
  pub blocks : BlockType → Counts
  -- the function whose commands hold a position
  pub running : ℕ → ℕ
  -- how many variables are held at depth 0: globals, and the sizes of memories
  pub statics : ℕ
  -- the first size variable, and the memories
  pub sizes : ℕ
  pub memories : List Memory

-- the depth that a variable is read and written at
abbrev pub place : Program → ℕ → Plain → ℕ
place program x s = if nat_lt x program.statics then 0 else depth s

abbrev pub value_of : Program → Operand → Plain → ℕ
value_of program (Var x) s = s.registers (place program x.0 s) x.0
value_of program (Const c) s = c

abbrev pub results_from : Shape → Registers → ℕ → ℕ → List ℕ
results_from shape registers index zero = []
results_from shape registers index (suc count) = registers 0 (result shape index) ∷ results_from shape registers (suc index) count

-- the memories: their sizes are in registers, their bytes at their bases
abbrev pub states_from : Registers → List ℕ → ℕ → ℕ → List Memory → List MemoryState
states_from registers space size from [] = []
states_from registers space size from (memory ∷ memories) =
    record { pages = registers 0 size; bytes = take (registers 0 size * 65536) (drop from space) }
    ∷ states_from registers space (suc size) (from + memory.reserve * 65536) memories

abbrev pub states : Program → Plain → List MemoryState
states program s = states_from s.registers s.space program.sizes 0 program.memories

-- where an access begins
abbrev pub effective : Program → ℕ → ℕ → ℕ → ℕ
effective program memory offset address = base program.memories memory + (address % 2 ^ 32 + offset)

-- ---- steps

abbrev pub ret : Program → List ℕ → Plain → Next Plain
ret program [] s =
    let shape = program.shape (program.running s.position) in
    ends (returned (results_from shape s.registers 0 shape.results) (states program s))
ret program (back ∷ chain) s = goes (record s { position = back; chain = chain })

abbrev pub perform : Program → Option Command → Plain → Next Plain
perform program None s = stuck
perform program (Some (Set mark op x a b c)) s =
    on s (written s.registers (place program x.0 s) x.0 (meaning op (value_of program a s) (value_of program b s) (value_of program c s)))
perform program (Some (Test cond one other)) s = if value_of program cond s % 2 ^ 32 == 0 then to other.0 s else to one.0 s
perform program (Some (Jump position)) s = to position.0 s
perform program (Some (Arg mark function index a)) s =
    on s (written s.registers (suc (depth s)) (param (program.shape function) index) (value_of program a s))
perform program (Some (Call function)) s =
    if nat_lt (depth s) most_calls
    then goes (record s { position = (program.shape function).entry; chain = suc s.position ∷ s.chain })
    else ends (trapped trap_kind.StackExhausted (states program s))
perform program (Some (Out mark index a)) s =
    on s (written s.registers (length s.chain) (result (program.shape (program.running s.position)) index) (value_of program a s))
perform program (Some Ret) s = ret program s.chain s
perform program (Some (Trap kind)) s = ends (trapped kind (states program s))
perform program (Some (Load mark kind memory x offset a)) s =
    on s (written s.registers (place program x.0 s) x.0 (loaded kind s.space (effective program memory offset (value_of program a s))))
perform program (Some (Store kind memory offset a b)) s =
    goes (record s {
      position = suc s.position;
      space = stored kind (effective program memory offset (value_of program a s)) (value_of program b s) s.space;
    })

abbrev pub plain_step : Program → Plain → Next Plain
plain_step program s = perform program (slice_get program.commands s.position) s

-- Plain runs: one command a step, in the order of the program. Marks play no part.
use Rattle.std.specs.Prelude.{ℕ, zero, suc, ◌+◌, ◌*◌, ◌%◌, ◌^◌, ◌==◌, ◌&&◌, nat_eq, nat_lt, if◌then◌else◌, List, [], ◌∷◌, length, take, drop, Option, Some, None}
use Rattle.bl_base.specs.Quantity.{most_calls}
use Rattle.bl_base.specs.Runs.{MemoryState, Next, goes, ends, stuck, returned, trapped}
use Rattle.bl_base.specs.declared.trap.Trap.TheVariants as trap_kind
use Rattle.bl_ops.specs.Numerics.{meaning}
pub use Rattle.bl_bytes.specs.Overlays.{overlay, loaded, stored}
use Rattle.bl_program.specs.Layout.{statics, size_of, results_of, param, result, entry_of, running, command_at, base}
use Rattle.bl_program.specs.declared.command.Operand.{Operand}
use Rattle.bl_program.specs.declared.command.Operand.TheVariants.{Var, Const}
use Rattle.bl_program.specs.declared.command.Command.{Command}
use Rattle.bl_program.specs.declared.command.Command.TheVariants.{Set, Load, Store, Test, Jump, Arg, Call, Out, Ret, Trap}
use Rattle.bl_program.specs.declared.definitions.MemoryDef.{MemoryDef}
use Rattle.bl_program.specs.declared.definitions.ProgramParts.{ProgramParts as Program}

-- ---- registers

-- what is held at each depth in each variable
abbrev pub Registers : Type 0
Registers = ℕ → ℕ → ℕ

-- the registers with another number at a depth in a variable
abbrev pub written : Registers → ℕ → ℕ → ℕ → Registers
written registers depth to value = λ d v. (if nat_eq d depth && nat_eq v to then value else registers d v)

-- the depth at which a frame of that depth finds a variable: globals and sizes are held at depth 0
abbrev pub held : Program → ℕ → ℕ → ℕ
held program depth x = if nat_lt x (statics program) then 0 else depth

-- the number that an operand is in a frame of that depth
abbrev pub value_at : Program → Registers → ℕ → Operand → ℕ
value_at program registers depth (Var x) = registers (held program depth x.0) x.0
value_at program registers depth (Const number) = number

-- what is held at a depth in so many variables from one on
abbrev pub values_from : Registers → ℕ → ℕ → ℕ → List ℕ
values_from registers depth x zero = []
values_from registers depth x (suc count) = registers depth x ∷ values_from registers depth (suc x) count

-- ---- the space of bytes of all memories

-- where an access begins
abbrev pub effective : Program → ℕ → ℕ → ℕ → ℕ
effective program memory offset address = base program memory + (address % 2 ^ 32 + offset)

-- ---- states

-- the position of the next command, the positions to which the open calls return, the innermost first, the registers and
-- the bytes of all memories
pub record Plain : Type 0 where
  pub position : ℕ
  pub chain : List ℕ
  pub registers : Registers
  pub space : List ℕ

-- the number of open calls, the one of the run's own function included
abbrev pub depth : Plain → ℕ
depth s = suc (length s.chain)

-- the depth at which the running frame finds a variable
abbrev pub place : Program → ℕ → Plain → ℕ
place program x s = held program (depth s) x

-- the number that an operand is in the running frame
abbrev pub value_of : Program → Operand → Plain → ℕ
value_of program operand s = value_at program s.registers (depth s) operand

-- the memories from one on: their sizes are in registers, their bytes from a place of the space on
abbrev pub states_from : Registers → List ℕ → ℕ → ℕ → List MemoryDef → List MemoryState
states_from registers space size from [] = []
states_from registers space size from (memory ∷ memories) =
    record { pages = registers 0 size; bytes = take (registers 0 size * 65536) (drop from space) }
    ∷ states_from registers space (suc size) (from + memory.reserve * 65536) memories

abbrev pub states : Program → Plain → List MemoryState
states program s = states_from s.registers s.space (size_of program 0) 0 program.memories

-- ---- steps

-- on with other registers, at the next position
abbrev pub on : Plain → Registers → Next Plain
on s registers = goes (record s { position = suc s.position; registers = registers })

-- on at another position
abbrev pub to : ℕ → Plain → Next Plain
to position s = goes (record s { position = position })

-- a return: at depth 1 the run ends with the results, which are held at depth 0
abbrev pub ret : Program → List ℕ → Plain → Next Plain
ret program [] s =
    let function = running program s.position in
    ends (returned (values_from s.registers 0 (result program function 0) (results_of program function)) (states program s))
ret program (back ∷ chain) s = goes (record s { position = back; chain = chain })

-- a call: at the greatest depth the run traps
abbrev pub call : Program → ℕ → Plain → Next Plain
call program function s =
    if nat_lt (depth s) most_calls
    then goes (record s { position = entry_of program function; chain = suc s.position ∷ s.chain })
    else ends (trapped trap_kind.StackExhausted (states program s))

-- one command
abbrev pub perform : Program → Option Command → Plain → Next Plain
perform program None s = stuck
perform program (Some (Set mark op x a b c)) s =
    on s (written s.registers (place program x.0 s) x.0 (meaning op (value_of program a s) (value_of program b s) (value_of program c s)))
perform program (Some (Load mark kind memory x offset a)) s =
    on s (written s.registers (place program x.0 s) x.0 (loaded kind s.space (effective program memory offset (value_of program a s))))
perform program (Some (Store kind memory offset a b)) s =
    goes (record s {
      position = suc s.position;
      space = stored kind (effective program memory offset (value_of program a s)) (value_of program b s) s.space;
    })
perform program (Some (Test cond one other)) s = if value_of program cond s % 2 ^ 32 == 0 then to other.0 s else to one.0 s
perform program (Some (Jump position)) s = to position.0 s
perform program (Some (Arg mark function index a)) s =
    on s (written s.registers (suc (depth s)) (param program function index) (value_of program a s))
perform program (Some (Call function)) s = call program function s
perform program (Some (Out mark index a)) s =
    on s (written s.registers (length s.chain) (result program (running program s.position) index) (value_of program a s))
perform program (Some Ret) s = ret program s.chain s
perform program (Some (Trap kind)) s = ends (trapped kind (states program s))

-- one step: the command at the position
abbrev pub plain_step : Program → Plain → Next Plain
plain_step program s = perform program (command_at program s.position) s

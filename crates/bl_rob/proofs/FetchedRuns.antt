-- The plain run over what is fetched is the plain run.
use Rattle.std.proofs.Common.{◌≡◌, ℕ, suc, ◌%◌, ◌^◌, ◌==◌, Bool, true, false, List, [], ◌∷◌, length, Option, Some, None, refl}
use Rattle.std.specs.Prelude.{not, nat_lt, if◌then◌else◌}
use Rattle.bl_base.specs.Quantity.{most_calls}
use Rattle.bl_base.specs.Runs.{Outcome, Next, goes, ends, stuck}
use Rattle.bl_base.specs.declared.trap.Trap.TheVariants as trap_kind
use Rattle.bl_ops.specs.Numerics.{meaning}
use Rattle.bl_ops.specs.declared.op.Op.TheVariants.{Move}
use Rattle.bl_program.specs.Layout.{command_at, entry_of}
use Rattle.bl_program.specs.Steps.{Registers, Plain, value_at, to, perform, plain_step}
use Rattle.bl_program.specs.declared.command.Command.{Command}
use Rattle.bl_program.specs.declared.command.Command.TheVariants.{Set, Load, Store, Test, Jump, Arg, Call, Out, Ret, Trap}
use Rattle.bl_program.specs.declared.command.Operand.{Operand}
use Rattle.bl_program.specs.declared.command.Operand.TheVariants.{Var, Const}
use Rattle.bl_program.specs.declared.definitions.ProgramParts.{ProgramParts as Program}
use Rattle.bl_rob.specs.Machines.{State, at_position, ended_at, Straight, fetched, before, source_of, outcome_by}
use Rattle.bl_rob.specs.declared.directive.End.{End}
use Rattle.bl_rob.specs.declared.directive.End.TheVariants as ending
use Rattle.bl_rob.specs.declared.entry.Work.TheVariants as work
use Rattle.bl_rob.proofs.PlainTracks.{Config, value_in, next_at, next, IsThere}

-- a state of the plain run
abbrev pub config_of : Plain → Config
config_of s = record { front = at_position s.position s.chain; registers = s.registers; space = s.space }

-- the machine with an empty buffer there
abbrev pub state_of : Config → State
state_of c = record { buffer = []; front = c.front; registers = c.registers; space = c.space; retired = 0 }

-- a state behind which the plain run has ended
pub record Ends (program : Program) (s : Plain) (c : Config) (outcome : Outcome) : Type 0 where
  pub end : End
  pub front : c.front.end ≡ Some end
  pub registers : c.registers ≡ s.registers
  pub space : c.space ≡ s.space
  pub outcome_is : outcome ≡ outcome_by program (state_of c) end

-- what a step from a state has come to is what is next of it
abbrev pub Follows : Program → Plain → Config → Type 0 → Next Plain → Type 0
Follows program s c there (goes t) = c ≡ config_of t
Follows program s c there (ends outcome) = Ends program s c outcome
Follows program s c there stuck = there → ⊥

moves : (a b c : ℕ) → meaning Move a b c ≡ a
unfolding meaning
moves a b c = refl

module _ (program : Program) where
  source_is : (registers : Registers) (depth : ℕ) (a : Operand) → value_in registers (source_of program depth a) ≡ value_at program registers depth a
  source_is registers depth (Var x) = refl
  source_is registers depth (Const number) = refl

  -- what is next of a state whose command is that one
  abbrev pub behind : Plain → Option Command → Config
  behind s command = next_at program (config_of s) (fetched program s.position s.chain command)

  tested : (s : Plain) (zero : Bool) (one other : ℕ)
      → Follows program s (record { front = if not zero then at_position one s.chain else at_position other s.chain; registers = s.registers; space = s.space }) (Unit {0})
      (if zero then to other s else to one s)
  tested s true one other = refl
  tested s false one other = refl

  calls : (s : Plain) (function : ℕ) (few : Bool) (there : Type 0)
      → Follows program s
      (next_at program (config_of s)
      (if few then Straight work.Nop (at_position (entry_of program function) (suc s.position ∷ s.chain))
      else Straight (work.Fail trap_kind.StackExhausted) (ended_at s.position s.chain (ending.Trapped trap_kind.StackExhausted))))
      there
      (if few then goes (record s { position = entry_of program function; chain = suc s.position ∷ s.chain })
      else ends (outcome_by program (state_of (config_of s)) (ending.Trapped trap_kind.StackExhausted)))
  calls s function true there = refl
  calls s function false there = record { end = ending.Trapped trap_kind.StackExhausted; front = refl; registers = refl; space = refl; outcome_is = refl }

  returns : (position : ℕ) (chain : List ℕ) (registers : Registers) (space : List ℕ) →
      let s : Plain = record { position = position; chain = chain; registers = registers; space = space } in
      Follows program s (behind s (Some Ret)) (Unit {0}) (perform program (Some Ret) s)
  returns position [] registers space = record { end = ending.Returned; front = refl; registers = refl; space = refl; outcome_is = refl }
  returns position (caller ∷ chain) registers space = refl

  follows_at : (s : Plain) (command : Option Command) → Follows program s (behind s command) (IsThere (fetched program s.position s.chain command)) (perform program command s)
  follows_at s None = λ h. h
  follows_at s (Some (Set mark op x a b c)) =
      let depth = suc (length s.chain) in
      rw (source_is s.registers depth a, source_is s.registers depth b, source_is s.registers depth c) refl
  follows_at s (Some (Load mark kind memory x offset a)) = rw (source_is s.registers (suc (length s.chain)) a) refl
  follows_at s (Some (Store kind memory offset a b)) =
      rw (source_is s.registers (suc (length s.chain)) a, source_is s.registers (suc (length s.chain)) b) refl
  follows_at s (Some (Test cond one other)) =
      rw (source_is s.registers (suc (length s.chain)) cond) (tested s (value_at program s.registers (suc (length s.chain)) cond % 2 ^ 32 == 0) one.0 other.0)
  follows_at s (Some (Jump position)) = refl
  follows_at s (Some (Arg mark function index a)) =
      rw (source_is s.registers (suc (length s.chain)) a, moves (value_at program s.registers (suc (length s.chain)) a) 0 0) refl
  follows_at s (Some (Call function)) = calls s function (nat_lt (suc (length s.chain)) most_calls) _
  follows_at s (Some (Out mark index a)) =
      rw (source_is s.registers (suc (length s.chain)) a, moves (value_at program s.registers (suc (length s.chain)) a) 0 0) refl
  follows_at s (Some Ret) = returns s.position s.chain s.registers s.space
  follows_at s (Some (Trap kind)) = record { end = ending.Trapped kind; front = refl; registers = refl; space = refl; outcome_is = refl }

  pub follows : (s : Plain) → Follows program s (next program (config_of s)) (IsThere (before program (config_of s).front)) (plain_step program s)
  follows s = follows_at s (command_at program s.position)

-- Two plain runs that keep step: where they stand after each number of commands, and how they end.
use Rattle.std.specs.Prelude.{◌≡◌, ◌≤◌, ◌<◌, ℕ, suc, IsTrue, not, Bool, Some, slice_get}
use Rattle.bl_base.specs.Runs.{Outcome, returned, trapped, ends, StepsTo}
use Rattle.bl_base.specs.declared.names.Label.TheVariants.{Public}
use Rattle.bl_program.specs.Layout.{base}
use Rattle.bl_program.specs.Steps.{Plain, plain_step}
use Rattle.bl_program.specs.declared.definitions.MemoryDef.{MemoryDef}
use Rattle.bl_program.specs.declared.definitions.ProgramParts.{ProgramParts as Program}

-- a place of the space of bytes is one of a memory that isn't declared secret
pub record IsPublicPlace (program : Program) (place : ℕ) : Type 0 where
  pub memory : ℕ
  pub defined : MemoryDef
  pub exists : slice_get program.memories memory ≡ Some defined
  pub label : defined.label ≡ Public
  pub from : base program memory ≤ place
  pub below : place < base program (suc memory)

-- two states are at the same position with the same frames; what they hold at each depth in each public variable is equal, and
-- so is each byte of a public memory. A labelling says which variables are secret
pub record StandAlike (program : Program) (labelling : ℕ → Bool) (one other : Plain) : Type 0 where
  pub position : one.position ≡ other.position
  pub chain : one.chain ≡ other.chain
  pub registers : (depth x : ℕ) → IsTrue (not (labelling x)) → one.registers depth x ≡ other.registers depth x
  pub bytes : (place : ℕ) → IsPublicPlace program place → slice_get one.space place ≡ slice_get other.space place

-- both runs have returned, or both have trapped in the same way
abbrev pub EndAlike : Outcome → Outcome → Type 0
EndAlike (returned values memories) (returned others states) = Unit {0}
EndAlike (returned values memories) (trapped kind states) = ⊥
EndAlike (trapped kind memories) (returned others states) = ⊥
EndAlike (trapped kind memories) (trapped other states) = kind ≡ other

-- two runs after so many commands: both have come to states that stand alike, or both have ended, by the same command and alike
pub data KeepStep (program : Program) (labelling : ℕ → Bool) (commands : ℕ) (from beside : Plain) : Type 0 where
  go : (one other : Plain) → StepsTo (plain_step program) commands from one → StepsTo (plain_step program) commands beside other
      → StandAlike program labelling one other → KeepStep program labelling commands from beside
  end : (before : ℕ) (one other : Plain) (first second : Outcome) → before < commands
      → StepsTo (plain_step program) before from one → plain_step program one ≡ ends first
      → StepsTo (plain_step program) before beside other → plain_step program other ≡ ends second
      → StandAlike program labelling one other → EndAlike first second → KeepStep program labelling commands from beside

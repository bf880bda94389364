-- What a writer of a part of an image does, and how many bytes it writes.
use Rattle.std.specs.Prelude.{◌≡◌, ◌≤◌, ◌<◌, ◌-◌, ◌^◌, ℕ, suc, All, List, [], ◌∷◌, ◌++◌, length, min}
use Rattle.bl_program.specs.Programs.{IsCommand}
use Rattle.bl_program.specs.Rules.{IsMark}
use Rattle.bl_program.specs.declared.command.Command.{Command}
use Rattle.bl_program.specs.declared.command.Command.TheVariants.{Set, Load, Arg, Out}
use Rattle.bl_program.specs.declared.definitions.Demand.{Demand}
use Rattle.bl_program.specs.declared.definitions.FunctionDef.{FunctionDef}
use Rattle.bl_program.specs.declared.definitions.MemoryDef.{MemoryDef}
use Rattle.bl_program.specs.declared.definitions.ProgramParts.{ProgramParts as Program}
use Rattle.bl_program.specs.declared.definitions.SiteWeight.{SiteWeight}
use Rattle.bl_leb.specs.Grammar.{Spellings}

-- the new bytes are the old ones and then a spelling
pub record Adds (Spelled : Spellings) (old new : List ℕ) : Type 0 where
  pub bytes : List ℕ
  pub spelled : Spelled bytes
  pub appended : new ≡ old ++ bytes

-- there is a spelling, and it has so many bytes; of more than 64 bits count the greatest number of these is told
pub record HasLength (Spelled : Spellings) (count : ℕ) : Type 0 where
  pub bytes : List ℕ
  pub spelled : Spelled bytes
  pub counted : count ≡ min (length bytes) (2 ^ 64 - 1)

-- numbers rise from a least one on
abbrev pub Rises : {A : Type 0} → (A → ℕ) → ℕ → List A → Type 0
Rises number least [] = Unit {0}
Rises number least (x ∷ xs) = (least ≤ number x) × Rises number (suc (number x)) xs

-- a command's mark, where it has one, can be spelled
abbrev pub MarkFits : Command → Type 0
MarkFits (Set mark op to a b c) = IsMark mark
MarkFits (Load mark kind memory to offset address) = IsMark mark
MarkFits (Arg mark function index value) = IsMark mark
MarkFits (Out mark index value) = IsMark mark
MarkFits _ = Unit {0}

-- a command can be spelled
pub record CommandFits (command : Command) : Type 0 where
  pub is_command : IsCommand command
  pub mark : MarkFits command

-- a function's counts can be spelled
pub record FunctionFits (function : FunctionDef) : Type 0 where
  pub params : length function.params < 2 ^ 32
  pub results : length function.results < 2 ^ 32

-- a memory's rows can be spelled
pub record MemoryFits (memory : MemoryDef) : Type 0 where
  pub few : length memory.rows < 2 ^ 32
  pub rise : Rises (λ row. row.number) 0 memory.rows

-- the counts of the definitions can be spelled, and so can each
pub record DefinitionsFit (program : Program) : Type 0 where
  pub globals : length program.globals < 2 ^ 32
  pub memories : length program.memories < 2 ^ 32
  pub functions : length program.functions < 2 ^ 32
  pub each_memory : All MemoryFits program.memories
  pub each_function : All FunctionFits program.functions

-- the counts of demands and weights can be spelled, and so can the weights
pub record AdditionsFit (demands : List Demand) (weights : List SiteWeight) : Type 0 where
  pub few_demands : length demands < 2 ^ 32
  pub few_weights : length weights < 2 ^ 32
  pub rise : Rises (λ entry. entry.at.0) 0 weights

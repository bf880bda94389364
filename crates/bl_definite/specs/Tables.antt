-- The tables with which a program is checked.
use Rattle.std.specs.Prelude.{◌≡◌, ◌<◌, ◌≤◌, ℕ, suc, List, length, Some, slice_get}
use Rattle.bl_program.specs.Layout.{first_of, entry_of, AreValues}
use Rattle.bl_program.specs.Programs.{IsProgram}
use Rattle.bl_program.specs.Rules.{Rule2, GoesTo}
use Rattle.bl_program.specs.declared.command.Command.{Command}
use Rattle.bl_program.specs.declared.definitions.ProgramParts.{ProgramParts as Program}
use Rattle.bl_definite.specs.declared.tables.Link.{Link}
use Rattle.bl_definite.specs.declared.tables.Entrants.{Entrants}
use Rattle.bl_definite.specs.declared.tables.Tables.{Tables}

-- a position is noted among the links, from the one before a number on
pub data IsAmong (links : List Link) (from : ℕ) : ℕ → Type 0 where
  here : (place : ℕ) (link : Link) → slice_get links place ≡ Some link → link.from ≡ from → IsAmong links from (suc place)
  later : (place : ℕ) (link : Link) → slice_get links place ≡ Some link → IsAmong links from link.next → IsAmong links from (suc place)

-- each number names a link that is there, and leads to lesser numbers
pub record AreLinked (entrants : Entrants) : Type 0 where
  pub heads : (to number : ℕ) → slice_get entrants.heads.items to ≡ Some number → number ≤ length entrants.links.items
  pub fall : (place : ℕ) (link : Link) → slice_get entrants.links.items place ≡ Some link → link.next ≤ place

-- a position is noted for another one, if that one exists
abbrev pub IsNoted : Entrants → ℕ → ℕ → Type 0
IsNoted entrants from to = (number : ℕ) → slice_get entrants.heads.items to ≡ Some number → IsAmong entrants.links.items from number

-- with one more that goes to a position
pub record Noted (from to : ℕ) (old new : Entrants) : Type 0 where
  pub len : length new.heads.items ≡ length old.heads.items
  pub linked : AreLinked old → AreLinked new
  pub noted : AreLinked old → IsNoted new from to
  pub stays : AreLinked old → (other place : ℕ) → IsNoted old other place → IsNoted new other place

-- with the command at a position
pub record AreNoted (command : Command) (from : ℕ) (old new : Entrants) : Type 0 where
  pub len : length new.heads.items ≡ length old.heads.items
  pub linked : AreLinked old → AreLinked new
  pub noted : AreLinked old → (to : ℕ) → GoesTo command to → IsNoted new from to
  pub stays : AreLinked old → (other place : ℕ) → IsNoted old other place → IsNoted new other place

-- each command of a list is noted for the positions that it names
pub record AreEntrants (commands : List Command) (entrants : Entrants) : Type 0 where
  pub len : length entrants.heads.items ≡ length commands
  pub linked : AreLinked entrants
  pub noted : (from to : ℕ) (command : Command) → slice_get commands from ≡ Some command → GoesTo command to → IsNoted entrants from to

-- the tables are those of the program
pub record AreTables (program : Program) (tables : Tables) : Type 0 where
  pub facts : IsProgram program
  pub rule : Rule2 program
  pub firsts : AreValues (first_of program) (length program.functions) tables.firsts
  pub entries : AreValues (entry_of program) (length program.functions) tables.entries
  pub entrants : AreEntrants program.commands tables.entrants

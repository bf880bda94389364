-- The search for a stretch of control on which a fact is lacking.
use Rattle.std.specs.Prelude.{◌≡◌, ◌⊎◌, ◌<◌, ◌≤◌, ◌+◌, ◌-◌, ◌*◌, ◌&&◌, ℕ, nat_eq, nat_lt, if◌then◌else◌, List, [], ◌∷◌, ◌++◌, length, set, Bool, true, false, Option, Some, None, slice_get}
use Rattle.bl_program.specs.Layout.{first_of, entry_of, command_at, Holds}
use Rattle.bl_program.specs.Rules.{IsWellFormed, GoesTo, Leaves}
use Rattle.bl_program.specs.declared.command.Command.{Command}
use Rattle.bl_program.specs.declared.command.Command.TheVariants as command
use Rattle.bl_program.specs.declared.definitions.ProgramParts.{ProgramParts as Program}
use Rattle.bl_definite.specs.Facts.{Follows, IsDefiniteAt, IsKnownAtEntry, Lacks, Loses, Makes, Needs}
use Rattle.bl_definite.specs.Tables.{AreTables}
use Rattle.bl_definite.specs.declared.facts.Fact.{Fact}
use Rattle.bl_definite.specs.declared.facts.Fact.TheVariants.{Own, Argument, Returned, Given}
use Rattle.bl_definite.specs.declared.place.Place.{Place}
use Rattle.bl_definite.specs.declared.search.Search.{Search}

-- a function of a well-formed program, with the program's tables
pub record IsPlace (place : Place) : Type 0 where
  pub rules : IsWellFormed place.parts.now
  pub tables : AreTables place.parts.now place.tables.now
  pub exists : place.function < length place.parts.now.functions

-- a variable is one of the function's parameters
abbrev pub IsParameter : Program → ℕ → ℕ → Type 0
IsParameter program function x = IsKnownAtEntry program function (Own x)

-- a position was seen last for a fact
abbrev pub IsSeen : Search → Fact → ℕ → Type 0
IsSeen search fact position = slice_get search.stamps.items position ≡ Some (Some fact)

-- a position is to be looked at
abbrev pub Waits : Search → ℕ → Type 0
Waits search position = (place : ℕ) × (slice_get search.waiting.items place ≡ Some position)

-- between two questions nothing is to be looked at, and a fact isn't lacking where it was seen
pub record IsClean (program : Program) (search : Search) : Type 0 where
  pub room : length search.stamps.items ≡ length program.commands
  pub idle : search.waiting.items ≡ []
  pub each : (position : ℕ) (fact : Fact) → IsSeen search fact position → Lacks program fact position → ⊥

-- ---- how much there is to look at

-- two facts are the same one
abbrev pub kind_of : Fact → ℕ
kind_of (Own x) = 0
kind_of (Argument function index) = 1
kind_of (Returned function) = 2
kind_of (Given index) = 3

abbrev pub number_of : Fact → ℕ
number_of (Own x) = x
number_of (Argument function index) = function
number_of (Returned function) = function
number_of (Given index) = index

abbrev pub index_of : Fact → ℕ
index_of (Argument function index) = index
index_of _ = 0

abbrev pub is_same : Fact → Fact → Bool
is_same one other = nat_eq (kind_of one) (kind_of other) && nat_eq (number_of one) (number_of other) && nat_eq (index_of one) (index_of other)

abbrev pub is_seen : Fact → Option Fact → Bool
is_seen fact None = false
is_seen fact (Some other) = is_same fact other

-- how many positions weren't seen for the fact
abbrev pub unseen : Fact → List (Option Fact) → ℕ
unseen fact [] = 0
unseen fact (stamp ∷ stamps) = (if is_seen fact stamp then 0 else 1) + unseen fact stamps

-- how much there is to look at
abbrev pub work : Fact → Search → ℕ
work fact search = 2 * unseen fact search.stamps.items + length search.waiting.items

-- ---- steps of the search

-- a position was seen before, or is seen now and is to be looked at
pub data Seen (fact : Fact) (position : ℕ) (old new : Search) : Type 0 where
  before : IsSeen old fact position → new ≡ old → Seen fact position old new
  now : (IsSeen old fact position → ⊥) → new.stamps.items ≡ set old.stamps.items position (Some fact)
      → new.waiting.items ≡ old.waiting.items ++ position ∷ [] → Seen fact position old new

-- what is seen for a fact stays, and what is new of it is to be looked at. If the fact is lacking at a position that is newly
-- to be looked at, it is lacking at the one that is looked at now
pub record Extends (program : Program) (function : ℕ) (fact : Fact) (position : ℕ) (old new : Search) : Type 0 where
  pub room : length new.stamps.items ≡ length old.stamps.items
  pub keeps : (other : ℕ) → IsSeen old fact other → IsSeen new fact other
  pub fresh : (other : ℕ) → IsSeen new fact other → IsSeen old fact other ⊎ Waits new other
  pub others : (other : ℕ) (any : Fact) → IsSeen new any other → (any ≡ fact) ⊎ IsSeen old any other
  pub waits : (other : ℕ) → Waits old other → Waits new other
  pub leads : (other : ℕ) → Waits new other
      → Waits old other ⊎ (Holds program function other × (Lacks program fact other → Lacks program fact position))
  pub work : work fact new ≤ work fact old

-- the command at a position makes the fact, or it doesn't lose it and the fact was seen at it
abbrev pub IsHandled : Fact → Command → ℕ → Search → Type 0
IsHandled fact here from search = Makes here fact ⊎ ((Loses here fact → ⊥) × IsSeen search fact from)

-- the command at `from`, if the position follows it
pub record Came (program : Program) (function : ℕ) (fact : Fact) (from position : ℕ) (answer : Bool) (old new : Search) : Type 0 where
  pub lacks : answer ≡ true → Lacks program fact position
  pub extends : answer ≡ false → Extends program function fact position old new
  pub handled : answer ≡ false → (here : Command) → command_at program from ≡ Some here → Follows here from position
      → IsHandled fact here from new

-- the commands that name the position
pub record Entered (program : Program) (function : ℕ) (fact : Fact) (position : ℕ) (answer : Bool) (old new : Search) : Type 0 where
  pub lacks : answer ≡ true → Lacks program fact position
  pub extends : answer ≡ false → Extends program function fact position old new
  pub handled : answer ≡ false → (from : ℕ) (here : Command) → command_at program from ≡ Some here → GoesTo here position
      → IsHandled fact here from new

-- no stretch on which the fact is lacking leads to the position but through positions that were seen
pub record IsClosed (program : Program) (fact : Fact) (search : Search) (position : ℕ) : Type 0 where
  pub known : (function : ℕ) → function < length program.functions → position ≡ entry_of program function → IsKnownAtEntry program function fact
  pub handled : (from : ℕ) (here : Command) → command_at program from ≡ Some here → Follows here from position
      → IsHandled fact here from search

-- everything before the position
pub record Traced (program : Program) (function : ℕ) (fact : Fact) (position : ℕ) (answer : Bool) (old new : Search) : Type 0 where
  pub lacks : answer ≡ true → Lacks program fact position
  pub extends : answer ≡ false → Extends program function fact position old new
  pub closed : answer ≡ false → IsClosed program fact new position

-- ---- answers

-- yes: one of the facts is lacking at the position; no: none of them is, and the search can go on with another question
pub record Answers (program : Program) (needed : Fact → Type 0) (position : ℕ) (answer : Bool) (search : Search) : Type 0 where
  pub lacks : answer ≡ true → (fact : Fact) × needed fact × Lacks program fact position
  pub has : answer ≡ false → (fact : Fact) → needed fact → Lacks program fact position → ⊥
  pub clean : answer ≡ false → IsClean program search

-- ---- variables that are written before the function's first branch: flags of the variables from one on

-- no flag is set
abbrev pub AreUnset : List Bool → Type 0
AreUnset early = (index : ℕ) → slice_get early index ≡ Some true → ⊥

-- the variable's flag is set
abbrev pub IsFlagged : ℕ → List Bool → ℕ → Type 0
IsFlagged first early x = (first ≤ x) × (slice_get early (x - first) ≡ Some true)

-- with the flag of a variable set
abbrev pub flagged : ℕ → List Bool → ℕ → List Bool
flagged first early x = if nat_lt x first then early else set early (x - first) true

-- with the flag of the variable set that a command writes
abbrev pub with_flag : ℕ → List Bool → Command → List Bool
with_flag first early (command.Set mark op to a b c) = flagged first early to.0
with_flag first early (command.Load mark kind memory to offset address) = flagged first early to.0
with_flag first early _ = early

-- a variable that is written before the function's first branch is lacking only at positions before this one; the flags are those of the
-- function's first variables
abbrev pub AreEarly : Program → ℕ → ℕ → List Bool → Type 0
AreEarly program function position early =
    (index from : ℕ) → slice_get early index ≡ Some true → Holds program function from → Lacks program (Own (first_of program function + index)) from
    → from < position

-- no command before the position branches or ends the call
abbrev pub IsStraight : Program → ℕ → ℕ → Type 0
IsStraight program function position =
    (from : ℕ) (here : Command) → entry_of program function ≤ from → from < position → command_at program from ≡ Some here
    → Leaves here → ⊥

-- what a function's search finds: nothing, or the first of its positions that lacks something
pub record IsLackingIn (program : Program) (function position : ℕ) : Type 0 where
  pub here : Command
  pub fact : Fact
  pub holds : Holds program function position
  pub stands : command_at program position ≡ Some here
  pub needs : Needs program function here fact
  pub lacks : Lacks program fact position
  pub before : (from : ℕ) → from < position → Holds program function from → IsDefiniteAt program function from

pub record Finds (program : Program) (function : ℕ) (found : Option ℕ) (search : Search) : Type 0 where
  pub one : (position : ℕ) → found ≡ Some position → IsLackingIn program function position
  pub none : found ≡ None → (position : ℕ) → Holds program function position → IsDefiniteAt program function position
  pub clean : found ≡ None → IsClean program search

-- What `join` answers of two programs and an interface: the joined program, or the first thing that stands against it.
use Rattle.std.specs.Prelude.{◌≡◌, ℕ, List, Some, slice_get, take, Ok, Err, Result}
use Rattle.std.specs.List.{All}
use Rattle.bl_program.specs.declared.definitions.ProgramParts.{ProgramParts as Program}
use Rattle.bl_iface.specs.JoinedProgram.{CanJoin, HasSameTypes, IsNew, IsWithin, joined, kept, sums}
use Rattle.bl_iface.specs.declared.iface.Iface.{Iface}
use Rattle.bl_iface.specs.declared.limits.Sum.{Sum}
use Rattle.bl_iface.specs.declared.error.JoinError.{JoinError}
use Rattle.bl_iface.specs.declared.error.JoinError.TheVariants.{Types, Export, Limit, Memory}

-- the first item of a list that lacks a property stands at a place
pub record IsFirstWithout {X : Type 0} (P : X → Type 0) (xs : List X) (place : ℕ) : Type 0 where
  pub item : X
  pub stands : slice_get xs place ≡ Some item
  pub without : P item → ⊥
  pub before : All P (take place xs)

-- that one is the first of a list that is more than it may be
abbrev pub IsFirstOver : List Sum → Sum → Type 0
IsFirstOver all sum = (place : ℕ) × (slice_get all place ≡ Some sum) × IsFirstWithout IsWithin all place

-- the types differ, else names collide, else a sum is too large: each with the first of its kind
abbrev pub StandsAgainst : Program → Program → Iface → JoinError → Type 0
StandsAgainst client library iface (Types index) = IsFirstWithout (HasSameTypes client library) iface.functions index
StandsAgainst client library iface (Export index) =
    All (HasSameTypes client library) iface.functions × IsFirstWithout (IsNew (kept iface client)) library.exports index
StandsAgainst client library iface (Limit which value) =
    All (HasSameTypes client library) iface.functions × All (IsNew (kept iface client)) library.exports
    × ((sum : Sum) × IsFirstOver (sums client library) sum × (sum.which ≡ which) × (sum.value ≡ value))
StandsAgainst client library iface Memory = Unit {0}

abbrev pub JoinAnswers : Program → Program → Iface → Result Program JoinError → Type 0
JoinAnswers client library iface (Ok program) = CanJoin client library iface × (program ≡ joined client library iface)
JoinAnswers client library iface (Err error) = StandsAgainst client library iface error

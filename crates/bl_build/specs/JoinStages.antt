-- From the bytes of two images and of an interface file to the program that they are joined to, where both pass on their sides of the
-- interface.
use Rattle.std.specs.Prelude.{◌≡◌, ℕ, List, [], ◌∷◌, codes}
use Rattle.std.specs.Fmt.{decimal}
use Rattle.std.specs.List.{All}
use Rattle.bl_base.specs.declared.quantity.Quantity.{Quantity}
use Rattle.bl_base.specs.declared.names.Role.{Role}
use Rattle.bl_base.specs.declared.names.Role.TheVariants.{Client, Library}
use Rattle.bl_program.specs.Sites.{is_protected}
use Rattle.bl_program.specs.declared.definitions.ProgramParts.{ProgramParts as Program}
use Rattle.bl_iface.specs.Answers.{StandsAgainst}
use Rattle.bl_iface.specs.JoinedProgram.{CanJoin, HasSameTypes, joined}
use Rattle.bl_iface.specs.Roles.{PassesAs}
use Rattle.bl_iface.specs.RoleTests.{asked}
use Rattle.bl_transient.specs.Verdicts.{IsFirstBad}
use Rattle.bl_iface.specs.declared.error.JoinError.TheVariants.{Types, Export, Limit}
use Rattle.bl_iface.specs.declared.iface.Iface.{Iface}
use Rattle.bl_build.specs.BuildStages.{Built, sizing}
use Rattle.bl_build.specs.EntryStages.{imaging}
use Rattle.bl_build.specs.InterfaceStages.{IsMatchable, Side, matching, reading, side_of}
use Rattle.bl_job.specs.Refusals.{Refusal, limit, refusal_of}
use Rattle.bl_job.specs.Stages.{Stage, beside, chain}
use Rattle.bl_job.specs.declared.status.Reason.TheVariants as why

-- ---- two programs

-- a client and a library
pub record Pair : Type 0 where
  pub client : Program
  pub library : Program

abbrev pub pair_of : Program → Program → Pair
pair_of client library = record { client = client; library = library }

-- a client, with the library of an image's bytes
abbrev pub with_library : List ℕ → Stage Program Pair
with_library library = beside (λ client. library) imaging pair_of

-- the client of an image's bytes, with the library of another image's
abbrev pub pairing : List ℕ → Stage (List ℕ) Pair
pairing library = chain imaging (with_library library)

-- ---- an interface of both

-- a client, a library and an interface
pub record Sides : Type 0 where
  pub client : Program
  pub library : Program
  pub iface : Iface

abbrev pub sides_of : Pair → Iface → Sides
sides_of pair iface = record { client = pair.client; library = pair.library; iface = iface }

abbrev pub client_side : Sides → Side
client_side sides = side_of sides.client sides.iface

abbrev pub library_side : Sides → Side
library_side sides = side_of sides.library sides.iface

-- two programs, with the interface of a file
abbrev pub interfacing_both : List ℕ → Stage Pair Sides
interfacing_both bytes = beside (λ pair. bytes) reading sides_of

-- the client has all functions of the interface, and so has the library
abbrev pub matching_both : Stage Sides Sides
matching_both = chain (beside client_side matching (λ sides same. sides)) (beside library_side matching (λ sides same. sides))

-- a function of an interface, by its index, from 0
abbrev pub other_types : ℕ → Refusal
other_types index = refusal_of why.Interface (codes "interface: types " ∷ decimal index ∷ [])

-- a function of the interface has other types in the one than in the other; the first one
pub record HasOtherTypes (sides : Sides) (refusal : Refusal) : Type 0 where
  pub index : ℕ
  pub first : StandsAgainst sides.client sides.library sides.iface (Types index)
  pub is_refusal : refusal ≡ other_types index

-- all functions of the interface have the same types in both
abbrev pub typing : Stage Sides Sides
typing = record {
  Passes = λ sides same. (same ≡ sides) × All (HasSameTypes sides.client sides.library) sides.iface.functions;
  Refuses = HasOtherTypes;
}

-- well-formed programs that have images and all functions of an interface, of the same types
pub record AreMatchable (sides : Sides) : Type 0 where
  pub client : IsMatchable (client_side sides)
  pub library : IsMatchable (library_side sides)
  pub types : All (HasSameTypes sides.client sides.library) sides.iface.functions

-- ---- the joined program

-- what comes of a client and a library: one of them doesn't pass on its side, for a position; or they are joined
pub data Union : Type 0 where
  fails : Role → ℕ → Union
  whole : Built → Union

-- the client's own marks pass on its side, and the library's on its own
abbrev pub ClientPasses : Sides → Type 0
ClientPasses sides = PassesAs Client sides.iface sides.client (is_protected sides.client)

abbrev pub LibraryPasses : Sides → Type 0
LibraryPasses sides = PassesAs Library sides.iface sides.library (is_protected sides.library)

pub record BothPass (sides : Sides) : Type 0 where
  pub client : ClientPasses sides
  pub library : LibraryPasses sides

-- the least position that tells why the client's don't, or the library's
abbrev pub ClientFails : Sides → ℕ → Type 0
ClientFails sides position = IsFirstBad (asked Client sides.iface sides.client) sides.client (is_protected sides.client) position

abbrev pub LibraryFails : Sides → ℕ → Type 0
LibraryFails sides position = IsFirstBad (asked Library sides.iface sides.library) sides.library (is_protected sides.library) position

pub data Unites (sides : Sides) : Union → Type 0 where
  client_fails : (position : ℕ) → ClientFails sides position → Unites sides (fails Client position)
  library_fails : (position : ℕ) → ClientPasses sides → LibraryFails sides position → Unites sides (fails Library position)
  -- both pass, nothing stands against joining them, and the image of what they are joined to has few enough bytes
  are_joined : (built : Built) → BothPass sides → CanJoin sides.client sides.library sides.iface
      → sizing.Passes (joined sides.client sides.library sides.iface) built → Unites sides (whole built)

-- an export of a library, by its index, from 0
abbrev pub taken_export : ℕ → Refusal
taken_export index = refusal_of why.Interface (codes "interface: export " ∷ decimal index ∷ [])

-- both pass, but
pub data UnitingRefuses (sides : Sides) (refusal : Refusal) : Type 0 where
  -- an export of the library has the name of one of the client's that is kept; the first one
  export_taken : (index : ℕ) → BothPass sides → StandsAgainst sides.client sides.library sides.iface (Export index) → refusal ≡ taken_export index
      → UnitingRefuses sides refusal
  -- or else a number of both together is too large; the first one, by its sum
  too_large : (which : Quantity) (value : ℕ) → BothPass sides → StandsAgainst sides.client sides.library sides.iface (Limit which value)
      → refusal ≡ limit which value → UnitingRefuses sides refusal
  -- or else the image of the joined program has too many bytes
  too_long : BothPass sides → CanJoin sides.client sides.library sides.iface → sizing.Refuses (joined sides.client sides.library sides.iface) refusal
      → UnitingRefuses sides refusal

abbrev pub uniting : Stage Sides Union
uniting = record { Passes = Unites; Refuses = UnitingRefuses }

-- ---- all stages

-- what comes of a client and a library by the bytes of an interface file
abbrev pub pair_joining : List ℕ → Stage Pair Union
pair_joining bytes = chain (interfacing_both bytes) (chain matching_both (chain typing uniting))

-- the same from the bytes of the client's image, with those of the interface file and of the library's image
abbrev pub joining : List ℕ → List ℕ → Stage (List ℕ) Union
joining bytes library = chain (pairing library) (pair_joining bytes)

-- From a program and the bytes of an interface file to the program with what it protects on its side of the interface.
use Rattle.std.specs.Prelude.{◌≡◌, ◌≤◌, ℕ, Bool, List, [], ◌∷◌, length, codes, Ok, Err}
use Rattle.std.specs.Fmt.{decimal}
use Rattle.bl_base.specs.Quantity.{limit_of}
use Rattle.bl_base.specs.declared.quantity.Quantity.TheVariants as quantity
use Rattle.bl_base.specs.declared.names.Role.{Role}
use Rattle.bl_text.specs.Lines.{lines_of}
use Rattle.bl_program.specs.Rules.{IsWellFormed}
use Rattle.bl_program.specs.declared.definitions.ProgramParts.{ProgramParts as Program}
use Rattle.bl_graph.specs.Ranges.{AreInRange}
use Rattle.bl_cut.specs.Least.{LeastUnder}
use Rattle.bl_cut.specs.Marks.{protected}
use Rattle.bl_iface.specs.Answers.{IsFirstWithout}
use Rattle.bl_iface.specs.Files.{IsIface}
use Rattle.bl_iface.specs.InterfaceFunctions.{IsMatched, Matches}
use Rattle.bl_iface.specs.RoleTests.{IsFirstGiven, asked}
use Rattle.bl_iface.specs.declared.error.IfaceError.TheVariants.{Line}
use Rattle.bl_iface.specs.declared.iface.Iface.{Iface}
use Rattle.bl_format.specs.Image.{Image}
use Rattle.bl_build.specs.BuildStages.{compiling}
use Rattle.bl_build.specs.LoadStages.{Part}
use Rattle.bl_job.specs.Refusals.{Refusal, refusal_of}
use Rattle.bl_job.specs.Stages.{Stage, beside, chain}
use Rattle.bl_job.specs.declared.status.Reason.TheVariants as why

-- ---- interface files

-- the bytes are the file of that interface
abbrev pub IsFileOf : List ℕ → Iface → Type 0
IsFileOf bytes iface = IsIface (lines_of bytes) (Ok iface)

-- a line of an interface file, by its number, from 1
abbrev pub bad_interface_line : ℕ → Refusal
bad_interface_line number = refusal_of why.Interface (codes "interface: line " ∷ decimal number ∷ [])

-- a line of the file is bad; the first one
pub record HasBadLine (bytes : List ℕ) (refusal : Refusal) : Type 0 where
  pub number : ℕ
  pub first : IsIface (lines_of bytes) (Err (Line number))
  pub is_refusal : refusal ≡ bad_interface_line number

-- the interface of a file
abbrev pub reading : Stage (List ℕ) Iface
reading = record { Passes = IsFileOf; Refuses = HasBadLine }

-- ---- functions of an interface

-- a function of an interface, by its index, from 0
abbrev pub unmatched_function : ℕ → Refusal
unmatched_function index = refusal_of why.Interface (codes "interface: function " ∷ decimal index ∷ [])

-- a function of the interface is no export of the program with as many parameters and results; the first one
pub record IsUnmatched (program : Program) (iface : Iface) (refusal : Refusal) : Type 0 where
  pub index : ℕ
  pub first : IsFirstWithout (IsMatched program) iface.functions index
  pub is_refusal : refusal ≡ unmatched_function index

-- ---- one side of an interface

-- a program and an interface
pub record Side : Type 0 where
  pub program : Program
  pub iface : Iface

abbrev pub side_of : Program → Iface → Side
side_of program iface = record { program = program; iface = iface }

-- a program, with the interface of a file
abbrev pub interfacing : List ℕ → Stage Program Side
interfacing bytes = beside (λ program. bytes) reading side_of

-- the program has all functions of the interface
abbrev pub matching : Stage Side Side
matching = record {
  Passes = λ side same. (same ≡ side) × Matches side.program side.iface;
  Refuses = λ side. IsUnmatched side.program side.iface;
}

-- a well-formed program that has an image of few enough bytes, and all functions of an interface
pub record IsMatchable (side : Side) : Type 0 where
  pub rules : IsWellFormed side.program
  pub bytes : List ℕ
  pub image : Image side.program bytes
  pub short : length bytes ≤ limit_of quantity.Image
  pub matches : Matches side.program side.iface

-- a program with protects, and its image
pub record Parted : Type 0 where
  pub program : Program
  pub image : List ℕ

-- the program is another one, whose numbers are in range, with exactly the least choice of protects on its side of an interface; there is one
-- such program
pub record IsParted (role : Role) (side : Side) (parted : Parted) : Type 0 where
  pub range : AreInRange side.program
  pub set : ℕ → Bool
  pub least : LeastUnder (asked role side.iface side.program) side.program set
  pub is_program : parted.program ≡ protected set side.program
  pub image : Image parted.program parted.image

-- a sink that reads what the interface makes transient, by its position
abbrev pub given_sink : ℕ → Refusal
given_sink position = refusal_of why.Interface (codes "interface: sink " ∷ decimal position ∷ [])

-- a sink reads directly what the interface makes transient, so that no choice of protects passes; the first one
pub record IsGivenToSink (role : Role) (side : Side) (refusal : Refusal) : Type 0 where
  pub position : ℕ
  pub first : IsFirstGiven (asked role side.iface side.program) side.program position
  pub is_refusal : refusal ≡ given_sink position

abbrev pub choosing : Role → Stage Side Parted
choosing role = record { Passes = IsParted role; Refuses = IsGivenToSink role }

-- from a program and the bytes of an interface file to the program with the least protects on that side
abbrev pub siding : Role → List ℕ → Stage Program Parted
siding role bytes = chain (interfacing bytes) (chain matching (choosing role))

-- the same from the bytes of modules. The length of the image without protects is judged, before the interface file is looked at: with them it
-- is as long
abbrev pub parting : Role → List ℕ → Stage (List Part) Parted
parting role bytes = chain compiling (beside (λ built. built.program) (siding role bytes) (λ built parted. parted))

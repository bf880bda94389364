-- From the bytes of an image to its program, then to an exported function of it, and then to a start of the function.
use Rattle.std.specs.Fmt.{decimal}
use Rattle.std.specs.Prelude.{◌≡◌, ◌++◌, ℕ, codes, List, [], ◌∷◌, map, slice_get, Option, Some, None, Result, Ok, Err, if◌then◌else◌}
use Rattle.std.specs.Str.{bytes_eq}
use Rattle.bl_base.specs.declared.names.ValueType.{ValueType}
use Rattle.bl_base.specs.declared.start.Start.{Start}
use Rattle.bl_program.specs.Rules.{IsFirstBroken, IsWellFormed}
use Rattle.bl_program.specs.declared.definitions.ExportDef.{ExportDef}
use Rattle.bl_program.specs.declared.definitions.FunctionDef.{FunctionDef}
use Rattle.bl_program.specs.declared.definitions.ProgramParts.{ProgramParts as Program}
use Rattle.bl_format.specs.Image.{Image}
use Rattle.bl_trace.specs.StartFiles.{answer_of}
use Rattle.bl_trace.specs.declared.error.StartError.{StartError}
use Rattle.bl_trace.specs.declared.error.StartError.TheVariants.{Line, Count}
use Rattle.bl_job.specs.Refusals.{Refusal, refusal_of}
use Rattle.bl_job.specs.declared.status.Reason.TheVariants as why
use Rattle.bl_job.specs.Stages.{Stage, chain}

-- ---- programs

-- the bytes are the image of that program, which is well-formed
pub record IsImaged (bytes : List ℕ) (program : Program) : Type 0 where
  pub image : Image program bytes
  pub rules : IsWellFormed program

-- the bytes of a file are the image of no program
abbrev pub not_an_image : Refusal
not_an_image = refusal_of why.Image (codes "image: not an image" ∷ [])

-- the first rule that a program breaks, and the position where it does
abbrev pub broken_rule : (rule position : ℕ) → Refusal
broken_rule rule position = refusal_of why.Image (codes "image: rule " ∷ (decimal rule ++ codes " at ") ∷ decimal position ∷ [])

pub data ImagingRefuses (bytes : List ℕ) (refusal : Refusal) : Type 0 where
  -- the bytes are the image of no program
  no_image : ((program : Program) → Image program bytes → ⊥) → refusal ≡ not_an_image → ImagingRefuses bytes refusal
  -- they are that of a program that breaks a rule; the first one and its position
  ill_formed : (program : Program) (rule position : ℕ) → Image program bytes → IsFirstBroken rule position program
      → refusal ≡ broken_rule rule position → ImagingRefuses bytes refusal

abbrev pub imaging : Stage (List ℕ) Program
imaging = record { Passes = IsImaged; Refuses = ImagingRefuses }

-- ---- exported functions

-- the function of the first export of that name, where there is one
abbrev pub function_named : List ℕ → List ExportDef → Option ℕ
function_named name [] = None
function_named name (export ∷ exports) = if bytes_eq name export.name then Some export.function else function_named name exports

-- a program and a function of it
pub record Entry : Type 0 where
  pub program : Program
  pub function : ℕ
  pub defined : FunctionDef

-- a function of the program is exported under a name
pub record Finds (export : List ℕ) (program : Program) (entry : Entry) : Type 0 where
  pub same_program : entry.program ≡ program
  pub exported : function_named export program.exports ≡ Some entry.function
  pub defined : slice_get program.functions entry.function ≡ Some entry.defined

-- no function is exported under the name
abbrev pub no_export : Refusal
no_export = refusal_of why.Start (codes "start: export" ∷ [])

-- no function is
pub record FindingRefuses (export : List ℕ) (program : Program) (refusal : Refusal) : Type 0 where
  pub not_exported : function_named export program.exports ≡ None
  pub is_refusal : refusal ≡ no_export

abbrev pub finding : List ℕ → Stage Program Entry
finding export = record { Passes = Finds export; Refuses = FindingRefuses export }

-- ---- starts

-- a function of a program, and a start of it
pub record Entered : Type 0 where
  pub entry : Entry
  pub start : Start

-- the types of a function's parameters
abbrev pub kinds_of : FunctionDef → List ValueType
kinds_of defined = map (λ param. param.kind) defined.params

-- the first pages of a program's memories
abbrev pub pages_of : Program → List ℕ
pages_of program = map (λ memory. memory.pages) program.memories

-- what the bytes of a start file ask for
abbrev pub asked : List ℕ → Entry → Result Start StartError
asked bytes entry = answer_of (kinds_of entry.defined) (pages_of entry.program) bytes

-- they ask for that start of the function
pub record Starts (bytes : List ℕ) (entry : Entry) (entered : Entered) : Type 0 where
  pub same_entry : entered.entry ≡ entry
  pub read : asked bytes entry ≡ Ok entered.start

-- a line of a start file, by its number, from 1
abbrev pub bad_line : ℕ → Refusal
bad_line number = refusal_of why.Start (codes "start: line " ∷ decimal number ∷ [])

-- how many arguments there are
abbrev pub few_arguments : ℕ → Refusal
few_arguments count = refusal_of why.Start (codes "start: arguments " ∷ decimal count ∷ [])

pub data StartingRefuses (bytes : List ℕ) (entry : Entry) (refusal : Refusal) : Type 0 where
  -- a line is bad; the first one
  line_is_bad : (line : ℕ) → asked bytes entry ≡ Err (Line line) → refusal ≡ bad_line line → StartingRefuses bytes entry refusal
  -- no line is bad, and there are too few arguments
  too_few : (count : ℕ) → asked bytes entry ≡ Err (Count count) → refusal ≡ few_arguments count → StartingRefuses bytes entry refusal

abbrev pub starting : List ℕ → Stage Entry Entered
starting bytes = record { Passes = Starts bytes; Refuses = StartingRefuses bytes }

-- ---- all stages

-- from a program to a function of it that is exported under a name, with the start that the bytes of a start file ask for
abbrev pub program_entering : List ℕ → List ℕ → Stage Program Entered
program_entering export start = chain (finding export) (starting start)

-- from the bytes of an image to such a function of its program
abbrev pub entering : List ℕ → List ℕ → Stage (List ℕ) Entered
entering export start = chain imaging (program_entering export start)

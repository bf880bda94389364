-- What a reader of a part of an image answers.
use Rattle.std.specs.Prelude.{◌≡◌, ◌≤◌, ◌<◌, ℕ, List, [], ◌∷◌, ◌++◌, length, take, drop, min, Result, Ok, Err}
use Rattle.bl_program.specs.Programs.{IsCommand, IsProgram, IsZero}
use Rattle.bl_base.specs.Quantity.{limit_of}
use Rattle.bl_base.specs.declared.quantity.Quantity.TheVariants.{Commands}
use Rattle.bl_program.specs.Rules.{Rule1, IsFirstBroken}
use Rattle.bl_program.specs.declared.command.Command.{Command}
use Rattle.bl_program.specs.declared.command.Command.TheVariants.{Trap}
use Rattle.bl_program.specs.declared.command.Operand.{Operand}
use Rattle.bl_program.specs.declared.definitions.Demand.{Demand}
use Rattle.bl_program.specs.declared.definitions.MemoryDef.{MemoryDef}
use Rattle.bl_base.specs.declared.trap.Trap.TheVariants.{Unreachable, DivideByZero, Overflow, OutOfBounds, UndefinedElement, UninitializedElement, TypeMismatch}
use Rattle.bl_image.specs.declared.rising.Weights.{Weights}
use Rattle.bl_program.specs.declared.definitions.ProgramParts.{ProgramParts as Program}
use Rattle.bl_leb.specs.Grammar.{Spellings, given}
use Rattle.bl_format.specs.Grammar.{each}
use Rattle.bl_format.specs.Image.{Image, image, additions, command, command_code, fields, operand, version}
use Rattle.bl_image.specs.declared.decode.Found.{Found}
use Rattle.bl_image.specs.declared.decode.Found.TheVariants.{Whole, Many}
use Rattle.bl_image.specs.declared.error.Malformed.{Malformed}
use Rattle.bl_image.specs.declared.error.ReadError.{ReadError}
use Rattle.bl_image.specs.declared.error.ReadError.TheVariants as read_error
use Rattle.bl_image.specs.declared.error.ImageError.{ImageError}
use Rattle.bl_image.specs.declared.error.ImageError.TheVariants.{NotAnImage, IllFormed, Memory}

-- bytes begin with a spelling of one thing, behind which a rest stands, and of no other
pub record Begins {A : Type 0} (B : A → Spellings) (bytes : List ℕ) (x : A) (rest : List ℕ) : Type 0 where
  pub front : List ℕ
  pub whole : bytes ≡ front ++ rest
  pub spelled : B x front
  pub only : (y : A) (other more : List ℕ) → B y other → bytes ≡ other ++ more → (y ≡ x) × (more ≡ rest)

-- bytes begin with no spelling
pub record NoneBegins {A : Type 0} (B : A → Spellings) (bytes : List ℕ) : Type 0 where
  pub none : (y : A) (other more : List ℕ) → B y other → bytes ≡ other ++ more → ⊥

-- why a reader gives nothing: no spelling begins at the place, or there was no memory
abbrev pub Refuses : {A : Type 0} → (A → Spellings) → List ℕ → ℕ → ReadError → Type 0
Refuses B bytes start read_error.NotAnImage = NoneBegins B (drop start bytes)
Refuses B bytes start read_error.Memory = Unit {0}

-- a reader gives the one thing that is spelled from the place on, and the place behind it; or it says why it gives nothing
abbrev pub Reads : {A : Type 0} → (A → Spellings) → List ℕ → ℕ → Result (A × ℕ) ReadError → Type 0
Reads B bytes start (Ok found) = (found.1 ≤ length bytes) × Begins B (drop start bytes) found.0 (drop found.1 bytes)
Reads B bytes start (Err error) = Refuses B bytes start error

-- a reader that takes no memory gives the one thing that is spelled from the place on, and the place behind it; or no
-- spelling begins there
abbrev pub Finds : {A : Type 0} → (A → Spellings) → List ℕ → ℕ → Result (A × ℕ) Malformed → Type 0
Finds B bytes start (Ok found) = (found.1 ≤ length bytes) × Begins B (drop start bytes) found.0 (drop found.1 bytes)
Finds B bytes start (Err malformed) = NoneBegins B (drop start bytes)

-- what is spelled behind its code of a command of that code
abbrev pub fields_behind : ℕ → Command → Spellings
fields_behind code one = given (command_code one ≡ code) (given (IsCommand one) (fields one))

-- so many of three operands, of which the others are 0
abbrev pub operands_of : ℕ → Operand × (Operand × Operand) → Spellings
operands_of count these =
    given ((count < 2 → IsZero these.1.0) × (count < 3 → IsZero these.1.1))
    (each operand (take count (these.0 ∷ these.1.0 ∷ these.1.1 ∷ [])))

-- demands and weights, of which the image has that version
abbrev pub additions_of : ℕ → List Demand × Weights → Spellings
additions_of number both = given (version both.0 both.1.0 ≡ number) (additions both.0 both.1.0)

-- bytes are a spelling of things, one after another, and of no others
pub record Fills {A : Type 0} (B : A → Spellings) (bytes : List ℕ) (xs : List A) : Type 0 where
  pub spelled : each B xs bytes
  pub only : (ys : List A) → each B ys bytes → ys ≡ xs

-- why a reader of all that is left gives nothing: it spells no things, or more than so many; or there was no memory
abbrev pub RefusesAll : {A : Type 0} → (A → Spellings) → ℕ → List ℕ → ReadError → Type 0
RefusesAll {A} B most bytes read_error.NotAnImage = (ys : List A) → length ys ≤ most → each B ys bytes → ⊥
RefusesAll B most bytes read_error.Memory = Unit {0}

-- a reader of all that is left gives what it spells, behind what it was given; it is refused only where that is no things, or
-- more than so many, or for want of memory
abbrev pub ReadsAll : {A : Type 0} → (A → Spellings) → List A → ℕ → List ℕ → Result (List A) ReadError → Type 0
ReadsAll {A} B start most bytes (Ok all) = (xs : List A) × (all ≡ start ++ xs) × Fills B bytes xs
ReadsAll B start most bytes (Err error) = RefusesAll B most bytes error

-- one that keeps nothing says how many things it is that all that is left spells
abbrev pub CountsAll : {A : Type 0} → (A → Spellings) → List ℕ → Result ℕ Malformed → Type 0
CountsAll {A} B bytes (Ok count) = (xs : List A) × (length xs ≡ count) × Fills B bytes xs
CountsAll {A} B bytes (Err malformed) = (ys : List A) → each B ys bytes → ⊥

-- the commands at positions 0 to 6
abbrev pub traps : List Command
traps =
    Trap Unreachable ∷ Trap DivideByZero ∷ Trap Overflow ∷ Trap OutOfBounds ∷ Trap UndefinedElement ∷ Trap UninitializedElement
    ∷ Trap TypeMismatch ∷ []

-- parts with these commands behind the traps
abbrev pub with_commands : Program → List Command → Program
with_commands front xs = record {
  globals = front.globals;
  memories = front.memories;
  functions = front.functions;
  exports = front.exports;
  commands = traps ++ xs;
  demands = front.demands;
  weights = front.weights;
}

-- bytes begin with all that stands in front of the commands of one program, of which these are the parts, with the traps as
-- its commands; behind it a rest stands
pub record Fronts (bytes : List ℕ) (front : Program) (rest : List ℕ) : Type 0 where
  pub commands : front.commands ≡ traps
  pub joins : (xs : List Command) → each command xs rest → image (with_commands front xs) bytes
  pub splits : (program : Program) → Image program bytes → (xs : List Command) × (program ≡ with_commands front xs) × each command xs rest

-- why nothing is read of a program: no program has these bytes, or there was no memory
abbrev pub RefusesProgram : List ℕ → ReadError → Type 0
RefusesProgram bytes read_error.NotAnImage = (program : Program) → Image program bytes → ⊥
RefusesProgram bytes read_error.Memory = Unit {0}

-- a reader of what stands in front of the commands gives it, and the place behind it
abbrev pub ReadsFront : List ℕ → Result (Program × ℕ) ReadError → Type 0
ReadsFront bytes (Ok found) = (found.1 ≤ length bytes) × Fronts bytes found.0 (drop found.1 bytes)
ReadsFront bytes (Err error) = RefusesProgram bytes error

-- bytes are an image of the parts, if they are a program's, and of no other program
pub record Spells (bytes : List ℕ) (parts : Program) : Type 0 where
  pub spelled : image parts bytes
  pub only : (program : Program) → Image program bytes → program ≡ parts

-- bytes are the image of a program with these memories, which has more commands than the limit
pub record IsLarge (bytes : List ℕ) (memories : List MemoryDef) : Type 0 where
  pub program : Program
  pub is_image : Image program bytes
  pub memories_same : program.memories ≡ memories
  pub many : limit_of Commands < length program.commands

-- a reader of a whole image gives the parts of the one program that it may be of, or the memories of a large one
abbrev pub ReadsProgram : List ℕ → Result Found ReadError → Type 0
ReadsProgram bytes (Ok (Whole parts)) = Spells bytes parts
ReadsProgram bytes (Ok (Many memories)) = IsLarge bytes memories
ReadsProgram bytes (Err error) = RefusesProgram bytes error

-- the program of memories alone
abbrev pub alone : List MemoryDef → Program
alone memories = record { globals = []; memories = memories; functions = []; exports = []; commands = traps; demands = []; weights = [] }

-- which of rules 1 and 2 a large program with these memories breaks first
pub data BreaksOne (memories : List MemoryDef) (rule : ℕ) : Type 0 where
  first : rule ≡ 1 → (Rule1 (alone memories) → ⊥) → BreaksOne memories rule
  second : rule ≡ 2 → ((Rule1 (alone memories) → ⊥) → ⊥) → BreaksOne memories rule

-- why a large program with these memories isn't well-formed
abbrev pub RefusesMany : List MemoryDef → ImageError → Type 0
RefusesMany memories NotAnImage = ⊥
RefusesMany memories (IllFormed rule position) = (position.0 ≡ 0) × BreaksOne memories rule
RefusesMany memories Memory = Unit {0}

-- by what is found of its memories alone
abbrev pub refusal_by : Result Program ImageError → ImageError
refusal_by (Ok program) = IllFormed 2 (record { 0 = 0 })
refusal_by (Err NotAnImage) = NotAnImage
refusal_by (Err (IllFormed rule position)) = IllFormed (min rule 2) (record { 0 = 0 })
refusal_by (Err Memory) = Memory

-- why parts are no well-formed program's: they are no program's; or that is the first rule that theirs breaks; or there was no
-- memory
abbrev pub IsPartsReason : Program → ImageError → Type 0
IsPartsReason parts NotAnImage = IsProgram parts → ⊥
IsPartsReason parts (IllFormed rule position) = IsProgram parts × IsFirstBroken rule position.0 parts
IsPartsReason parts Memory = Unit {0}

-- why bytes give no well-formed program: no program has these bytes; or one has them, and that is the first rule that it
-- breaks; or there was no memory
abbrev pub IsReason : List ℕ → ImageError → Type 0
IsReason bytes NotAnImage = (program : Program) → Image program bytes → ⊥
IsReason bytes (IllFormed rule position) = (program : Program) × Image program bytes × IsFirstBroken rule position.0 program
IsReason bytes Memory = Unit {0}

-- How far a module is read that may go on: what is asked of all bytes is asked of those behind a place, whatever they are.
use Rattle.std.specs.Prelude.{◌≡◌, ℕ, ◌+◌, ◌-◌, ◌≤◌, ◌<◌, ◌⊎◌, List, [], ◌++◌, length, take, Option, Some, None, Result, Ok, Err, Bool, true, false}
use Rattle.bl_base.specs.declared.memory.NoMemory.{NoMemory}
use Rattle.bl_code.specs.declared.error.CodeError.{CodeError}
use Rattle.bl_code.specs.declared.error.CodeError.TheVariants.{Malformed, Memory}
use Rattle.bl_leb.specs.Grammar.{Spellings}
use Rattle.bl_code.specs.ReaderAnswers.{IsAt}
use Rattle.bl_wasm.specs.Values.{each, u32}
use Rattle.bl_wasm.specs.Sections.{code_entry}
use Rattle.bl_wasm.specs.declared.module.Code.{Code}
use Rattle.bl_decode.specs.ModulePrefixes.{EarlyContents, BeginsFrom, BeginsWith, AreBodies}
use Rattle.bl_decode.specs.declared.ahead.Stage.{Stage}
use Rattle.bl_decode.specs.declared.ahead.Stage.TheVariants.{Start, Sections, Entries, Over}

-- the front is the header and whole sections; behind them sections may come from a least id on
pub record Passed (least : ℕ) (front : List ℕ) : Type 0 where
  pub there : (tail : List ℕ) (bodies : List Code) → BeginsFrom least tail bodies → BeginsWith (front ++ tail) bodies
  pub asked : (tail : List ℕ) (bodies : List Code) → BeginsWith (front ++ tail) bodies → BeginsFrom least tail bodies

-- the bytes begin with at most so many entries, within so much room
pub record Inside (room left : ℕ) (bytes : List ℕ) (bodies : List Code) : Type 0 where
  pub entries : List ℕ
  pub rest : List ℕ
  pub whole : bytes ≡ entries ++ rest
  pub few : length bodies ≤ left
  pub spelled : each code_entry bodies entries
  pub fits : length entries ≤ room

-- the front ends in the code section, behind the entries of these bodies; behind them so many may come, within so much room
pub record Entered (front : List ℕ) (bodies : List Code) (room left : ℕ) : Type 0 where
  pub there : (tail : List ℕ) (others : List Code) → Inside room left tail others → BeginsWith (front ++ tail) (bodies ++ others)
  pub asked : (tail : List ℕ) (all : List Code) → BeginsWith (front ++ tail) all
      → (length all ≤ length bodies) ⊎ ((others : List Code) × (length all ≡ length bodies + length others) × Inside room left tail others)

-- whatever comes behind the bytes, they begin with these bodies and no more
pub record Closed (bytes : List ℕ) (bodies : List Code) : Type 0 where
  pub there : (bodies ≡ []) ⊎ ((tail : List ℕ) → BeginsWith (bytes ++ tail) bodies)
  pub most : (tail : List ℕ) (all : List Code) → BeginsWith (bytes ++ tail) all → length all ≤ length bodies

pub record AtSections (bytes : List ℕ) (bodies : List Code) (place least : ℕ) : Type 0 where
  pub inside : place ≤ length bytes
  pub none : bodies ≡ []
  pub passed : Passed least (take place bytes)

-- the code section behind its id at a place: its size, its count, and the entries of these bodies
pub record Begun (bytes : List ℕ) (bodies : List Code) (from place end left : ℕ) : Type 0 where
  pub counts : ℕ
  pub first : ℕ
  pub before : counts ≤ end
  pub sized : IsAt u32 bytes (from + 1) counts (end - counts)
  pub counted : IsAt u32 bytes counts first (length bodies + left)
  pub entries : IsAt (each code_entry) bytes first place bodies

pub record AtEntries (bytes : List ℕ) (bodies : List Code) (from place end left : ℕ) : Type 0 where
  pub inside : place ≤ length bytes
  pub before : place ≤ end
  pub entered : Entered (take place bytes) bodies (end - place) left
  pub begun : Begun bytes bodies from place end left

-- so far the bytes are read
abbrev pub Scanned : List ℕ → List Code → Stage → Type 0
Scanned bytes bodies Start = bodies ≡ []
Scanned bytes bodies (Sections place least) = AtSections bytes bodies place least
Scanned bytes bodies (Entries from place end left) = AtEntries bytes bodies from place end left
Scanned bytes bodies Over = Closed bytes bodies

-- what is left to be read
abbrev pub ahead : List ℕ → Stage → ℕ
ahead bytes Start = length bytes + 2
ahead bytes (Sections place least) = length bytes - place + 1
ahead bytes (Entries from place end left) = length bytes - place + 1
ahead bytes Over = 0

-- a step leads on, or what comes next isn't there
abbrev pub Steps : List ℕ → Stage → List Code → List Code → Option Stage → Type 0
Steps bytes stage old new (Some next) = Scanned bytes new next × (ahead bytes next < ahead bytes stage)
Steps bytes stage old new None = (new ≡ old) × AreBodies bytes old

-- whether all the bytes spell something
abbrev pub TellsSpelled : {A : Type 0} → (A → Spellings) → List ℕ → Result Bool NoMemory → Type 0
TellsSpelled {A} B bytes (Ok true) = (x : A) × B x bytes
TellsSpelled {A} B bytes (Ok false) = (x : A) → B x bytes → ⊥
TellsSpelled {A} B bytes (Err e) = Unit {0}

-- what a reader of all bytes tells of them
abbrev pub Says : {A : Type 0} → Result A CodeError → Result Bool NoMemory → Type 0
Says {A} (Ok x) (Ok true) = Unit {0}
Says {A} (Ok x) (Ok false) = ⊥
Says {A} (Ok x) (Err e) = Unit {0}
Says {A} (Err Malformed) (Ok true) = ⊥
Says {A} (Err Malformed) (Ok false) = Unit {0}
Says {A} (Err Malformed) (Err e) = Unit {0}
Says {A} (Err Memory) (Ok true) = ⊥
Says {A} (Err Memory) (Ok false) = ⊥
Says {A} (Err Memory) (Err e) = Unit {0}

-- whether they are the contents of an early section of an id
abbrev pub TellsEarly : ℕ → List ℕ → Result Bool NoMemory → Type 0
TellsEarly id bytes (Ok true) = EarlyContents id bytes
TellsEarly id bytes (Ok false) = EarlyContents id bytes → ⊥
TellsEarly id bytes (Err e) = Unit {0}

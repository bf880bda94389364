-- Sections in their order, with custom sections among them (WebAssembly 1.0, sections 5.5.2 and 5.5.15).
use Rattle.std.specs.Prelude.{◌≡◌, ℕ, ◌<◌, ◌≤◌, ◌⊎◌, List, [], ◌∷◌, ◌++◌, drop, slice_get, Some, Result, Ok, Err}
use Rattle.bl_leb.specs.Grammar.{Spellings}
use Rattle.bl_wasm.specs.Values.{each}
use Rattle.bl_wasm.specs.Sections.{custom_section}
use Rattle.bl_wasm.specs.declared.module.CustomSection.{CustomSection}
use Rattle.bl_code.specs.ReaderAnswers.{IsAt, NoneAt}
use Rattle.bl_code.specs.declared.error.CodeError.{CodeError}
use Rattle.bl_code.specs.declared.error.CodeError.TheVariants.{Malformed, Memory}

-- the first byte
pub record Begins (first : ℕ) (bytes : List ℕ) : Type 0 where
  pub behind : List ℕ
  pub whole : bytes ≡ first ∷ behind

-- A section that may be missing: no bytes spell it then. Where it stands it begins with its id, and its spellings are
-- prefix-free.
pub record IsSection {A : Type 0} (id : ℕ) (S : A → Spellings) : Type 0 where
  pub begins : (x : A) (bytes : List ℕ) → S x bytes → (bytes ≡ []) ⊎ Begins id bytes
  pub missing : (x y : A) → S x [] → S y [] → x ≡ y
  pub standing : (x y : A) (a b u v : List ℕ) → S x a → S y b → Begins id a → Begins id b → a ++ u ≡ b ++ v → (a ≡ b) × (x ≡ y)

-- a custom section, and what follows it
pub record CustomFirst (Behind : List CustomSection → Spellings) (customs : List CustomSection) (bytes : List ℕ) : Type 0 where
  pub custom : CustomSection
  pub others : List CustomSection
  pub all : customs ≡ custom ∷ others
  pub front : List ℕ
  pub behind : List ℕ
  pub whole : bytes ≡ front ++ behind
  pub first : custom_section custom front
  pub second : Behind others behind

-- Sections to the end of a module, with custom sections among them: they begin with a custom section, or with a section
-- whose id isn't below the least one; and bytes spell them in one way.
pub record IsTail {A : Type 0} (least : ℕ) (Q : A → List CustomSection → Spellings) : Type 0 where
  pub begins : (x : A) (customs : List CustomSection) (bytes : List ℕ) → Q x customs bytes
      → (bytes ≡ []) ⊎ ((id : ℕ) × Begins id bytes × ((id ≡ 0) ⊎ (least ≤ id)))
  pub customs_first : (x : A) (customs : List CustomSection) (bytes : List ℕ) → Q x customs bytes → Begins 0 bytes
      → CustomFirst (Q x) customs bytes
  pub one : (x y : A) (customs others : List CustomSection) (bytes : List ℕ) → Q x customs bytes → Q y others bytes
      → (x ≡ y) × (customs ≡ others)

-- a section of an id above 0, and behind it what begins with ids above its own
pub record IsLink {A B : Type 0} (id least : ℕ) (S : A → Spellings) (R : B → List CustomSection → Spellings) : Type 0 where
  pub positive : 0 < id
  pub rising : id < least
  pub section : IsSection id S
  pub tail : IsTail least R

-- A reader gives a section where one stands, and else what is missing; or it says why it gives nothing.
abbrev pub ReadsSection : {A : Type 0} → ℕ → (A → Spellings) → List ℕ → ℕ → Result (A × ℕ) CodeError → Type 0
ReadsSection {A} id S bytes start (Ok found) = IsAt S bytes start found.1 found.0 × (slice_get bytes start ≡ Some id → start < found.1)
ReadsSection {A} id S bytes start (Err Malformed) =
    (slice_get bytes start ≡ Some id) × ((x : A) (end : ℕ) → start < end → IsAt S bytes start end x → ⊥)
ReadsSection {A} id S bytes start (Err Memory) = Unit {0}

-- custom sections that stand there, behind the old ones
pub record CustomsPassed (bytes : List ℕ) (start end : ℕ) (old new : List CustomSection) : Type 0 where
  pub customs : List CustomSection
  pub appended : new ≡ old ++ customs
  pub there : IsAt (each custom_section) bytes start end customs

-- custom sections that stand there, behind the old ones, and no byte 0 behind them
pub record CustomsRead (bytes : List ℕ) (start end : ℕ) (old new : List CustomSection) : Type 0 where
  pub customs : List CustomSection
  pub appended : new ≡ old ++ customs
  pub there : IsAt (each custom_section) bytes start end customs
  pub ended : slice_get bytes end ≡ Some 0 → ⊥

-- behind custom sections that stand there a byte 0 begins no custom section
pub record CustomMalformed (bytes : List ℕ) (start : ℕ) : Type 0 where
  pub customs : List CustomSection
  pub end : ℕ
  pub there : IsAt (each custom_section) bytes start end customs
  pub zero : slice_get bytes end ≡ Some 0
  pub none : NoneAt custom_section bytes end

-- A reader appends the custom sections that stand there; or it says why it gives nothing.
abbrev pub ReadsCustoms : List ℕ → ℕ → List CustomSection → List CustomSection → Result ℕ CodeError → Type 0
ReadsCustoms bytes start old new (Ok end) = CustomsRead bytes start end old new
ReadsCustoms bytes start old new (Err Malformed) = CustomMalformed bytes start
ReadsCustoms bytes start old new (Err Memory) = Unit {0}

-- the bytes from a place to their end spell it, with the custom sections behind the old ones
pub record TailRead {A : Type 0} (Q : A → List CustomSection → Spellings) (bytes : List ℕ) (start : ℕ)
    (old new : List CustomSection) (x : A) : Type 0 where
  pub customs : List CustomSection
  pub appended : new ≡ old ++ customs
  pub spelled : Q x customs (drop start bytes)

-- A reader gives what the bytes from a place to their end spell, and appends the custom sections; or it says why it
-- gives nothing.
abbrev pub ReadsTail : {A : Type 0} → (A → List CustomSection → Spellings) → List ℕ → ℕ → List CustomSection → List CustomSection
    → Result A CodeError → Type 0
ReadsTail {A} Q bytes start old new (Ok x) = TailRead Q bytes start old new x
ReadsTail {A} Q bytes start old new (Err Malformed) = (x : A) (customs : List CustomSection) → Q x customs (drop start bytes) → ⊥
ReadsTail {A} Q bytes start old new (Err Memory) = Unit {0}

-- What a reader of the binary format answers, by the grammar (WebAssembly 1.0, section 5.1.1).
use Rattle.std.specs.Prelude.{ℕ, List, ◌∷◌, Result, Ok, Err}
use Rattle.bl_leb.specs.Spellings.{IsSpelledAt}
use Rattle.bl_leb.specs.Grammar.{Spellings}
use Rattle.bl_code.specs.declared.error.CodeError.{CodeError}
use Rattle.bl_code.specs.declared.error.CodeError.TheVariants as error
use Rattle.bl_code.specs.declared.error.Malformed.{Malformed}

-- the bytes from a place to another spell it
abbrev pub IsAt : {A : Type 0} → (A → Spellings) → List ℕ → ℕ → ℕ → A → Type 0
IsAt B bytes start end x = IsSpelledAt (λ these y. B y these) bytes start end x

-- no spelling begins at the place
abbrev pub NoneAt : {A : Type 0} → (A → Spellings) → List ℕ → ℕ → Type 0
NoneAt {A} B bytes start = (x : A) (end : ℕ) → IsAt B bytes start end x → ⊥

-- why a reader gives nothing: no spelling begins at the place, or there was no memory
abbrev pub Refuses : {A : Type 0} → (A → Spellings) → List ℕ → ℕ → CodeError → Type 0
Refuses B bytes start error.Malformed = NoneAt B bytes start
Refuses B bytes start error.Memory = Unit {0}

-- a reader gives what is spelled from the place on, and the place behind it; or it says why it gives nothing
abbrev pub Reads : {A : Type 0} → (A → Spellings) → List ℕ → ℕ → Result (A × ℕ) CodeError → Type 0
Reads B bytes start (Ok found) = IsAt B bytes start found.1 found.0
Reads B bytes start (Err error) = Refuses B bytes start error

-- a reader that takes no memory gives what is spelled from the place on, and the place behind it; or no spelling begins there
abbrev pub Finds : {A : Type 0} → (A → Spellings) → List ℕ → ℕ → Result (A × ℕ) Malformed → Type 0
Finds B bytes start (Ok found) = IsAt B bytes start found.1 found.0
Finds B bytes start (Err malformed) = NoneAt B bytes start

-- what is left of a spelling behind its first byte
abbrev pub behind : {A : Type 0} → (A → Spellings) → ℕ → A → Spellings
behind B first x rest = B x (first ∷ rest)

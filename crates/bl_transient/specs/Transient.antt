-- The transient rules: which variables are transient, and which sets of protected sites pass; also where it is asked of
-- variables to be transient or stable.
use Rattle.std.specs.Prelude.{◌⊎◌, ℕ, Bool, false, IsTrue, not}
use Rattle.bl_program.specs.Sites.{IsLoad, Writes, Reads, SinkReads}
use Rattle.bl_program.specs.declared.definitions.ProgramParts.{ProgramParts as Program}

-- what is asked of variables beside the rules: that some be transient, and that some be stable
pub record Asked : Type 0 where
  pub transient : ℕ → Bool
  pub stable : ℕ → Bool

abbrev pub nothing : Asked
nothing = record { transient = λ x. false; stable = λ x. false }

-- a typing, for which true stands for transient, keeps the rules on what sites write, where those of a set are protected, and
-- has as transient what is asked to be
pub record AssignsUnder (asked : Asked) (program : Program) (typing set : ℕ → Bool) : Type 0 where
  -- a Load that isn't protected writes a transient variable
  pub loads : (s x : ℕ) → IsLoad program s → Writes program s x → IsTrue (not (set s)) → IsTrue (typing x)
  -- a Set, Arg or Out that isn't protected and reads a transient variable writes a transient one
  pub moves : (s x y : ℕ) → Reads program s x → Writes program s y → IsTrue (not (set s)) → IsTrue (typing x) → IsTrue (typing y)
  -- what is asked to be transient is
  pub given : (x : ℕ) → IsTrue (asked.transient x) → IsTrue (typing x)

-- a typing keeps all transient rules, and has as stable what is asked to be
pub record FlowsUnder (asked : Asked) (program : Program) (typing set : ℕ → Bool) : Type 0 where
  pub assigns : AssignsUnder asked program typing set
  -- each variable that a sink reads is stable
  pub sinks : (position x : ℕ) → SinkReads program position x → IsTrue (not (typing x))
  -- what is asked to be stable is
  pub stable : (x : ℕ) → IsTrue (asked.stable x) → IsTrue (not (typing x))

-- some typing keeps all transient rules and has what is asked
abbrev pub PassesUnder : Asked → Program → (ℕ → Bool) → Type 0
PassesUnder asked program set = (typing : ℕ → Bool) × FlowsUnder asked program typing set

-- the least set of variables that keeps the rules on what sites write, and has what is asked to be transient
pub data TransUnder (asked : Asked) (program : Program) (set : ℕ → Bool) : ℕ → Type 0 where
  loaded : (s x : ℕ) → IsLoad program s → Writes program s x → IsTrue (not (set s)) → TransUnder asked program set x
  moved : (s x y : ℕ) → Reads program s x → Writes program s y → IsTrue (not (set s)) → TransUnder asked program set x
      → TransUnder asked program set y
  given : (x : ℕ) → IsTrue (asked.transient x) → TransUnder asked program set x

-- a Load, or a site that reads a transient variable
abbrev pub IsFedUnder : Asked → Program → (ℕ → Bool) → ℕ → Type 0
IsFedUnder asked program set s = IsLoad program s ⊎ ((x : ℕ) × Reads program s x × TransUnder asked program set x)

-- ---- the same where nothing is asked

abbrev pub Assigns : Program → (ℕ → Bool) → (ℕ → Bool) → Type 0
Assigns = AssignsUnder nothing

abbrev pub Flows : Program → (ℕ → Bool) → (ℕ → Bool) → Type 0
Flows = FlowsUnder nothing

abbrev pub Passes : Program → (ℕ → Bool) → Type 0
Passes = PassesUnder nothing

abbrev pub Trans : Program → (ℕ → Bool) → ℕ → Type 0
Trans = TransUnder nothing

abbrev pub IsFed : Program → (ℕ → Bool) → ℕ → Type 0
IsFed = IsFedUnder nothing

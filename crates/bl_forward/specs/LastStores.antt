-- Where a load finds its bytes, in the rule's words: in memory, where no ready store before it meets its range; in the last one that does,
-- where that has the same range; else nowhere.
use Rattle.std.specs.Prelude.{◌≡◌, ℕ, Bool, true, false, List, ◌∷◌, ◌++◌, Option, Some, None}
use Rattle.std.specs.List.{All}
use Rattle.bl_ops.specs.Access.{narrowed, width_of}
use Rattle.bl_program.specs.Steps.{effective}
use Rattle.bl_program.specs.declared.definitions.ProgramParts.{ProgramParts as Program}
use Rattle.bl_rob.specs.declared.entry.Entry.{Entry}
use Rattle.bl_rob.specs.declared.entry.Work.{Work}
use Rattle.bl_rob.specs.declared.entry.Work.TheVariants.{Ready}
use Rattle.bl_forward.specs.ForwardMachines.{meets}
use Rattle.bl_forward.specs.declared.find.Found.{Found}
use Rattle.bl_forward.specs.declared.find.Found.TheVariants.{Memory, Stored, Blocked}

-- a ready store: where its bytes begin, how many they are, and the number that they are
pub record Waiting : Type 0 where
  pub at : ℕ
  pub count : ℕ
  pub number : ℕ

abbrev pub waiting : Program → Work → Option Waiting
waiting program (Ready kind memory offset address value) =
    Some (record { at = effective program memory offset address; count = width_of kind; number = narrowed kind value })
waiting program _ = None

-- it is one that meets a range of so many bytes from a place on
abbrev pub does_meet : ℕ → ℕ → Option Waiting → Bool
does_meet from width None = false
does_meet from width (Some store) = meets store.at store.count from width

-- no entry is
abbrev pub NoneMeets : Program → ℕ → ℕ → List Entry → Type 0
NoneMeets program from width entries = All (λ entry. does_meet from width (waiting program entry.work) ≡ false) entries

-- the last entry that is one
pub record LastStore (program : Program) (from width : ℕ) (entries : List Entry) (store : Waiting) : Type 0 where
  pub before : List Entry
  pub entry : Entry
  pub behind : List Entry
  pub parts : entries ≡ before ++ entry ∷ behind
  pub is : waiting program entry.work ≡ Some store
  pub here : meets store.at store.count from width ≡ true
  pub none : NoneMeets program from width behind

pub data Finds (program : Program) (from width : ℕ) (entries : List Entry) : Found → Type 0 where
  in_memory : NoneMeets program from width entries → Finds program from width entries Memory
  stored : (store : Waiting) → LastStore program from width entries store → store.at ≡ from → store.count ≡ width
      → Finds program from width entries (Stored store.number)
  blocked : (store : Waiting) → LastStore program from width entries store → (store.at ≡ from → store.count ≡ width → ⊥)
      → Finds program from width entries Blocked

-- What is visible behind entries, in the rule's words: what the last of them that writes the register has, where it is done; the
-- register's own value where none of them writes it.
use Rattle.std.specs.Prelude.{◌≡◌, ℕ, Bool, true, false, List, ◌∷◌, ◌++◌, Option, Some, None}
use Rattle.std.specs.List.{All}
use Rattle.bl_program.specs.Steps.{Registers}
use Rattle.bl_rob.specs.Machines.{is_at}
use Rattle.bl_rob.specs.declared.entry.Entry.{Entry}
use Rattle.bl_rob.specs.declared.entry.Register.{Register}
use Rattle.bl_rob.specs.declared.entry.Work.{Work}
use Rattle.bl_rob.specs.declared.entry.Work.TheVariants.{Assign, Load, Held, Done}

-- the register that an entry writes
abbrev pub target_of : Work → Option Register
target_of (Assign protect op to a b c) = Some to
target_of (Load protect kind memory to offset address) = Some to
target_of (Held to value) = Some to
target_of (Done to value) = Some to
target_of _ = None

abbrev pub is_target : Option Register → Register → Bool
is_target None x = false
is_target (Some to) x = is_at to x.depth x.var

-- an entry writes a register
abbrev pub writes : Entry → Register → Bool
writes entry x = is_target (target_of entry.work) x

-- the value of an entry, where it is done; a held one isn't
abbrev pub value_of : Work → Option ℕ
value_of (Done to value) = Some value
value_of _ = None

-- no entry writes a register
abbrev pub NoneWrites : List Entry → Register → Type 0
NoneWrites entries x = All (λ entry. writes entry x ≡ false) entries

-- what is visible of a register behind entries
pub data Sees (registers : Registers) (entries : List Entry) (x : Register) : Option ℕ → Type 0 where
  -- the last entry that writes it decides
  written : (before : List Entry) (writer : Entry) (behind : List Entry) → entries ≡ before ++ writer ∷ behind → writes writer x ≡ true
      → NoneWrites behind x → Sees registers entries x (value_of writer.work)
  -- none writes it
  unwritten : NoneWrites entries x → Sees registers entries x (Some (registers x.depth x.var))

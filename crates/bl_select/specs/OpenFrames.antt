-- The frames of open calls, above the running frame: the part of a relation over whole runs that no template changes.
use Rattle.std.specs.Prelude.{◌≡◌, ℕ, suc, ◌+◌, ◌<◌, ◌≤◌, IsTrue, List, [], ◌∷◌, length}
use Rattle.bl_base.specs.Bytes.{number_of}
use Rattle.bl_program.specs.Layout.{statics}
use Rattle.bl_program.specs.Steps.{Registers}
use Rattle.bl_program.specs.declared.definitions.ProgramParts.{ProgramParts as Program}
use Rattle.bl_x64.specs.Machines.{Areas, Bytes, bytes_at}
use Rattle.bl_select.specs.Frames.{Placing}
use Rattle.bl_select.specs.declared.location.Location.{Location}
use Rattle.bl_select.specs.declared.location.Location.TheVariants.{Register as InRegister, Slot, Context}

-- the frame of a function that waits for a callee: its beginning, its size in bytes, the position at which the run goes on after the call, and
-- the placing there
pub record OpenFrame : Type 0 where
  pub base : ℕ
  pub size : ℕ
  pub back : ℕ
  pub placing : Placing

-- a variable of an open frame is in a slot of this frame, which holds its number
abbrev pub IsKept : OpenFrame → Bytes → ℕ → Location → Type 0
IsKept o memory number (InRegister r) = ⊥
IsKept o memory number (Slot at) = (at + 8 ≤ o.size) × (number_of (bytes_at memory (o.base + at) 8) ≡ number)
IsKept o memory number (Context at) = ⊥

-- the open frames next to the chain of a plain run: the innermost frame first, each above the one before it, all within the slots. Every variable
-- that is alive after the call, except globals and sizes, is in a slot of its frame with its number at the frame's depth
abbrev pub AreOpen : Program → Areas → List OpenFrame → List ℕ → Registers → Bytes → ℕ → Type 0
AreOpen program areas [] [] registers memory low = Unit {0}
AreOpen program areas (o ∷ frames) [] registers memory low = ⊥
AreOpen program areas [] (back ∷ chain) registers memory low = ⊥
AreOpen program areas (o ∷ frames) (back ∷ chain) registers memory low =
    (low ≤ o.base) × (o.base + o.size ≤ areas.slots.start + areas.slots.size) × (back ≡ o.back)
    × ((x : ℕ) → statics program ≤ x → IsTrue (o.placing.alive x) → IsKept o memory (registers (suc (length chain)) x) (o.placing.location x))
    × AreOpen program areas frames chain registers memory (o.base + o.size)

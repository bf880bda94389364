-- The locations of variables if none of them is in a register: the variables of no function (globals and sizes) are in the context, and each variable
-- of a function is in a slot of its frame. A variable has 8 bytes, and its displacement is 8 times its number among the variables of the context or of
-- its function.
use Rattle.std.specs.Prelude.{ℕ, suc, ◌+◌, ◌-◌, ◌*◌, ◌^◌, ◌<◌, ◌≤◌, Bool, IsTrue, ◌&&◌, ◌||◌, nat_lt, nat_le, if◌then◌else◌}
use Rattle.bl_program.specs.Layout.{statics, first_of, running}
use Rattle.bl_program.specs.declared.definitions.ProgramParts.{ProgramParts as Program}
use Rattle.bl_select.specs.Frames.{Frame, Placing}
use Rattle.bl_select.specs.Selection.{Selection}
use Rattle.bl_select.specs.declared.location.Location.{Location}
use Rattle.bl_select.specs.declared.location.Location.TheVariants.{Slot, Context}
use Rattle.bl_layout.specs.declared.slots.Slots.{Slots}

-- ---- the variables that commands of one function may name

-- where a variable is
abbrev pub location_in : Slots → ℕ → Location
location_in slots x = if nat_lt x slots.statics then Context (8 * x) else Slot (8 * (x - slots.first))

-- a global, a size, or a variable of the function
abbrev pub is_alive_in : Slots → ℕ → Bool
is_alive_in slots x = nat_lt x slots.statics || (nat_le slots.first x && nat_lt x slots.next)

-- their placing
abbrev pub placing_in : Slots → Placing
placing_in slots = record { location = location_in slots; alive = is_alive_in slots }

-- the displacements of all of them are below 2 ^ 31
pub record AreFew (slots : Slots) : Type 0 where
  pub context : slots.statics ≤ 2 ^ 28
  pub frame : slots.next ≤ slots.first + 2 ^ 28

-- ---- the variables at a position of a program

-- those of a function
abbrev pub slots_of : Program → ℕ → Slots
slots_of program function = record { statics = statics program; first = first_of program function; next = first_of program (suc function) }

-- those of no function
abbrev pub slots_outside : Program → Slots
slots_outside program = record { statics = statics program; first = 0; next = 0 }

-- positions 0 to 6 are the traps, which belong to no function
abbrev pub slots_at : Program → ℕ → Slots
slots_at program position = if nat_lt position 7 then slots_outside program else slots_of program (running program position)

-- the placing at a position
abbrev pub placing_at : Program → ℕ → Placing
placing_at program position = placing_in (slots_at program position)

-- the choice of locations for a whole program, given the running frame and the first instruction of each command
abbrev pub selection_of : Program → Frame → (ℕ → ℕ) → Selection
selection_of program frame begins = record { frame = frame; placing = placing_at program; begins = begins }

-- ---- frames

-- a frame that is large enough for the variables of each function, and a context that is large enough for the variables of none. Both have less than
-- 2 ^ 31 bytes
pub record HasRoom (program : Program) (frame : Frame) : Type 0 where
  pub context : 8 * statics program ≤ frame.areas.context.size
  pub context_short : frame.areas.context.size < 2 ^ 31
  pub slots : (function : ℕ) → 8 * (first_of program (suc function) - first_of program function) ≤ frame.size
  pub slots_short : frame.size < 2 ^ 31

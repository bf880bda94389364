-- Words for laws about what templates show, and about their lengths.
use Rattle.std.specs.Prelude.{◌≡◌, ℕ, true, false, IsTrue, Option, Some, None}
use Rattle.bl_x64.specs.Machines.{Core}
use Rattle.bl_x64.specs.declared.register.Register.TheVariants.{Rsp, R15}
use Rattle.bl_select.specs.Frames.{is_free}
use Rattle.bl_select.specs.declared.location.Location.{Location}
use Rattle.bl_select.specs.declared.location.Location.TheVariants.{Register as InRegister, Slot, Context}
use Rattle.bl_select.specs.declared.location.Shape.{Shape}
use Rattle.bl_select.specs.declared.location.Shape.TheVariants.{Outside, Divide}

-- two states with the same beginnings of the frame and of the context
pub record SameBases (c d : Core) : Type 0 where
  pub slots : c.registers Rsp ≡ d.registers Rsp
  pub context : c.registers R15 ≡ d.registers R15

-- a location that a variable may have
abbrev pub IsWritable : Location → Type 0
IsWritable (InRegister r) = IsTrue (is_free r)
IsWritable l = Unit {0}

-- a run of instructions reaches their end: none of them jumps, calls, returns or is stuck
abbrev pub Ends : Option Core → Type 0
Ends None = ⊥
Ends (Some c) = Unit {0}

-- the greatest number of instructions of a Set of a shape
abbrev pub most_of : Shape → ℕ
most_of Outside = 13
most_of (Divide false rest size) = 12
most_of (Divide true rest size) = 21
most_of shape = 7

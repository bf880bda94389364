-- A part's numbers in the joined program, as the code has them: by tables, and for either part in the same way.
use Rattle.std.specs.Prelude.{◌≡◌, ◌<◌, ◌+◌, ◌^◌, ℕ, List, length, Option, Some, None, option_map, unwrap_or, slice_get}
use Rattle.bl_program.specs.Layout.{first_of}
use Rattle.bl_program.specs.Rules.{Rule2}
use Rattle.bl_program.specs.Layout.{AreValues}
use Rattle.bl_program.specs.declared.definitions.ProgramParts.{ProgramParts as Program}
use Rattle.bl_iface.specs.JoinedProgram.{Renaming, goes, moved_position, moved_var, read_from}
use Rattle.bl_iface.specs.MovableNumbers.{IsSmall}
use Rattle.bl_iface.specs.declared.iface.Iface.{Iface}
use Rattle.bl_iface.specs.declared.numbers.Numbers.{Numbers}
use Rattle.bl_iface.specs.declared.shift.Shift.{Shift}

-- where a function goes, by a table; nowhere behind the table's end
abbrev pub goal_in : List (Option ℕ) → ℕ → Option ℕ
goal_in goals f = unwrap_or (slice_get goals f) None

-- the table says where each function of the client goes
abbrev pub LeadsTo : Iface → Program → Program → List (Option ℕ) → Type 0
LeadsTo iface client library goals = (f : ℕ) → goal_in goals f ≡ goes iface client library f

-- a part's numbers, if its functions go to those of the other part
abbrev pub numbers_from : (ℕ → Option ℕ) → Shift → Program → Shift → Program → Renaming
numbers_from goal shift part other_shift other = record {
  read = read_from goal shift part other_shift other;
  write = moved_var shift part;
  callee = λ f. unwrap_or (option_map (λ g. other_shift.functions + g) (goal f)) (shift.functions + f);
  memory = λ m. shift.memories + m;
  position = moved_position shift;
}

abbrev pub numbers_by : Numbers → Renaming
numbers_by n = numbers_from (goal_in n.goals.now) n.shift n.part.now n.other_shift n.other.now

-- the tables are those of two programs that have room beside each other
pub record AreNumbers (n : Numbers) : Type 0 where
  pub rule : Rule2 n.part.now
  pub other_rule : Rule2 n.other.now
  pub firsts : AreValues (first_of n.part.now) (length n.part.now.functions) n.firsts.now
  pub other_firsts : AreValues (first_of n.other.now) (length n.other.now.functions) n.other_firsts.now
  pub exist : (f g : ℕ) → goal_in n.goals.now f ≡ Some g → g < length n.other.now.functions
  pub room : first_of n.part.now (length n.part.now.functions) + first_of n.other.now (length n.other.now.functions) < 2 ^ 31
  pub small : IsSmall n.other_shift (2 ^ 31)
  pub functions : n.other_shift.functions + length n.other.now.functions < 2 ^ 32

-- How long templates are.
use Rattle.std.proofs.Common.{ℕ, ◌+◌, ◌≤◌, Bool, true, false, length, arith, length-append}
use Rattle.bl_ops.specs.declared.op.Op.{Op}
use Rattle.bl_ops.specs.declared.access.AccessKind.{AccessKind}
use Rattle.bl_select.specs.Shapes.{shape_of}
use Rattle.bl_select.specs.Silence.{most_of}
use Rattle.bl_select.specs.Templates.{finish, value, set_template, load_template, store_template}
use Rattle.bl_select.specs.declared.location.Location.{Location}
use Rattle.bl_select.specs.declared.location.Shape.{Shape}
use Rattle.bl_select.specs.declared.location.Shape.TheVariants as shape
use Rattle.bl_select.specs.declared.location.Source.{Source}
use Rattle.bl_select.proofs.Silence.{set_short}

finish_some : (protect : Bool) (to : Location) → 1 ≤ length (finish protect to)
finish_some true to = omega arith
finish_some false to = omega arith

finish_few : (protect : Bool) (to : Location) → length (finish protect to) ≤ 2
finish_few true to = omega arith
finish_few false to = omega arith

most_is : (s : Shape) → most_of s ≤ 21
most_is shape.Outside = omega arith
most_is (shape.Divide true rest size) = omega arith
most_is (shape.Divide false rest size) = omega arith
most_is s = omega arith

pub set_length : (protect : Bool) (op : Op) (to : Location) (a b c : Source) → (1 ≤ length (set_template protect op to a b c)) × (length (set_template protect op to a b c) ≤ 21)
set_length protect op to a b c =
    (omega (arith, length-append (value (shape_of op) a b c) (finish protect to), finish_some protect to), omega (arith, set_short protect op to a b c, most_is (shape_of op)))

pub load_length : (protect : Bool) (kind : AccessKind) (to : Location) (offset : ℕ) (a : Source)
    → (1 ≤ length (load_template protect kind to offset a)) × (length (load_template protect kind to offset a) ≤ 21)
load_length protect kind to offset a = (omega arith, omega (arith, finish_few protect to))

pub store_length : (kind : AccessKind) (offset : ℕ) (a b : Source) → (1 ≤ length (store_template kind offset a b)) × (length (store_template kind offset a b) ≤ 21)
store_length kind offset a b = (omega arith, omega arith)

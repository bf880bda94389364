-- What a site makes its value of, and what a sink reads, is among the operands of its command.
use Rattle.std.proofs.Common.{ℕ, Bool, true, false, [], ◌∷◌, inl, inr}
use Rattle.std.specs.Prelude.{if◌then◌else◌}
use Rattle.bl_ops.specs.OperatorTable.{is_division}
use Rattle.bl_program.specs.Rules.{operands_of}
use Rattle.bl_program.specs.Sites.{Among, moved_by, sunk_by}
use Rattle.bl_program.specs.declared.command.Operand.{Operand}
use Rattle.bl_program.specs.declared.command.Command.{Command}
use Rattle.bl_program.specs.declared.command.Command.TheVariants.{Set, Load, Store, Test, Arg, Out}

pub moved_in : (command : Command) (x : ℕ) → Among (moved_by command) x → Among (operands_of command) x
moved_in (Set mark op to a b c) x h = h
moved_in (Arg mark function index value) x h = h
moved_in (Out mark index value) x h = h
moved_in _ x h = absurd h

first_two : (divides : Bool) (a b c : Operand) (x : ℕ) → Among (if divides then a ∷ b ∷ [] else []) x → Among (a ∷ b ∷ c ∷ []) x
first_two true a b c x (inl h) = inl h
first_two true a b c x (inr (inl h)) = inr (inl h)
first_two true a b c x (inr (inr h)) = absurd h
first_two false a b c x h = absurd h

pub sunk_in : (command : Command) (x : ℕ) → Among (sunk_by command) x → Among (operands_of command) x
sunk_in (Set mark op to a b c) x h = first_two (is_division op) a b c x h
sunk_in (Load mark kind memory to offset address) x h = h
sunk_in (Store kind memory offset address value) x (inl h) = inl h
sunk_in (Store kind memory offset address value) x (inr h) = absurd h
sunk_in (Test cond one other) x h = h
sunk_in _ x h = absurd h

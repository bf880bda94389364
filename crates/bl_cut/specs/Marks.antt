-- Programs with other protects.
use Rattle.std.specs.Prelude.{ℕ, suc, Bool, List, [], ◌∷◌}
use Rattle.bl_program.specs.declared.command.Mark.{Mark}
use Rattle.bl_program.specs.declared.command.Command.{Command}
use Rattle.bl_program.specs.declared.command.Command.TheVariants.{Set, Load, Store, Test, Jump, Arg, Call, Out, Ret, Trap}
use Rattle.bl_program.specs.declared.definitions.ProgramParts.{ProgramParts as Program}

-- a mark with or without a protect
abbrev pub guarded : Bool → Mark → Mark
guarded protect mark = record { depth = mark.depth; protect = protect }

-- a command, which has a protect or none where it is one of a site
abbrev pub marked : Bool → Command → Command
marked protect (Set mark op to a b c) = Set (guarded protect mark) op to a b c
marked protect (Load mark kind memory to offset address) = Load (guarded protect mark) kind memory to offset address
marked protect (Store kind memory offset address value) = Store kind memory offset address value
marked protect (Test cond one other) = Test cond one other
marked protect (Jump to) = Jump to
marked protect (Arg mark function index value) = Arg (guarded protect mark) function index value
marked protect (Call function) = Call function
marked protect (Out mark index value) = Out (guarded protect mark) index value
marked protect Ret = Ret
marked protect (Trap kind) = Trap kind

-- commands from a position on, of which those at sites of a set have a protect and the others none
abbrev pub marked_from : (ℕ → Bool) → ℕ → List Command → List Command
marked_from set position [] = []
marked_from set position (command ∷ commands) = marked (set position) command ∷ marked_from set (suc position) commands

-- the program in which exactly the sites of a set are protected
abbrev pub protected : (ℕ → Bool) → Program → Program
protected set program = record program { commands = marked_from set 0 program.commands }

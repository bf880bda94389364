-- Which facts a command needs, makes and loses, and definite programs: each command finds the facts that it needs, on each way to it.
--
-- In a plain run a variable that was never written is 0, and one that an earlier call at the same depth wrote still has its number. The
-- variables of a language with calls of its own, and the slots of a frame in memory, don't keep that. In a definite program no command reads
-- such a number.
use Rattle.std.specs.Prelude.{◌≡◌, ◌≢◌, ◌⊎◌, ◌<◌, ◌≤◌, ◌+◌, ℕ, suc, Bool, true, List, length, Some}
use Rattle.bl_program.specs.Layout.{first_of, params_of, results_of, entry_of, command_at, Holds}
use Rattle.bl_program.specs.Rules.{IsLocal, IsResult, operands_of, GoesTo, Leaves}
use Rattle.bl_program.specs.Sites.{Among}
use Rattle.bl_program.specs.declared.command.Operand.{Operand}
use Rattle.bl_program.specs.declared.command.Command.{Command}
use Rattle.bl_program.specs.declared.command.Command.TheVariants as command
use Rattle.bl_program.specs.declared.definitions.ProgramParts.{ProgramParts as Program}
use Rattle.bl_definite.specs.declared.facts.Fact.{Fact}
use Rattle.bl_definite.specs.declared.facts.Fact.TheVariants.{Own, Argument, Returned, Given}

-- ---- what a command does to facts

-- a Set or a Load writes a variable; an Arg gives a parameter a value, and an Out a result; behind a Call its function's results can be read
abbrev pub Makes : Command → Fact → Type 0
Makes (command.Set mark op to a b c) fact = fact ≡ Own to.0
Makes (command.Load mark kind memory to offset address) fact = fact ≡ Own to.0
Makes (command.Arg mark function index value) fact = fact ≡ Argument function index
Makes (command.Call function) fact = fact ≡ Returned function
Makes (command.Out mark index value) fact = fact ≡ Given index
Makes _ fact = ⊥

-- behind a Call no parameter has its value any more, nor have the results of other functions
abbrev pub IsLostBy : ℕ → Fact → Type 0
IsLostBy function (Argument other index) = Unit {0}
IsLostBy function (Returned other) = other ≢ function
IsLostBy function _ = ⊥

abbrev pub Loses : Command → Fact → Type 0
Loses (command.Call function) fact = IsLostBy function fact
Loses _ fact = ⊥

-- a position follows the command at another one in the same call: the command names it, or goes on to it
abbrev pub Follows : Command → ℕ → ℕ → Type 0
Follows here from position = GoesTo here position ⊎ ((position ≡ suc from) × (Leaves here → ⊥))

-- ---- where a fact is lacking

-- at a function's entry its parameters have their values, and nothing else is known
abbrev pub IsKnownAtEntry : Program → ℕ → Fact → Type 0
IsKnownAtEntry program function (Own x) = (first_of program function ≤ x) × (x < first_of program function + params_of program function)
IsKnownAtEntry program function _ = ⊥

-- a stretch of control leads to the position, and the fact isn't made on it. The stretch begins at a function's entry, where the fact isn't
-- known, or right behind a command that loses the fact
pub data Lacks (program : Program) (fact : Fact) : ℕ → Type 0 where
  begins : (function position : ℕ) → function < length program.functions → position ≡ entry_of program function
      → (IsKnownAtEntry program function fact → ⊥) → Lacks program fact position
  lost : (from position : ℕ) (here : Command) → command_at program from ≡ Some here → Follows here from position
      → Loses here fact → Lacks program fact position
  goes_on : (from position : ℕ) (here : Command) → command_at program from ≡ Some here → Follows here from position
      → (Makes here fact → ⊥) → Lacks program fact from → Lacks program fact position

-- ---- what a command needs

-- a variable of the function is written before it is read, and a result of any function is read behind its Call. Globals and sizes need nothing
pub data Reads (program : Program) (function : ℕ) (operands : List Operand) (fact : Fact) : Type 0 where
  own : (x : ℕ) → Among operands x → IsLocal program function x → fact ≡ Own x → Reads program function operands fact
  returned : (x any : ℕ) → Among operands x → IsResult program any x → fact ≡ Returned any → Reads program function operands fact

-- a value of a parameter of that function
abbrev pub IsArgument : Program → ℕ → Fact → Type 0
IsArgument program callee fact = (index : ℕ) × (index < params_of program callee) × (fact ≡ Argument callee index)

-- a value of a result of that function
abbrev pub IsGiven : Program → ℕ → Fact → Type 0
IsGiven program function fact = (index : ℕ) × (index < results_of program function) × (fact ≡ Given index)

-- a Call finds a value of each parameter, a Ret finds one of each result, and another command finds what it reads
abbrev pub Needs : Program → ℕ → Command → Fact → Type 0
Needs program function (command.Call callee) fact = IsArgument program callee fact
Needs program function command.Ret fact = IsGiven program function fact
Needs program function here fact = Reads program function (operands_of here) fact

-- ---- definite programs

-- the command at a position of a function needs no fact that is lacking there
abbrev pub IsDefiniteAt : Program → ℕ → ℕ → Type 0
IsDefiniteAt program function position =
    (here : Command) (fact : Fact) → command_at program position ≡ Some here → Needs program function here fact → Lacks program fact position → ⊥

-- no command of a function needs a fact that is lacking at its position
abbrev pub IsDefinite : Program → Type 0
IsDefinite program = (function position : ℕ) → Holds program function position → IsDefiniteAt program function position

-- the command at the position needs a fact that is lacking there, and no command at a lesser position does
pub record IsFirstLacking (program : Program) (position : ℕ) : Type 0 where
  pub function : ℕ
  pub here : Command
  pub fact : Fact
  pub holds : Holds program function position
  pub stands : command_at program position ≡ Some here
  pub needs : Needs program function here fact
  pub lacks : Lacks program fact position
  pub before : (other from : ℕ) → from < position → Holds program other from → IsDefiniteAt program other from

-- each position has a set of facts: at an entry there are only parameters; a fact at a position is made by the command that it follows, or is
-- at that command and isn't lost by it; and each command finds the facts that it needs
pub record AreKnown (program : Program) (known : ℕ → Fact → Bool) : Type 0 where
  pub entries : (function : ℕ) (fact : Fact) → function < length program.functions → known (entry_of program function) fact ≡ true
      → IsKnownAtEntry program function fact
  pub along : (from position : ℕ) (here : Command) (fact : Fact) → command_at program from ≡ Some here → Follows here from position
      → known position fact ≡ true → Makes here fact ⊎ ((Loses here fact → ⊥) × (known from fact ≡ true))
  pub found : (function position : ℕ) (here : Command) (fact : Fact) → Holds program function position → command_at program position ≡ Some here
      → Needs program function here fact → known position fact ≡ true

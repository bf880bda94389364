-- Sites: what they write and read, where values must not come of a guess, and what a protect costs.
use Rattle.std.specs.Prelude.{◌≡◌, ◌⊎◌, ℕ, ◌^◌, ◌==◌, Bool, false, if◌then◌else◌, IsSome, IsSomeAnd, List, [], ◌∷◌, length, find, Option, Some, None, option_map, option_and_then, unwrap_or}
use Rattle.bl_base.specs.Sums.{sum_below}
use Rattle.bl_ops.specs.OperatorTable.{is_division}
use Rattle.bl_program.specs.Layout.{param, result, running, command_at}
use Rattle.bl_program.specs.declared.command.Operand.{Operand}
use Rattle.bl_program.specs.declared.command.Operand.TheVariants.{Var, Const}
use Rattle.bl_program.specs.declared.command.Mark.{Mark}
use Rattle.bl_program.specs.declared.command.Command.{Command}
use Rattle.bl_program.specs.declared.command.Command.TheVariants.{Set, Load, Store, Test, Arg, Out}
use Rattle.bl_program.specs.declared.definitions.SiteWeight.{SiteWeight}
use Rattle.bl_program.specs.declared.definitions.ProgramParts.{ProgramParts as Program}

-- ---- operands

-- an operand is that variable
abbrev pub Names : Operand → ℕ → Type 0
Names (Var y) x = y.0 ≡ x
Names (Const number) x = ⊥

-- one of the operands is that variable
abbrev pub Among : List Operand → ℕ → Type 0
Among [] x = ⊥
Among (operand ∷ operands) x = Names operand x ⊎ Among operands x

-- ---- what stands at a site: a Set, a Load, an Arg or an Out

-- the mark of a site's command
abbrev pub mark_of : Command → Option Mark
mark_of (Set mark op to a b c) = Some mark
mark_of (Load mark kind memory to offset address) = Some mark
mark_of (Arg mark function index value) = Some mark
mark_of (Out mark index value) = Some mark
mark_of _ = None

-- the command is a Load
abbrev pub Loads : Command → Type 0
Loads (Load mark kind memory to offset address) = Unit {0}
Loads _ = ⊥

-- the variable that the command at a position writes, where it writes one
abbrev pub written_by : Program → ℕ → Command → Option ℕ
written_by program position (Set mark op to a b c) = Some to.0
written_by program position (Load mark kind memory to offset address) = Some to.0
written_by program position (Arg mark function index value) = Some (param program function index)
written_by program position (Out mark index value) = Some (result program (running program position) index)
written_by program position _ = None

-- the operands that a Set, an Arg or an Out makes its value of
abbrev pub moved_by : Command → List Operand
moved_by (Set mark op to a b c) = a ∷ b ∷ c ∷ []
moved_by (Arg mark function index value) = value ∷ []
moved_by (Out mark index value) = value ∷ []
moved_by _ = []

-- sinks, the operands that an observer learns of: the condition of a Test, the address of a Load or Store, and both operands
-- of a quotient or remainder
abbrev pub sunk_by : Command → List Operand
sunk_by (Set mark op to a b c) = if is_division op then a ∷ b ∷ [] else []
sunk_by (Load mark kind memory to offset address) = address ∷ []
sunk_by (Store kind memory offset address value) = address ∷ []
sunk_by (Test cond one other) = cond ∷ []
sunk_by _ = []

-- ---- the relations over a program

-- a Load stands there
abbrev pub IsLoad : Program → ℕ → Type 0
IsLoad program s = IsSomeAnd (command_at program s) Loads

-- the site writes the variable
abbrev pub Writes : Program → ℕ → ℕ → Type 0
Writes program s x = IsSomeAnd (command_at program s) (λ command. written_by program s command ≡ Some x)

-- a Set, Arg or Out there reads the variable
abbrev pub Reads : Program → ℕ → ℕ → Type 0
Reads program s x = IsSomeAnd (command_at program s) (λ command. Among (moved_by command) x)

-- a sink there reads the variable
abbrev pub SinkReads : Program → ℕ → ℕ → Type 0
SinkReads program position x = IsSomeAnd (command_at program position) (λ command. Among (sunk_by command) x)

-- ---- marks and weights

-- the mark of the site, where a site stands there
abbrev pub mark_at : Program → ℕ → Option Mark
mark_at program s = option_and_then mark_of (command_at program s)

-- whether a protect stands there
abbrev pub is_protected : Program → ℕ → Bool
is_protected program s = unwrap_or (option_map (λ mark. mark.protect) (mark_at program s)) false

-- the weight that is listed for a position, where one is
abbrev pub listed : List SiteWeight → ℕ → Option ℕ
listed weights s = option_map (λ entry. entry.weight) (find (λ entry. entry.at.0 == s) weights)

-- the weight of a site: the one that is listed for it, else 10 to the depth of its mark; none where no site stands there
abbrev pub site_weight : Program → ℕ → Option ℕ
site_weight program s = option_map (λ mark. unwrap_or (listed program.weights s) (10 ^ mark.depth)) (mark_at program s)

-- a site stands there
abbrev pub IsSite : Program → ℕ → Type 0
IsSite program s = IsSome (site_weight program s)

-- the weight of a set: the sum over its sites
abbrev pub weight_of : Program → (ℕ → Bool) → ℕ
weight_of program set = sum_below (length program.commands) (λ s. if set s then unwrap_or (site_weight program s) 0 else 0)

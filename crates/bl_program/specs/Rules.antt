-- The nine rules of well-formed programs, and the first one that is broken.
use Rattle.std.specs.Prelude.{◌≡◌, ◌≢◌, ◌⊎◌, ◌+◌, ◌*◌, ◌^◌, ◌<◌, ◌≤◌, ℕ, suc, true, IfSome, IsSomeAnd, option_map, List, [], ◌∷◌, length, Option, Some, None, slice_get}
use Rattle.std.specs.List.{All, AllPairs}
use Rattle.bl_base.specs.Fits.{ArgumentFits}
use Rattle.bl_base.specs.Quantity.{limit_of}
use Rattle.bl_base.specs.declared.names.Label.TheVariants.{Public}
use Rattle.bl_base.specs.declared.quantity.Quantity.TheVariants as quantity
use Rattle.bl_ops.specs.Access.{width_of}
use Rattle.bl_ops.specs.declared.op.Op.{Op}
use Rattle.bl_ops.specs.declared.op.Op.TheVariants.{I32Add, I32Sub, I32GtU, Move, Outside}
use Rattle.bl_program.specs.Layout.{sum_before, statics, size_of, first_of, params_of, results_of, result, entry_of, command_at, Holds}
use Rattle.bl_program.specs.Sites.{Among, IsSite, weight_of}
use Rattle.bl_program.specs.declared.command.Operand.{Operand}
use Rattle.bl_program.specs.declared.command.Operand.TheVariants.{Var, Const}
use Rattle.bl_program.specs.declared.command.Mark.{Mark}
use Rattle.bl_program.specs.declared.command.Command.{Command}
use Rattle.bl_program.specs.declared.command.Command.TheVariants.{Set, Load, Store, Test, Jump, Arg, Call, Out, Ret, Trap}
use Rattle.bl_program.specs.declared.definitions.Demand.{Demand}
use Rattle.bl_program.specs.declared.definitions.Demand.TheVariants as demand
use Rattle.bl_program.specs.declared.definitions.ExportDef.{ExportDef}
use Rattle.bl_program.specs.declared.definitions.FunctionDef.{FunctionDef}
use Rattle.bl_program.specs.declared.definitions.MemRow.{MemRow}
use Rattle.bl_program.specs.declared.definitions.MemoryDef.{MemoryDef}
use Rattle.bl_program.specs.declared.definitions.ProgramParts.{ProgramParts as Program}
use Rattle.bl_program.specs.declared.definitions.SiteWeight.{SiteWeight}

-- ---- rule 1: memories

-- a row of 16 bytes isn't all zero, and lies in so many pages
pub record IsRow (pages : ℕ) (row : MemRow) : Type 0 where
  pub filled : All (λ byte. byte ≡ 0) row.bytes → ⊥
  pub within : row.number * 16 + 16 ≤ pages * 65536

-- first pages are at most the reserve, which is within its limit; rows rise, aren't all zero, and lie in the first pages
pub record IsMemory (memory : MemoryDef) : Type 0 where
  pub pages : memory.pages ≤ memory.reserve
  pub reserve : memory.reserve ≤ limit_of quantity.Memory
  pub rising : AllPairs (λ row next. row.number < next.number) memory.rows
  pub rows : All (IsRow memory.pages) memory.rows

-- each memory is one, and all reserves are within their limit
pub record Rule1 (program : Program) : Type 0 where
  pub memories : All IsMemory program.memories
  pub total : sum_before (λ memory. memory.reserve) program.memories (length program.memories) ≤ limit_of quantity.Reserve

-- ---- rule 2: functions and globals

-- a function has a command, and a variable for each parameter and each result
pub record IsFunction (function : FunctionDef) : Type 0 where
  pub command : 1 ≤ function.length
  pub variables : length function.params + length function.results ≤ function.vars

-- there are at most as many functions as all modules may have, and each is one; variables are fewer than 2^31, and commands in their limit;
-- the initial value of a global is one of its type
pub record Rule2 (program : Program) : Type 0 where
  pub functions : length program.functions ≤ limit_of quantity.Modules * limit_of quantity.Functions
  pub each : All IsFunction program.functions
  pub variables : first_of program (length program.functions) < 2 ^ 31
  pub commands : length program.commands ≤ limit_of quantity.Commands
  pub globals : All (λ global. ArgumentFits global.kind global.first) program.globals

-- ---- rule 3: exports

-- no two names are equal, and what they name exists
pub record Rule3 (program : Program) : Type 0 where
  pub distinct : (i j : ℕ) (a b : ExportDef) → slice_get program.exports i ≡ Some a → slice_get program.exports j ≡ Some b
      → a.name ≡ b.name → i ≡ j
  pub exist : All (λ entry. entry.function < length program.functions) program.exports

-- ---- rule 4: variables

-- a variable is one of the function's
abbrev pub IsOwn : Program → ℕ → ℕ → Type 0
IsOwn program function x = (first_of program function ≤ x) × (x < first_of program (suc function))

-- a variable is one of the function's results
abbrev pub IsResult : Program → ℕ → ℕ → Type 0
IsResult program function x = (result program function 0 ≤ x) × (x < result program function (results_of program function))

-- what a command of a function reads is a global, a size, a variable of the function, or a result of any function
abbrev pub IsReadable : Program → ℕ → ℕ → Type 0
IsReadable program function x = (x < statics program) ⊎ IsOwn program function x ⊎ ((any : ℕ) × IsResult program any x)

-- a variable is one of the function's, and isn't a result
abbrev pub IsLocal : Program → ℕ → ℕ → Type 0
IsLocal program function x = IsOwn program function x × (IsResult program function x → ⊥)

-- what it writes by Set or Load is a global, a size, or a variable of the function that isn't a result
abbrev pub IsWritable : Program → ℕ → ℕ → Type 0
IsWritable program function x = (x < statics program) ⊎ IsLocal program function x

-- the operands of a command
abbrev pub operands_of : Command → List Operand
operands_of (Set mark op to a b c) = a ∷ b ∷ c ∷ []
operands_of (Load mark kind memory to offset address) = address ∷ []
operands_of (Store kind memory offset address value) = address ∷ value ∷ []
operands_of (Test cond one other) = cond ∷ []
operands_of (Arg mark function index value) = value ∷ []
operands_of (Out mark index value) = value ∷ []
operands_of _ = []

-- the variable that a Set or a Load writes
abbrev pub assigned_by : Command → Option ℕ
assigned_by (Set mark op to a b c) = Some to.0
assigned_by (Load mark kind memory to offset address) = Some to.0
assigned_by _ = None

pub record Rule4 (program : Program) (function : ℕ) (command : Command) : Type 0 where
  pub reads : (x : ℕ) → Among (operands_of command) x → IsReadable program function x
  pub writes : IfSome (assigned_by command) (IsWritable program function)

-- ---- rule 5: targets

-- the command may go to a position that it names
abbrev pub GoesTo : Command → ℕ → Type 0
GoesTo (Test cond one other) position = (one.0 ≡ position) ⊎ (other.0 ≡ position)
GoesTo (Jump to) position = to.0 ≡ position
GoesTo _ position = ⊥

-- the command never goes to the next position by itself
abbrev pub Leaves : Command → Type 0
Leaves (Test cond one other) = Unit {0}
Leaves (Jump to) = Unit {0}
Leaves Ret = Unit {0}
Leaves (Trap kind) = Unit {0}
Leaves _ = ⊥

-- targets lie in the same function or are the traps 0 to 6; the last command of a function is a Test, Jump, Ret or Trap
pub record Rule5 (program : Program) (function position : ℕ) (command : Command) : Type 0 where
  pub targets : (target : ℕ) → GoesTo command target → (target < 7) ⊎ Holds program function target
  pub last : suc position ≡ entry_of program (suc function) → Leaves command

-- ---- rule 6: numbers in range

-- a mark's depth is at most 6
abbrev pub IsMark : Mark → Type 0
IsMark mark = mark.depth ≤ 6

-- functions of Arg and Call exist, indices of Arg and Out are in range, memories exist, depths of marks are at most 6
abbrev pub Rule6 : Program → ℕ → Command → Type 0
Rule6 program function (Set mark op to a b c) = IsMark mark
Rule6 program function (Load mark kind memory to offset address) = IsMark mark × (memory < length program.memories)
Rule6 program function (Store kind memory offset address value) = memory < length program.memories
Rule6 program function (Arg mark callee index value) =
    IsMark mark × (callee < length program.functions) × (index < params_of program callee)
Rule6 program function (Call callee) = callee < length program.functions
Rule6 program function (Out mark index value) = IsMark mark × (index < results_of program function)
Rule6 program function _ = Unit {0}

-- ---- rules 7 and 8: what stands before an access, and before a write of a size

-- the operand that is a variable
abbrev pub variable : ℕ → Operand
variable x = Var (record { 0 = x })

-- the Set of a variable
abbrev pub assign : Mark → Op → ℕ → Operand → Operand → Operand → Option Command
assign mark op to a b c = Some (Set mark op (record { 0 = to }) a b c)

-- the Test of a variable
abbrev pub branch : ℕ → ℕ → ℕ → Option Command
branch x one other = Some (Test (variable x) (record { 0 = one }) (record { 0 = other }))

-- a position is no function's entry, and no command goes there but by going on to the next position
pub record IsPassed (program : Program) (position : ℕ) : Type 0 where
  pub entries : (function : ℕ) → function < length program.functions → entry_of program function ≢ position
  pub others : (from : ℕ) (command : Command) → command_at program from ≡ Some command → GoesTo command position → ⊥

-- a position is no function's entry, and only the Test before it goes there
pub record IsGuarded (program : Program) (before position : ℕ) : Type 0 where
  pub entries : (function : ℕ) → function < length program.functions → entry_of program function ≢ position
  pub others : (from : ℕ) (command : Command) → command_at program from ≡ Some command → GoesTo command position → from ≡ before

-- an access: its address, its memory, and how far behind the address it ends
pub record Reach : Type 0 where
  pub address : Operand
  pub memory : ℕ
  pub bytes : ℕ

-- the access of a Load or a Store
abbrev pub reach_of : Command → Option Reach
reach_of (Load mark kind memory to offset address) = Some (record { address = address; memory = memory; bytes = offset + width_of kind })
reach_of (Store kind memory offset address value) = Some (record { address = address; memory = memory; bytes = offset + width_of kind })
reach_of _ = None

-- an access at a position stands behind `Set t = Outside address size bytes`, at `first`, and `Test t, yes, position`, all in
-- its function. t is a variable of the function that isn't a result and isn't the address; `yes` is neither of the last two
-- positions, and nothing else comes to them but by going on
pub record IsTested (program : Program) (function position : ℕ) (access : Reach) : Type 0 where
  pub first : ℕ
  pub mark : Mark
  pub t : ℕ
  pub yes : ℕ
  pub place : position ≡ suc (suc first)
  pub within : Holds program function first
  pub set : command_at program first ≡ assign mark Outside t access.address (variable (size_of program access.memory)) (Const access.bytes)
  pub test : command_at program (suc first) ≡ branch t yes position
  pub own : IsLocal program function t
  pub apart : access.address ≢ variable t
  pub away : yes ≢ position
  pub test_passed : IsPassed program (suc first)
  pub guarded : IsGuarded program (suc first) position

-- rule 7
abbrev pub Rule7 : Program → ℕ → ℕ → Command → Type 0
Rule7 program function position command = IfSome (reach_of command) (IsTested program function position)

-- a Set of a memory's size adds the delta to it
pub record IsSum (program : Program) (memory : ℕ) (op : Op) (a c : Operand) : Type 0 where
  pub sum : op ≡ I32Add
  pub from_size : a ≡ variable (size_of program memory)
  pub no_third : c ≡ Const 0

-- a Set of a memory's size at a position stands behind the first four commands of a growth by that delta, from `first` on: r is
-- what the reserve leaves of the size, t whether the delta exceeds it, and `yes` is taken if so; v is the old size. r, t and
-- v are variables of the function that aren't results and aren't the delta; `yes` is none of the last four positions, and
-- nothing else comes to them but by going on
pub record IsGrowth (program : Program) (function position memory : ℕ) (delta : Operand) : Type 0 where
  pub first : ℕ
  pub mark_r : Mark
  pub mark_t : Mark
  pub mark_v : Mark
  pub r : ℕ
  pub t : ℕ
  pub v : ℕ
  pub yes : ℕ
  pub reserve : ℕ
  pub place : position ≡ suc (suc (suc (suc first)))
  pub reserved : option_map (λ defined. defined.reserve) (slice_get program.memories memory) ≡ Some reserve
  pub room : command_at program first ≡ assign mark_r I32Sub r (Const reserve) (variable (size_of program memory)) (Const 0)
  pub exceeds : command_at program (suc first) ≡ assign mark_t I32GtU t delta (variable r) (Const 0)
  pub test : command_at program (suc (suc first)) ≡ branch t yes (suc (suc (suc first)))
  pub old : command_at program (suc (suc (suc first))) ≡ assign mark_v Move v (variable (size_of program memory)) (Const 0) (Const 0)
  pub own_r : IsLocal program function r
  pub own_t : IsLocal program function t
  pub own_v : IsLocal program function v
  pub apart_r : delta ≢ variable r
  pub apart_t : delta ≢ variable t
  pub apart_v : delta ≢ variable v
  pub away : yes ≢ suc (suc (suc first))
  pub passed_t : IsPassed program (suc first)
  pub passed_test : IsPassed program (suc (suc first))
  pub guarded : IsGuarded program (suc (suc first)) (suc (suc (suc first)))
  pub passed_size : IsPassed program position

-- rule 8: only the fifth command of a growth writes a size
abbrev pub Rule8 : Program → ℕ → ℕ → Command → Type 0
Rule8 program function position (Set mark op to a b c) = (memory : ℕ) → memory < length program.memories → to.0 ≡ size_of program memory
    → IsSum program memory op a c × IsGrowth program function position memory b
Rule8 program function position (Load mark kind memory to offset address) =
    (any : ℕ) → any < length program.memories → to.0 ≡ size_of program any → ⊥
Rule8 program function position _ = Unit {0}

-- ---- rule 9: demands and weights

-- a demand stands before another: results before globals, each by rising numbers
abbrev pub Precedes : Demand → Demand → Type 0
Precedes (demand.Result f i) (demand.Result g j) = (f < g) ⊎ ((f ≡ g) × (i < j))
Precedes (demand.Result f i) (demand.Global y) = Unit {0}
Precedes (demand.Global x) (demand.Result g j) = ⊥
Precedes (demand.Global x) (demand.Global y) = x < y

-- a demand names a result that exists, or a global that exists and isn't declared secret
abbrev pub IsDemand : Program → Demand → Type 0
IsDemand program (demand.Result function index) = (function < length program.functions) × (index < results_of program function)
IsDemand program (demand.Global x) = IsSomeAnd (slice_get program.globals x) (λ global. global.label ≡ Public)

-- a weight that is listed is one of a site, and at least 1
pub record IsWeight (program : Program) (entry : SiteWeight) : Type 0 where
  pub site : IsSite program entry.at.0
  pub positive : 1 ≤ entry.weight

-- demands rise and name what exists; weights rise in position and are those of sites; the weights of all sites add up to
-- less than 2^63
pub record Rule9 (program : Program) : Type 0 where
  pub demands_rise : AllPairs Precedes program.demands
  pub demands : All (IsDemand program) program.demands
  pub weights_rise : AllPairs (λ entry next. entry.at.0 < next.at.0) program.weights
  pub weights : All (IsWeight program) program.weights
  pub total : weight_of program (λ _. true) < 2 ^ 63

-- ---- all rules

-- what holds of each command of a function at a position
abbrev pub AtCommand : Program → ℕ → (ℕ → Command → Type 0) → Type 0
AtCommand program position Keeps =
    (function : ℕ) (command : Command) → Holds program function position → command_at program position ≡ Some command
    → Keeps function command

-- a rule holds at a position; rules 1 to 3 and 9 have position 0
abbrev pub Rule4At : Program → ℕ → Type 0
Rule4At program position = AtCommand program position (Rule4 program)

abbrev pub Rule5At : Program → ℕ → Type 0
Rule5At program position = AtCommand program position (λ function. Rule5 program function position)

abbrev pub Rule6At : Program → ℕ → Type 0
Rule6At program position = AtCommand program position (Rule6 program)

abbrev pub Rule7At : Program → ℕ → Type 0
Rule7At program position = AtCommand program position (λ function. Rule7 program function position)

abbrev pub Rule8At : Program → ℕ → Type 0
Rule8At program position = AtCommand program position (λ function. Rule8 program function position)

-- a program that keeps all rules
pub record IsWellFormed (program : Program) : Type 0 where
  pub rule1 : Rule1 program
  pub rule2 : Rule2 program
  pub rule3 : Rule3 program
  pub rule4 : (position : ℕ) → Rule4At program position
  pub rule5 : (position : ℕ) → Rule5At program position
  pub rule6 : (position : ℕ) → Rule6At program position
  pub rule7 : (position : ℕ) → Rule7At program position
  pub rule8 : (position : ℕ) → Rule8At program position
  pub rule9 : Rule9 program

-- a rule is broken at a position
pub data Breaks (rule position : ℕ) (program : Program) : Type 0 where
  memories : rule ≡ 1 → position ≡ 0 → (Rule1 program → ⊥) → Breaks rule position program
  functions : rule ≡ 2 → position ≡ 0 → (Rule2 program → ⊥) → Breaks rule position program
  exports : rule ≡ 3 → position ≡ 0 → (Rule3 program → ⊥) → Breaks rule position program
  variables : rule ≡ 4 → (Rule4At program position → ⊥) → Breaks rule position program
  targets : rule ≡ 5 → (Rule5At program position → ⊥) → Breaks rule position program
  ranges : rule ≡ 6 → (Rule6At program position → ⊥) → Breaks rule position program
  accesses : rule ≡ 7 → (Rule7At program position → ⊥) → Breaks rule position program
  growths : rule ≡ 8 → (Rule8At program position → ⊥) → Breaks rule position program
  demands : rule ≡ 9 → position ≡ 0 → (Rule9 program → ⊥) → Breaks rule position program

-- the rule is broken at the position, none is at a lesser one, and at it none with a lesser number is
pub record IsFirstBroken (rule position : ℕ) (program : Program) : Type 0 where
  pub broken : Breaks rule position program
  pub least_position : (other from : ℕ) → Breaks other from program → position ≤ from
  pub least_rule : (other : ℕ) → Breaks other position program → rule ≤ other

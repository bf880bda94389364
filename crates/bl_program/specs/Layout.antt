-- Where the variables, the commands and the memories of a program stand.
use Rattle.std.specs.Prelude.{◌≡◌, ◌≤◌, ◌<◌, ℕ, zero, suc, ◌+◌, ◌-◌, ◌*◌, nat_lt, if◌then◌else◌, List, [], ◌∷◌, length, Option, option_map, unwrap_or, slice_get, slice_index}
use Rattle.bl_program.specs.declared.command.Command.{Command}
use Rattle.bl_program.specs.declared.definitions.ProgramParts.{ProgramParts as Program}

-- the sum over the items before a place
abbrev pub sum_before : {X : Type 0} → (X → ℕ) → List X → ℕ → ℕ
sum_before f items zero = 0
sum_before f [] (suc place) = 0
sum_before f (item ∷ items) (suc place) = f item + sum_before f items place

-- the number of the item at a place, 0 where there is none
abbrev pub number_at : {X : Type 0} → (X → ℕ) → List X → ℕ → ℕ
number_at f items place = unwrap_or (option_map f (slice_get items place)) 0

-- of items of these sizes that lie one after another: the one that holds a place
abbrev pub holding : {X : Type 0} → (X → ℕ) → List X → ℕ → ℕ
holding f [] place = 0
holding f (item ∷ items) place = if nat_lt place (f item) then 0 else suc (holding f items (place - f item))

-- the numbers from the front to the end of a list are the values of a function
pub record AreValues (f : ℕ → ℕ) (count : ℕ) (numbers : List ℕ) : Type 0 where
  pub len : length numbers ≡ suc count
  pub each : (i : ℕ) → i ≤ count → slice_index numbers i ≡ f i

-- ---- variables: the globals, then a size for each memory, then those of each function

-- how many variables are no function's
abbrev pub statics : Program → ℕ
statics program = length program.globals + length program.memories

-- the variable of a memory's size, in pages
abbrev pub size_of : Program → ℕ → ℕ
size_of program memory = length program.globals + memory

-- the first variable of a function
abbrev pub first_of : Program → ℕ → ℕ
first_of program function = statics program + sum_before (λ f. f.vars) program.functions function

-- the number of a function's parameters, and of its results
abbrev pub params_of : Program → ℕ → ℕ
params_of program function = number_at (λ f. length f.params) program.functions function

abbrev pub results_of : Program → ℕ → ℕ
results_of program function = number_at (λ f. length f.results) program.functions function

-- a function's parameter, and its result: the results stand behind the parameters
abbrev pub param : Program → ℕ → ℕ → ℕ
param program function index = first_of program function + index

abbrev pub result : Program → ℕ → ℕ → ℕ
result program function index = first_of program function + params_of program function + index

-- ---- positions: seven traps, then the commands of each function

-- the first position of a function
abbrev pub entry_of : Program → ℕ → ℕ
entry_of program function = 7 + sum_before (λ f. f.length) program.functions function

-- the function whose commands hold a position
abbrev pub running : Program → ℕ → ℕ
running program position = holding (λ f. f.length) program.functions (position - 7)

-- the command at a position, where there is one
abbrev pub command_at : Program → ℕ → Option Command
command_at program position = slice_get program.commands position

-- a position is one of a function's
pub record Holds (program : Program) (function position : ℕ) : Type 0 where
  pub exists : function < length program.functions
  pub from : entry_of program function ≤ position
  pub below : position < entry_of program (suc function)

-- ---- memories: one after another in one space of bytes, each with room for its reserve

-- where a memory's bytes begin
abbrev pub base : Program → ℕ → ℕ
base program memory = sum_before (λ m. m.reserve * 65536) program.memories memory

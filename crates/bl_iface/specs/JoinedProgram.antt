-- Two programs joined by an interface: the client's functions of its names stand for the library's.
use Rattle.std.specs.Prelude.{◌≡◌, ◌≤◌, ℕ, ◌+◌, ◌-◌, ◌*◌, Bool, true, false, not, nat_lt, nat_eq, if◌then◌else◌, List, [], ◌∷◌, ◌++◌, length, map, take, drop, Option, Some, None, option_map, unwrap_or, slice_get}
use Rattle.std.specs.List.{All, filter, list_any}
use Rattle.std.specs.Str.{bytes_eq}
use Rattle.bl_base.specs.Quantity.{limit_of}
use Rattle.bl_base.specs.declared.names.ValueType.{ValueType}
use Rattle.bl_base.specs.declared.number.Pos.{Pos}
use Rattle.bl_base.specs.declared.number.Var.{Var}
use Rattle.bl_base.specs.declared.quantity.Quantity.TheVariants as quantity
use Rattle.bl_program.specs.Layout.{first_of, holding, result, results_of, statics, sum_before}
use Rattle.bl_program.specs.Sites.{weight_of}
use Rattle.bl_program.specs.declared.command.Command.{Command}
use Rattle.bl_program.specs.declared.command.Command.TheVariants.{Set, Load, Store, Test, Jump, Arg, Call, Out, Ret, Trap}
use Rattle.bl_program.specs.declared.command.Operand.{Operand}
use Rattle.bl_program.specs.declared.command.Operand.TheVariants as operand
use Rattle.bl_program.specs.declared.definitions.Demand.{Demand}
use Rattle.bl_program.specs.declared.definitions.Demand.TheVariants as demand
use Rattle.bl_program.specs.declared.definitions.ExportDef.{ExportDef}
use Rattle.bl_program.specs.declared.definitions.ParamDef.{ParamDef}
use Rattle.bl_program.specs.declared.definitions.ProgramParts.{ProgramParts as Program}
use Rattle.bl_program.specs.declared.definitions.SiteWeight.{SiteWeight}
use Rattle.bl_iface.specs.declared.iface.FnIface.{FnIface}
use Rattle.bl_iface.specs.declared.iface.Iface.{Iface}
use Rattle.bl_iface.specs.declared.limits.Sum.{Sum}
use Rattle.bl_iface.specs.declared.shift.Shift.{Shift}

-- ---- exported functions

-- the function that is exported under a name
abbrev pub exported : List ExportDef → List ℕ → Option ℕ
exported [] name = None
exported (export ∷ exports) name = if bytes_eq name export.name then Some export.function else exported exports name

-- where a client's function goes: to the library's of the first name that stands for it
abbrev pub goes_by : List FnIface → Program → Program → ℕ → Option ℕ
goes_by [] client library function = None
goes_by (one ∷ others) client library function =
    if unwrap_or (option_map (nat_eq function) (exported client.exports one.name)) false
    then exported library.exports one.name
    else goes_by others client library function

abbrev pub goes : Iface → Program → Program → ℕ → Option ℕ
goes iface client library function = goes_by iface.functions client library function

-- ---- numbers: globals, sizes and functions' variables of both parts stand in this order, each the client's first

abbrev pub client_shift : Program → Shift
client_shift library = record { globals = 0; sizes = length library.globals; vars = statics library; memories = 0; functions = 0; commands = 0 }

abbrev pub library_shift : Program → Shift
library_shift client = record {
  globals = length client.globals;
  sizes = statics client;
  vars = first_of client (length client.functions);
  memories = length client.memories;
  functions = length client.functions;
  commands = length client.commands - 7;
}

abbrev pub moved_var : Shift → Program → ℕ → ℕ
moved_var shift part x =
    if nat_lt x (length part.globals) then x + shift.globals
    else if nat_lt x (statics part) then x + shift.sizes
    else x + shift.vars

-- positions 0 to 6 are those of both
abbrev pub moved_position : Shift → ℕ → ℕ
moved_position shift p = if nat_lt p 7 then p else p + shift.commands

-- the function that has a variable
abbrev pub owner : Program → ℕ → ℕ
owner program x = holding (λ f. f.vars) program.functions (x - statics program)

-- a result of a part's function that goes to one of the other part is that one's result
abbrev pub result_from : Shift → Program → Shift → Program → ℕ → Option ℕ → ℕ → ℕ
result_from shift part other_shift other function (Some callee) x = moved_var other_shift other (result other callee (x - result part function 0))
result_from shift part other_shift other function None x = moved_var shift part x

-- what a part's command reads where it read that variable, if its functions go to those of the other part
abbrev pub read_from : (ℕ → Option ℕ) → Shift → Program → Shift → Program → ℕ → ℕ
read_from goal shift part other_shift other x =
    let function = owner part x in
    if nat_lt x (result part function 0) then moved_var shift part x
    else if nat_lt x (result part function (results_of part function)) then result_from shift part other_shift other function (goal function) x
    else moved_var shift part x

-- what a client's command reads where it read that variable
abbrev pub client_read : Iface → Program → Program → ℕ → ℕ
client_read iface client library = read_from (goes iface client library) (client_shift library) client (library_shift client) library

-- the numbers of a part in the joined program: variables that are read, those that are written, functions that are called, memories, positions
pub record Renaming : Type 0 where
  pub read : ℕ → ℕ
  pub write : ℕ → ℕ
  pub callee : ℕ → ℕ
  pub memory : ℕ → ℕ
  pub position : ℕ → ℕ

abbrev pub client_numbers : Iface → Program → Program → Renaming
client_numbers iface client library =
    let shift = client_shift library in
    record {
      read = client_read iface client library;
      write = moved_var shift client;
      callee = λ f. unwrap_or (option_map (λ g. length client.functions + g) (goes iface client library f)) f;
      memory = λ m. shift.memories + m;
      position = moved_position shift;
    }

-- those of a part that goes to no other one
abbrev pub shifted_numbers : Shift → Program → Renaming
shifted_numbers shift part = record {
  read = moved_var shift part;
  write = moved_var shift part;
  callee = λ f. shift.functions + f;
  memory = λ m. shift.memories + m;
  position = moved_position shift;
}

abbrev pub library_numbers : Program → Program → Renaming
library_numbers client library = shifted_numbers (library_shift client) library

-- ---- commands

abbrev pub operand_by : (ℕ → ℕ) → Operand → Operand
operand_by read (operand.Var x) = operand.Var (record { 0 = read x.0 })
operand_by read (operand.Const number) = operand.Const number

abbrev pub var_by : (ℕ → ℕ) → Var → Var
var_by f x = record { 0 = f x.0 }

abbrev pub pos_by : (ℕ → ℕ) → Pos → Pos
pos_by f p = record { 0 = f p.0 }

abbrev pub renamed : Renaming → Command → Command
renamed n (Set mark op to a b c) = Set mark op (var_by n.write to) (operand_by n.read a) (operand_by n.read b) (operand_by n.read c)
renamed n (Load mark kind memory to offset address) = Load mark kind (n.memory memory) (var_by n.write to) offset (operand_by n.read address)
renamed n (Store kind memory offset address value) = Store kind (n.memory memory) offset (operand_by n.read address) (operand_by n.read value)
renamed n (Test cond one other) = Test (operand_by n.read cond) (pos_by n.position one) (pos_by n.position other)
renamed n (Jump to) = Jump (pos_by n.position to)
renamed n (Arg mark function index value) = Arg mark (n.callee function) index (operand_by n.read value)
renamed n (Call function) = Call (n.callee function)
renamed n (Out mark index value) = Out mark index (operand_by n.read value)
renamed n Ret = Ret
renamed n (Trap kind) = Trap kind

-- ---- the joined program

abbrev pub is_named : List FnIface → List ℕ → Bool
is_named functions name = list_any (λ one. bytes_eq name one.name) functions

-- the client's exports that the interface doesn't name
abbrev pub kept : Iface → Program → List ExportDef
kept iface client = filter (λ export. not (is_named iface.functions export.name)) client.exports

abbrev pub is_result : Demand → Bool
is_result (demand.Result function index) = true
is_result (demand.Global x) = false

abbrev pub moved_demand : Shift → Demand → Demand
moved_demand shift (demand.Result function index) = demand.Result (shift.functions + function) index
moved_demand shift (demand.Global x) = demand.Global (shift.globals + x)

-- the demands of both: those of results, and then those of globals
abbrev pub demands_of : Program → Program → List Demand
demands_of client library =
    let moved : List Demand = map (moved_demand (library_shift client)) library.demands in
    (filter is_result client.demands ++ filter is_result moved)
    ++ (filter (λ one. not (is_result one)) client.demands ++ filter (λ one. not (is_result one)) moved)

abbrev pub moved_export : ℕ → ExportDef → ExportDef
moved_export added export = record { name = export.name; function = added + export.function }

abbrev pub moved_weight : Shift → SiteWeight → SiteWeight
moved_weight shift entry = record { at = pos_by (moved_position shift) entry.at; weight = entry.weight }

abbrev pub joined : Program → Program → Iface → Program
joined client library iface = record {
  globals = client.globals ++ library.globals;
  memories = client.memories ++ library.memories;
  functions = client.functions ++ library.functions;
  exports = kept iface client ++ map (moved_export (length client.functions)) library.exports;
  commands = take 7 client.commands ++ (map (renamed (client_numbers iface client library)) (drop 7 client.commands)
      ++ map (renamed (library_numbers client library)) (drop 7 library.commands));
  demands = demands_of client library;
  weights = client.weights ++ map (moved_weight (library_shift client)) library.weights;
}

-- ---- when two programs can be joined

-- the types of parameters
abbrev pub kinds : List ParamDef → List ValueType
kinds params = map (λ param. param.kind) params

-- the types of a function's parameters and results
abbrev pub types_of : Program → ℕ → Option (List ValueType × List ValueType)
types_of program function = option_map (λ f. (kinds f.params, f.results)) (slice_get program.functions function)

-- a function of the interface has the same types in both programs
abbrev pub HasSameTypes : Program → Program → FnIface → Type 0
HasSameTypes client library one = (function callee : ℕ) → exported client.exports one.name ≡ Some function
    → exported library.exports one.name ≡ Some callee → types_of client function ≡ types_of library callee

-- none of a list of exports has that one's name
abbrev pub IsNew : List ExportDef → ExportDef → Type 0
IsNew exports one = All (λ export. export.name ≡ one.name → ⊥) exports

-- the sum of the memories' reserves
abbrev pub reserve_of : Program → ℕ
reserve_of program = sum_before (λ memory. memory.reserve) program.memories (length program.memories)

-- a number is at most what it may be
abbrev pub IsWithin : Sum → Type 0
IsWithin sum = sum.value ≤ sum.most

-- what is counted of both parts together, in the order of the tests
abbrev pub sums : Program → Program → List Sum
sums client library =
    record { which = quantity.Functions; value = length client.functions + length library.functions; most = limit_of quantity.Modules * limit_of quantity.Functions }
    ∷ record { which = quantity.Reserve; value = reserve_of client + reserve_of library; most = limit_of quantity.Reserve }
    ∷ record { which = quantity.Variables; value = first_of client (length client.functions) + first_of library (length library.functions); most = limit_of quantity.Variables }
    ∷ record { which = quantity.Commands; value = length client.commands + (length library.commands - 7); most = limit_of quantity.Commands }
    ∷ record { which = quantity.Weight; value = weight_of client (λ _. true) + weight_of library (λ _. true); most = limit_of quantity.Weight }
    ∷ []

-- nothing stands against joining the two
pub record CanJoin (client library : Program) (iface : Iface) : Type 0 where
  pub types : All (HasSameTypes client library) iface.functions
  pub exports : All (IsNew (kept iface client)) library.exports
  pub limits : All IsWithin (sums client library)

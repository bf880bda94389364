-- The bytes of the worked images are the images of three programs, which are written out.
use Rattle.std.proofs.Common.{ℕ, ◌<◌, List, [], ◌∷◌, ◌++◌, length, drop, false, refl, codes, arith}
use Rattle.bl_base.specs.declared.names.Label.TheVariants.{Public}
use Rattle.bl_base.specs.declared.names.ValueType.TheVariants.{I32}
use Rattle.bl_base.specs.declared.trap.Trap.TheVariants as kind
use Rattle.bl_leb.specs.Grammar.{Spellings}
use Rattle.bl_leb.proofs.Unsigned.{shortest_one}
use Rattle.bl_ops.specs.declared.op.Op.TheVariants.{Move}
use Rattle.bl_program.specs.declared.command.Command.{Command}
use Rattle.bl_program.specs.declared.command.Command.TheVariants.{Call, Jump, Out, Ret, Set, Trap}
use Rattle.bl_program.specs.declared.command.Mark.{Mark}
use Rattle.bl_program.specs.declared.command.Operand.{Operand}
use Rattle.bl_program.specs.declared.command.Operand.TheVariants.{Const, Var}
use Rattle.bl_program.specs.declared.definitions.ExportDef.{ExportDef}
use Rattle.bl_program.specs.declared.definitions.FunctionDef.{FunctionDef}
use Rattle.bl_program.specs.declared.definitions.MemoryDef.{MemoryDef}
use Rattle.bl_program.specs.declared.definitions.ProgramParts.{ProgramParts as Program}
use Rattle.bl_wasm.proofs.SpellingLemmas.{after, both}
use Rattle.bl_format.specs.Grammar.{each, u32, u64, vec}
use Rattle.bl_format.specs.Image.{command, export, exports, function, global, image, mark, memory, operand, param, value_type}
use Rattle.bl_app.specs.WorkedCalls.{client_image, joined_image, library_image}

-- ---- the programs

abbrev unprotected : Mark
unprotected = record { depth = 0; protect = false }

abbrev move : ℕ → Operand → Command
move x a = Set unprotected Move (record { 0 = x }) a (Const 0) (Const 0)

abbrev variable : ℕ → Operand
variable x = Var (record { 0 = x })

abbrev out : ℕ → Command
out x = Out unprotected 0 (variable x)

abbrev jump : ℕ → Command
jump position = Jump (record { 0 = position })

abbrev traps : List Command → List Command
traps commands =
    Trap kind.Unreachable ∷ Trap kind.DivideByZero ∷ Trap kind.Overflow ∷ Trap kind.OutOfBounds ∷ Trap kind.UndefinedElement ∷ Trap kind.UninitializedElement ∷ Trap kind.TypeMismatch ∷ commands

-- a function of one result and no parameters, of two variables and so many commands
abbrev defined : ℕ → FunctionDef
defined commands = record { params = []; results = I32 ∷ []; vars = 2; length = commands }

abbrev exported : List ℕ → ℕ → ExportDef
exported name function = record { name = name; function = function }

abbrev room : MemoryDef
room = record { pages = 0; reserve = 1; label = Public; rows = [] }

abbrev program_of : List MemoryDef → List FunctionDef → List ExportDef → List Command → Program
program_of memories functions exports commands =
    record { globals = []; memories = memories; functions = functions; exports = exports; commands = traps commands; demands = []; weights = [] }

-- g is a call of f, whose result it returns
abbrev pub client_program : Program
client_program = program_of [] (defined 4 ∷ defined 5 ∷ []) (exported (codes "lib/f") 0 ∷ exported (codes "main/g") 1 ∷ [])
    (jump 8 ∷ move 1 (Const 0) ∷ out 1 ∷ Ret ∷ jump 12 ∷ Call 0 ∷ move 3 (variable 0) ∷ out 3 ∷ Ret ∷ [])

abbrev pub library_program : Program
library_program = program_of (room ∷ []) (defined 4 ∷ []) (exported (codes "lib/f") 0 ∷ []) (jump 8 ∷ move 2 (Const 7) ∷ out 2 ∷ Ret ∷ [])

-- the client's variables stand behind the size of the memory, and the library's behind them; g is a call of the library's f
abbrev pub joined_program : Program
joined_program = program_of (room ∷ []) (defined 4 ∷ defined 5 ∷ defined 4 ∷ []) (exported (codes "main/g") 1 ∷ exported (codes "lib/f") 2 ∷ [])
    (jump 8 ∷ move 2 (Const 0) ∷ out 2 ∷ Ret ∷ jump 12 ∷ Call 2 ∷ move 4 (variable 5) ∷ out 4 ∷ Ret ∷ jump 17 ∷ move 6 (Const 7) ∷ out 6 ∷ Ret ∷ [])

-- ---- small spellings

long : (n : ℕ) → n < 128 → u64 n (n ∷ [])
long n lt = shortest_one 64 n lt (omega (arith, lt))

short : (n : ℕ) → n < 128 → u32 n (n ∷ [])
short n lt = (omega (arith, lt), long n lt)

counted : {A : Type 0} (B : A → Spellings) (xs : List A) (bytes : List ℕ) → length xs < 128 → each B xs bytes → vec B xs (length xs ∷ bytes)
counted B xs bytes lt spelled = both (length xs ∷ []) bytes (short (length xs) lt) spelled

marked : mark unprotected (0 ∷ [])
marked = (omega arith, refl)

-- ---- commands

jumped : (position : ℕ) → position < 128 → command (jump position) (0x04 ∷ position ∷ [])
jumped position lt = after _ (tt, short position lt)

called : (callee : ℕ) → callee < 128 → command (Call callee) (0x06 ∷ callee ∷ [])
called callee lt = after _ (tt, short callee lt)

returned : command Ret (0x08 ∷ [])
returned = after [] (tt, refl)

of_variable : (x : ℕ) → x < 128 → operand (variable x) (0x00 ∷ x ∷ [])
of_variable x lt = after _ (short x lt)

of_constant : (n : ℕ) → n < 128 → operand (Const n) (0x01 ∷ n ∷ [])
of_constant n lt = after _ (long n lt)

moved : (x : ℕ) (a : Operand) (code number : ℕ) → x < 128 → operand a (code ∷ number ∷ []) → command (move x a) (0x00 ∷ 0x00 ∷ 0x00 ∷ x ∷ code ∷ number ∷ [])
moved x a code number lt spelled =
    after _ ((λ _. refl, λ _. refl), both (0x00 ∷ 0x00 ∷ x ∷ []) _ (both (0x00 ∷ []) _ marked (after _ (short x lt))) (both (code ∷ number ∷ []) [] spelled refl))

gives : (x : ℕ) → x < 128 → command (out x) (0x07 ∷ 0x00 ∷ 0x00 ∷ 0x00 ∷ x ∷ [])
gives x lt = after _ (tt, both (0x00 ∷ []) _ marked (both (0x00 ∷ []) _ (short 0 (omega arith)) (of_variable x lt)))

-- ---- definitions

function_spelled : (commands : ℕ) → commands < 128 → function (defined commands) (0x00 ∷ 0x01 ∷ 0x7F ∷ 0x02 ∷ commands ∷ [])
function_spelled commands lt =
    both (0x00 ∷ []) _ (counted param [] [] (omega arith) refl)
    (both (0x01 ∷ 0x7F ∷ []) _ (counted value_type (I32 ∷ []) (0x7F ∷ []) (omega arith) (both (0x7F ∷ []) [] refl refl))
    (both (0x02 ∷ []) _ (short 2 (omega arith)) (short commands lt)))

room_spelled : memory room (0x00 ∷ 0x01 ∷ 0x00 ∷ 0x00 ∷ [])
room_spelled =
    both (0x00 ∷ []) _ (short 0 (omega arith)) (both (0x01 ∷ []) _ (short 1 (omega arith)) (both (0x00 ∷ []) _ refl (both (0x00 ∷ []) [] (short 0 (omega arith)) refl)))

no_memory : vec memory [] (0x00 ∷ [])
no_memory = counted memory [] [] (omega arith) refl

one_memory : vec memory (room ∷ []) (0x01 ∷ 0x00 ∷ 0x01 ∷ 0x00 ∷ 0x00 ∷ [])
one_memory = counted memory (room ∷ []) _ (omega arith) (both (0x00 ∷ 0x01 ∷ 0x00 ∷ 0x00 ∷ []) [] room_spelled refl)

export_spelled : (name : List ℕ) (function : ℕ) → length name < 128 → function < 128 → export (exported name function) ((length name ∷ name) ++ function ∷ [])
export_spelled name function short_name lt = both (length name ∷ name) _ (both (length name ∷ []) name (long (length name) short_name) refl) (short function lt)

-- ---- images

module _ (memories : List MemoryDef) (functions : List FunctionDef) (these : List ExportDef) (commands : List Command) (first second third fourth : List ℕ) where
  whole : vec memory memories first → vec function functions second → exports these third → each command commands fourth
      → image (program_of memories functions these commands) (0x42 ∷ 0x4C ∷ 0x49 ∷ 0x4D ∷ 0x01 ∷ 0x00 ∷ ((first ++ (second ++ third)) ++ fourth))
  whole m f e c =
      both (0x42 ∷ 0x4C ∷ 0x49 ∷ 0x4D ∷ 0x01 ∷ []) _ (both (0x42 ∷ 0x4C ∷ 0x49 ∷ 0x4D ∷ []) (0x01 ∷ []) refl refl)
      (both (0x00 ∷ (first ++ (second ++ third))) fourth
      (both (0x00 ∷ []) _ (counted global [] [] (omega arith) refl) (both first _ m (both second third f e)))
      (both [] fourth refl c))

pub client_spelled : image client_program client_image.bytes
client_spelled =
    whole [] client_program.functions client_program.exports (drop 7 client_program.commands) (0x00 ∷ []) _ _ _ no_memory
    (counted function client_program.functions _ (omega arith) (both (0x00 ∷ 0x01 ∷ 0x7F ∷ 0x02 ∷ 0x04 ∷ []) _ (function_spelled 4 (omega arith)) (both (0x00 ∷ 0x01 ∷ 0x7F ∷ 0x02 ∷ 0x05 ∷ []) [] (function_spelled 5 (omega arith)) refl)))
    (both (0x02 ∷ []) _ (long 2 (omega arith))
    (both (0x05 ∷ 0x6C ∷ 0x69 ∷ 0x62 ∷ 0x2F ∷ 0x66 ∷ 0x00 ∷ []) _ (export_spelled (codes "lib/f") 0 (omega arith) (omega arith))
    (both (0x06 ∷ 0x6D ∷ 0x61 ∷ 0x69 ∷ 0x6E ∷ 0x2F ∷ 0x67 ∷ 0x01 ∷ []) [] (export_spelled (codes "main/g") 1 (omega arith) (omega arith)) refl)))
    (both (0x04 ∷ 0x08 ∷ []) _ (jumped 8 (omega arith))
    (both (0x00 ∷ 0x00 ∷ 0x00 ∷ 0x01 ∷ 0x01 ∷ 0x00 ∷ []) _ (moved 1 (Const 0) 0x01 0x00 (omega arith) (of_constant 0 (omega arith)))
    (both (0x07 ∷ 0x00 ∷ 0x00 ∷ 0x00 ∷ 0x01 ∷ []) _ (gives 1 (omega arith))
    (both (0x08 ∷ []) _ returned
    (both (0x04 ∷ 0x0C ∷ []) _ (jumped 12 (omega arith))
    (both (0x06 ∷ 0x00 ∷ []) _ (called 0 (omega arith))
    (both (0x00 ∷ 0x00 ∷ 0x00 ∷ 0x03 ∷ 0x00 ∷ 0x00 ∷ []) _ (moved 3 (variable 0) 0x00 0x00 (omega arith) (of_variable 0 (omega arith)))
    (both (0x07 ∷ 0x00 ∷ 0x00 ∷ 0x00 ∷ 0x03 ∷ []) _ (gives 3 (omega arith))
    (both (0x08 ∷ []) [] returned refl)))))))))

pub library_spelled : image library_program library_image.bytes
library_spelled =
    whole (room ∷ []) library_program.functions library_program.exports (drop 7 library_program.commands) (0x01 ∷ 0x00 ∷ 0x01 ∷ 0x00 ∷ 0x00 ∷ []) _ _ _ one_memory
    (counted function library_program.functions _ (omega arith) (both (0x00 ∷ 0x01 ∷ 0x7F ∷ 0x02 ∷ 0x04 ∷ []) [] (function_spelled 4 (omega arith)) refl))
    (both (0x01 ∷ []) _ (long 1 (omega arith)) (both (0x05 ∷ 0x6C ∷ 0x69 ∷ 0x62 ∷ 0x2F ∷ 0x66 ∷ 0x00 ∷ []) [] (export_spelled (codes "lib/f") 0 (omega arith) (omega arith)) refl))
    (both (0x04 ∷ 0x08 ∷ []) _ (jumped 8 (omega arith))
    (both (0x00 ∷ 0x00 ∷ 0x00 ∷ 0x02 ∷ 0x01 ∷ 0x07 ∷ []) _ (moved 2 (Const 7) 0x01 0x07 (omega arith) (of_constant 7 (omega arith)))
    (both (0x07 ∷ 0x00 ∷ 0x00 ∷ 0x00 ∷ 0x02 ∷ []) _ (gives 2 (omega arith))
    (both (0x08 ∷ []) [] returned refl))))

pub joined_spelled : image joined_program joined_image.bytes
joined_spelled =
    whole (room ∷ []) joined_program.functions joined_program.exports (drop 7 joined_program.commands) (0x01 ∷ 0x00 ∷ 0x01 ∷ 0x00 ∷ 0x00 ∷ []) _ _ _ one_memory
    (counted function joined_program.functions _ (omega arith)
    (both (0x00 ∷ 0x01 ∷ 0x7F ∷ 0x02 ∷ 0x04 ∷ []) _ (function_spelled 4 (omega arith))
    (both (0x00 ∷ 0x01 ∷ 0x7F ∷ 0x02 ∷ 0x05 ∷ []) _ (function_spelled 5 (omega arith)) (both (0x00 ∷ 0x01 ∷ 0x7F ∷ 0x02 ∷ 0x04 ∷ []) [] (function_spelled 4 (omega arith)) refl))))
    (both (0x02 ∷ []) _ (long 2 (omega arith))
    (both (0x06 ∷ 0x6D ∷ 0x61 ∷ 0x69 ∷ 0x6E ∷ 0x2F ∷ 0x67 ∷ 0x01 ∷ []) _ (export_spelled (codes "main/g") 1 (omega arith) (omega arith))
    (both (0x05 ∷ 0x6C ∷ 0x69 ∷ 0x62 ∷ 0x2F ∷ 0x66 ∷ 0x02 ∷ []) [] (export_spelled (codes "lib/f") 2 (omega arith) (omega arith)) refl)))
    (both (0x04 ∷ 0x08 ∷ []) _ (jumped 8 (omega arith))
    (both (0x00 ∷ 0x00 ∷ 0x00 ∷ 0x02 ∷ 0x01 ∷ 0x00 ∷ []) _ (moved 2 (Const 0) 0x01 0x00 (omega arith) (of_constant 0 (omega arith)))
    (both (0x07 ∷ 0x00 ∷ 0x00 ∷ 0x00 ∷ 0x02 ∷ []) _ (gives 2 (omega arith))
    (both (0x08 ∷ []) _ returned
    (both (0x04 ∷ 0x0C ∷ []) _ (jumped 12 (omega arith))
    (both (0x06 ∷ 0x02 ∷ []) _ (called 2 (omega arith))
    (both (0x00 ∷ 0x00 ∷ 0x00 ∷ 0x04 ∷ 0x00 ∷ 0x05 ∷ []) _ (moved 4 (variable 5) 0x00 0x05 (omega arith) (of_variable 5 (omega arith)))
    (both (0x07 ∷ 0x00 ∷ 0x00 ∷ 0x00 ∷ 0x04 ∷ []) _ (gives 4 (omega arith))
    (both (0x08 ∷ []) _ returned
    (both (0x04 ∷ 0x11 ∷ []) _ (jumped 17 (omega arith))
    (both (0x00 ∷ 0x00 ∷ 0x00 ∷ 0x06 ∷ 0x01 ∷ 0x07 ∷ []) _ (moved 6 (Const 7) 0x01 0x07 (omega arith) (of_constant 7 (omega arith)))
    (both (0x07 ∷ 0x00 ∷ 0x00 ∷ 0x00 ∷ 0x06 ∷ []) _ (gives 6 (omega arith))
    (both (0x08 ∷ []) [] returned refl)))))))))))))

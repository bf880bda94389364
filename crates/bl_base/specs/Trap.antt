-- The numbers and texts of the kinds of traps.
use Rattle.std.specs.Prelude.{ℕ, List, Option, slice_get, codes, [], ◌∷◌}
use Rattle.bl_base.specs.declared.trap.Trap.{Trap}
use Rattle.bl_base.specs.declared.trap.Trap.TheVariants.{Unreachable, DivideByZero, Overflow, OutOfBounds, UndefinedElement, UninitializedElement, TypeMismatch, StackExhausted}

-- the number of a kind
abbrev pub trap_number : Trap → ℕ
trap_number Unreachable = 0
trap_number DivideByZero = 1
trap_number Overflow = 2
trap_number OutOfBounds = 3
trap_number UndefinedElement = 4
trap_number UninitializedElement = 5
trap_number TypeMismatch = 6
trap_number StackExhausted = 7

-- the kinds in the order of their numbers
abbrev pub kinds : List Trap
kinds = Unreachable ∷ DivideByZero ∷ Overflow ∷ OutOfBounds ∷ UndefinedElement ∷ UninitializedElement ∷ TypeMismatch ∷ StackExhausted ∷ []

-- the kind of a number, where there is one
abbrev pub trap_of : ℕ → Option Trap
trap_of code = slice_get kinds code

-- the text of a kind
abbrev pub text_of : Trap → List ℕ
text_of Unreachable = codes "unreachable"
text_of DivideByZero = codes "integer divide by zero"
text_of Overflow = codes "integer overflow"
text_of OutOfBounds = codes "out of bounds memory access"
text_of UndefinedElement = codes "undefined element"
text_of UninitializedElement = codes "uninitialized element"
text_of TypeMismatch = codes "indirect call type mismatch"
text_of StackExhausted = codes "call stack exhausted"

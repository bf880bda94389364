-- Calls (WebAssembly 1.0, sections 4.4.5 and 4.4.7).
use Rattle.std.specs.Prelude.{ℕ, ◌+◌, nat_lt, if◌then◌else◌, List, [], ◌∷◌, ◌++◌, length, take, drop, reverse, replicate, slice_get, Option, Some, None, option_and_then}
use Rattle.bl_base.specs.Quantity.{most_calls}
use Rattle.bl_base.specs.Runs.{Next, goes}
use Rattle.bl_base.specs.declared.trap.Trap.TheVariants.{UndefinedElement, UninitializedElement, TypeMismatch, StackExhausted}
use Rattle.bl_wasm.specs.Linked.{type_of}
use Rattle.bl_wasm.specs.TypeNumbers.{is_same_type}
use Rattle.bl_wasm.specs.Validity.{locals_of}
use Rattle.bl_wasm.specs.declared.linked.Signature.{Signature}
use Rattle.bl_wasm.specs.declared.linked.Function.{Function}
use Rattle.bl_wasm.specs.declared.linked.Tree.{Tree}
use Rattle.bl_reduce.specs.Configurations.{Store, Frame, State, Config, entering, go, trap, known, pop}

-- the depth of calls: 1 in the function that was entered first
abbrev pub depth : State → ℕ
depth state = length state.callers + 1

-- ---- entering a function (section 4.4.7)

-- a frame with its arguments, its other locals at zero, and its whole body
abbrev pub entered : ℕ → Function → Signature → List ℕ → Frame
entered number function type arguments = record {
  number = number;
  function = function;
  arity = length type.results;
  locals = arguments ++ replicate (length (locals_of function.code)) 0;
  labels = [];
  values = [];
  rest = function.code.items;
}

-- a function is entered where it and its type exist
abbrev pub enter : Tree → Store → ℕ → List ℕ → List Frame → Next Config
enter tree store number arguments callers =
    known (slice_get tree.functions number) (λ function. known (slice_get tree.types function.type_index) (λ type.
    go (record { store = store; frame = entered number function type arguments; callers = callers })))

-- ---- calls (section 4.4.5)

-- so many operands, the first of them lowest on the stack
abbrev pub operands : ℕ → State → List ℕ
operands count state = reverse (take count state.frame.values)

-- the frame without them, which goes on behind its call
abbrev pub caller : ℕ → State → Frame
caller count state = record state.frame { values = drop count state.frame.values }

-- a function of that type is called: its operands are taken off, and it is entered next
abbrev pub call_at : Signature → ℕ → State → Next Config
call_at type number state =
    if nat_lt (depth state) most_calls
    then goes (entering state.store number (operands (length type.params) state) (caller (length type.params) state ∷ state.callers))
    else trap StackExhausted state

-- call
abbrev pub call : Tree → ℕ → State → Next Config
call tree number state = known (type_of tree number) (λ type. call_at type number state)

-- through what stands in a slot of a table, at the type that is wanted
abbrev pub call_through : Tree → Signature → Option (Option ℕ) → State → Next Config
call_through tree wanted None state = trap UndefinedElement state
call_through tree wanted (Some None) state = trap UninitializedElement state
call_through tree wanted (Some (Some number)) state =
    known (type_of tree number) (λ type. if is_same_type type wanted then call_at type number state else trap TypeMismatch state)

-- call_indirect
abbrev pub call_indirect : Tree → ℕ → State → Next Config
call_indirect tree type_index state = pop state (λ index state.
    known (option_and_then (slice_get tree.tables) state.frame.function.table) (λ table.
    known (slice_get tree.types type_index) (λ wanted. call_through tree wanted (slice_get table index) state)))

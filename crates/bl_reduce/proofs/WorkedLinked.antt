-- A linked tree with a memory, a table, calls and a loop that has a parameter: what the laws of runs ask can be met.
use Rattle.bl_reduce.specs.Runnable.{runnable}
use Rattle.std.proofs.Common.{◌≡◌, ℕ, ◌^◌, ◌<◌, ◌≤◌, true, false, List, [], ◌∷◌, length, drop, Some, None, refl, arith}
use Rattle.std.specs.List.{All}
use Rattle.std.proofs.lemmas.List.Elements.{All-nil, All-cons}
use Rattle.std.proofs.lemmas.Option.{none-some}
use Rattle.bl_base.specs.Fits.{ArgumentFits, PatchFits}
use Rattle.bl_base.specs.Runs.{StepsTo, HasStep}
use Rattle.bl_base.specs.declared.names.Label.TheVariants as label
use Rattle.bl_base.specs.declared.names.ValueType.TheVariants as value
use Rattle.bl_base.specs.declared.start.Start.{Start}
use Rattle.bl_ops.specs.declared.access.AccessKind.TheVariants as access
use Rattle.bl_wasm.specs.Linked.{IsLinked, IsFunction, IsMemory, IsSlot, HasImmediates, context}
use Rattle.bl_wasm.specs.OpenConstructs.{of_loop}
use Rattle.bl_wasm.specs.Typing.{Types, opened}
use Rattle.bl_wasm.specs.declared.instruction.Instr.{Instr}
use Rattle.bl_wasm.specs.declared.instruction.Instr.TheVariants.{LocalGet, Load, I32Const, Call, CallIndirect, Loop, End}
use Rattle.bl_wasm.specs.declared.types.BlockType.TheVariants.{Index}
use Rattle.bl_wasm.specs.declared.types.FuncType.{FuncType}
use Rattle.bl_wasm.specs.declared.types.WasmType.{WasmType}
use Rattle.bl_wasm.specs.declared.types.WasmType.TheVariants.{I32}
use Rattle.bl_wasm.specs.declared.linked.Function.{Function}
use Rattle.bl_wasm.specs.declared.linked.Global.{Global}
use Rattle.bl_wasm.specs.declared.linked.Memory.{Memory}
use Rattle.bl_wasm.specs.declared.linked.Signature.{Signature}
use Rattle.bl_wasm.specs.declared.linked.Tree.{Tree}
use Rattle.bl_reduce.specs.Configurations.{Config}
use Rattle.bl_reduce.specs.Outcomes.{IsStart, opening}
use Rattle.bl_reduce.specs.Steps.{source_step}
use Rattle.bl_reduce.proofs.Soundness.{never_stuck}

abbrev pub type : Signature
type = record { params = value.I32 ∷ []; results = value.I32 ∷ [] }

abbrev pub items : List Instr
items = LocalGet 0 ∷ Load access.I32Load (record { alignment = 2; offset = 0 }) ∷ Loop (Index 0) ∷ Call 0 ∷ End ∷ I32Const 0 ∷ CallIndirect 0 ∷ []

abbrev pub function : Function
function = record {
  type_index = 0;
  labels = label.Public ∷ [];
  demanded = false ∷ [];
  code = record { locals = []; items = items };
  memory = Some 0;
  table = Some 0;
}

abbrev pub memory : Memory
memory = record { pages = 0; reserve = 1; label = label.Public; bytes = [] }

abbrev pub global : Global
global = record { kind = value.I32; mutable = true; initial = 5; label = label.Secret; demanded = false }

abbrev pub tree : Tree
tree = record { types = type ∷ []; functions = function ∷ []; globals = global ∷ []; memories = memory ∷ []; tables = (Some 0 ∷ None ∷ []) ∷ []; exports = [] }

abbrev as_type : FuncType
as_type = record { params = I32 ∷ []; results = I32 ∷ [] }

abbrev places : List (List WasmType)
places = [] ∷ (I32 ∷ []) ∷ (I32 ∷ []) ∷ (I32 ∷ []) ∷ (I32 ∷ []) ∷ (I32 ∷ []) ∷ (I32 ∷ I32 ∷ []) ∷ (I32 ∷ []) ∷ []

typed : Types (context tree type function) [] items places
typed = (
  [],
  record { inside = refl; rule = (I32, refl, record { lower = []; before = refl; behind = refl }) },
  (
    [],
    record { inside = refl; rule = (refl, omega arith, omega arith, record { lower = []; before = refl; behind = refl }) },
    (
      opened of_loop as_type [] ∷ [],
      record { type = as_type; lower = []; named = refl; before = refl; inside = refl; behind = refl },
      (
        opened of_loop as_type [] ∷ [],
        record { inside = refl; rule = (as_type, (0, refl, refl), record { lower = []; before = refl; behind = refl }) },
        (
          [],
          record { missing = λ is. absurd (cc is); before = refl; inside = refl; behind = refl },
          (
            [],
            record { inside = refl; rule = record { lower = I32 ∷ []; before = refl; behind = refl } },
            ([], record { inside = refl; rule = (as_type, refl, omega arith, record { lower = []; before = refl; behind = refl }) }, (refl, refl)),
          ),
        ),
      ),
    ),
  ),
)

is_function : IsFunction tree function
is_function = record {
  type = type;
  exists = refl;
  places = places;
  typing = (refl, typed);
  immediates = All-cons HasImmediates (LocalGet 0) (drop 1 items) tt
      (All-cons HasImmediates (Load access.I32Load (record { alignment = 2; offset = 0 })) (drop 2 items) (omega arith)
      (All-cons HasImmediates (Loop (Index 0)) (drop 3 items) tt
      (All-cons HasImmediates (Call 0) (drop 4 items) tt
      (All-cons HasImmediates End (drop 5 items) tt
      (All-cons HasImmediates (I32Const 0) (drop 6 items) (omega arith) (All-cons HasImmediates (CallIndirect 0) [] tt (All-nil HasImmediates)))))));
  labels = refl;
  demanded = refl;
  room = omega arith;
  memory = omega arith;
  table = omega arith;
}

pub is_linked : IsLinked tree
is_linked = record {
  types = All-cons (λ type. length type.results ≤ 1024) type [] (omega arith) (All-nil (λ type. length type.results ≤ 1024));
  functions = All-cons (IsFunction tree) function [] is_function (All-nil (IsFunction tree));
  globals = All-cons (λ global. ArgumentFits global.kind global.initial) global [] (omega arith) (All-nil (λ global. ArgumentFits global.kind global.initial));
  labels = All-cons (λ global. global.label ≡ label.Secret → global.demanded ≡ false) global [] (λ secret. refl) (All-nil (λ global. global.label ≡ label.Secret → global.demanded ≡ false));
  memories = All-cons IsMemory memory [] (record { first = omega arith; most = omega arith; size = refl; bytes = All-nil (λ byte. byte < 2 ^ 8) }) (All-nil IsMemory);
  tables = All-cons (All (IsSlot tree)) (Some 0 ∷ None ∷ []) []
      (All-cons (IsSlot tree) (Some 0) (None ∷ []) (omega arith) (All-cons (IsSlot tree) None [] tt (All-nil (IsSlot tree)))) (All-nil (All (IsSlot tree)));
  exports = All-nil (λ pair. pair.1 < length tree.functions);
  distinct = λ i j a b e f same. absurd (none-some a e);
  function_count = omega arith;
  memory_count = omega arith;
  global_count = omega arith;
  reserves = omega arith;
}

abbrev pub start : Start
start = record { args = 3 ∷ []; patches = [] }

pub is_start : IsStart tree 0 start
is_start = record {
  function = function;
  exists = refl;
  type = type;
  typed = refl;
  fits = record { arguments = (omega arith, tt); patches = All-nil (PatchFits (0 ∷ [])) };
}

has_step : (n : ℕ) (config : Config) → StepsTo (source_step tree) n (opening tree 0 start) config → HasStep (source_step tree config)
has_step n config comes = never_stuck tree (runnable tree is_linked) 0 start is_start n config comes

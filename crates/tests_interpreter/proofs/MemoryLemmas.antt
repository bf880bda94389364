-- The trees with one memory are linked trees.
use Rattle.std.proofs.Common.{◌≡◌, ℕ, ◌*◌, ◌^◌, ◌<◌, ◌≤◌, false, List, [], ◌∷◌, length, drop, replicate, Some, None, refl, arith}
use Rattle.std.specs.Prelude.{IsTrue, IsFalse}
use Rattle.std.specs.List.{All}
use Rattle.std.proofs.lemmas.List.{length-replicate}
use Rattle.std.proofs.lemmas.List.Elements.{All-nil, All-cons, All-replicate}
use Rattle.std.proofs.lemmas.Option.{none-some}
use Rattle.bl_base.specs.Fits.{ArgumentFits}
use Rattle.bl_base.specs.declared.names.Label.TheVariants.{Secret}
use Rattle.bl_ops.specs.Access.{is_load, access_type, width_of}
use Rattle.bl_ops.specs.declared.access.AccessKind.{AccessKind}
use Rattle.bl_ops.specs.declared.access.AccessKind.TheVariants.{I32Load}
use Rattle.bl_wasm.specs.Linked.{IsLinked, IsFunction, IsMemory, IsSlot, HasImmediates, context}
use Rattle.bl_wasm.specs.Typing.{Types, integer}
use Rattle.bl_wasm.specs.declared.instruction.Instr.{Instr}
use Rattle.bl_wasm.specs.declared.instruction.Instr.TheVariants.{LocalGet, Load, Store, MemorySize, MemoryGrow}
use Rattle.bl_wasm.specs.declared.types.WasmType.{WasmType}
use Rattle.bl_wasm.specs.declared.types.WasmType.TheVariants.{I32}
use Rattle.bl_wasm.specs.declared.linked.Global.{Global}
use Rattle.bl_wasm.specs.declared.linked.Tree.{Tree}
use Rattle.tests_interpreter.specs.MemoryTrees.{at_offset, accessing, growing, accessing_type, growing_type, accessing_function, growing_function, zeros, memory_tree}

wide : (kind : AccessKind) → 2 ^ 0 ≤ width_of kind
wide kind = elim kind as (λ kind. 2 ^ 0 ≤ width_of kind) [ I32Load ↦ omega arith | _ ↦ omega arith ]

module _ (store load : AccessKind) (offset pages reserve : ℕ) (stores : IsFalse (is_load store)) (loads : IsTrue (is_load load)) (small : offset < 2 ^ 32) where
  abbrev tree : Tree
  tree = memory_tree store load offset pages reserve

  access_typed : Types (context tree (accessing_type store load) (accessing_function store load offset)) [] (accessing store load offset)
      ([] ∷ (I32 ∷ []) ∷ (I32 ∷ integer (access_type store) ∷ []) ∷ [] ∷ (I32 ∷ []) ∷ (integer (access_type load) ∷ []) ∷ [])
  access_typed = (
    [],
    record { inside = refl; rule = (I32, refl, record { lower = []; before = refl; behind = refl }) },
    (
      [],
      record { inside = refl; rule = (integer (access_type store), refl, record { lower = I32 ∷ []; before = refl; behind = refl }) },
      (
        [],
        record { inside = refl; rule = (stores, wide store, omega arith, record { lower = []; before = refl; behind = refl }) },
        (
          [],
          record { inside = refl; rule = (I32, refl, record { lower = []; before = refl; behind = refl }) },
          ([], record { inside = refl; rule = (loads, wide load, omega arith, record { lower = []; before = refl; behind = refl }) }, (refl, refl)),
        ),
      ),
    ),
  )

  growth_typed : Types (context tree growing_type growing_function) [] growing ([] ∷ (I32 ∷ []) ∷ (I32 ∷ []) ∷ (I32 ∷ I32 ∷ []) ∷ [])
  growth_typed = (
    [],
    record { inside = refl; rule = (I32, refl, record { lower = []; before = refl; behind = refl }) },
    (
      [],
      record { inside = refl; rule = (omega arith, record { lower = []; before = refl; behind = refl }) },
      ([], record { inside = refl; rule = (omega arith, record { lower = I32 ∷ []; before = refl; behind = refl }) }, (refl, refl)),
    ),
  )

  accesses : IsFunction tree (accessing_function store load offset)
  accesses = record {
    type = accessing_type store load;
    exists = refl;
    places = [] ∷ (I32 ∷ []) ∷ (I32 ∷ integer (access_type store) ∷ []) ∷ [] ∷ (I32 ∷ []) ∷ (integer (access_type load) ∷ []) ∷ [];
    typing = (refl, access_typed);
    immediates = All-cons HasImmediates (LocalGet 0) (drop 1 (accessing store load offset)) tt
        (All-cons HasImmediates (LocalGet 1) (drop 2 (accessing store load offset)) tt
        (All-cons HasImmediates (Store store (at_offset offset)) (drop 3 (accessing store load offset)) small
        (All-cons HasImmediates (LocalGet 0) (drop 4 (accessing store load offset)) tt
        (All-cons HasImmediates (Load load (at_offset offset)) [] small (All-nil HasImmediates)))));
    labels = refl;
    demanded = refl;
    room = omega arith;
    memory = omega arith;
    table = tt;
  }

  grows : IsFunction tree growing_function
  grows = record {
    type = growing_type;
    exists = refl;
    places = [] ∷ (I32 ∷ []) ∷ (I32 ∷ []) ∷ (I32 ∷ I32 ∷ []) ∷ [];
    typing = (refl, growth_typed);
    immediates = All-cons HasImmediates (LocalGet 0) (drop 1 growing) tt
        (All-cons HasImmediates MemoryGrow (drop 2 growing) tt (All-cons HasImmediates MemorySize [] tt (All-nil HasImmediates)));
    labels = refl;
    demanded = refl;
    room = omega arith;
    memory = omega arith;
    table = tt;
  }

  pub is_linked : pages ≤ reserve → reserve ≤ 256 → IsLinked tree
  is_linked first most = record {
    types = All-cons (λ type. length type.results ≤ 1024) (accessing_type store load) (growing_type ∷ []) (omega arith)
        (All-cons (λ type. length type.results ≤ 1024) growing_type [] (omega arith) (All-nil (λ type. length type.results ≤ 1024)));
    functions = All-cons (IsFunction tree) (accessing_function store load offset) (growing_function ∷ []) accesses
        (All-cons (IsFunction tree) growing_function [] grows (All-nil (IsFunction tree)));
    globals = All-nil (λ (global : Global). ArgumentFits global.kind global.initial);
    labels = All-nil (λ (global : Global). global.label ≡ Secret → global.demanded ≡ false);
    memories = All-cons IsMemory (zeros pages reserve) []
        (record { first = first; most = most; size = length-replicate (pages * 65536) 0; bytes = All-replicate (λ byte. byte < 2 ^ 8) (pages * 65536) 0 (omega arith) })
        (All-nil IsMemory);
    tables = All-nil (All (IsSlot tree));
    exports = All-nil (λ pair. pair.1 < length tree.functions);
    distinct = λ i j a b e f same. absurd (none-some a e);
    function_count = omega arith;
    memory_count = omega arith;
    global_count = omega arith;
    reserves = omega (arith, most);
  }

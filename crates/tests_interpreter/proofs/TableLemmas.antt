-- The tree with one table is a linked tree.
use Rattle.std.proofs.Common.{◌≡◌, ℕ, ◌≤◌, ◌<◌, false, List, [], ◌∷◌, length, drop, Option, Some, None, refl, arith}
use Rattle.std.specs.List.{All}
use Rattle.std.proofs.lemmas.List.Elements.{All-nil, All-cons}
use Rattle.std.proofs.lemmas.Option.{none-some}
use Rattle.bl_base.specs.Fits.{ArgumentFits}
use Rattle.bl_base.specs.declared.names.Label.{Label}
use Rattle.bl_base.specs.declared.names.Label.TheVariants.{Secret, Public}
use Rattle.bl_base.specs.declared.names.ValueType.TheVariants as value
use Rattle.bl_wasm.specs.Linked.{IsLinked, IsFunction, IsMemory, IsSlot, HasImmediates, context, function_type}
use Rattle.bl_wasm.specs.Typing.{Types}
use Rattle.bl_wasm.specs.declared.instruction.Instr.{Instr}
use Rattle.bl_wasm.specs.declared.instruction.Instr.TheVariants.{LocalGet, CallIndirect, I32Const}
use Rattle.bl_wasm.specs.declared.types.WasmType.{WasmType}
use Rattle.bl_wasm.specs.declared.types.WasmType.TheVariants.{I32}
use Rattle.bl_wasm.specs.declared.linked.Function.{Function}
use Rattle.bl_wasm.specs.declared.linked.Global.{Global}
use Rattle.bl_wasm.specs.declared.linked.Signature.{Signature}
use Rattle.tests_interpreter.specs.TableTrees.{giving, calling, giving_back, giving_seven, giving_nine, slots, table_tree}

calls : IsFunction table_tree calling
calls = record {
  type = giving (value.I32 ∷ value.I32 ∷ []);
  exists = refl;
  places = [] ∷ (I32 ∷ []) ∷ (I32 ∷ I32 ∷ []) ∷ (I32 ∷ []) ∷ [];
  typing = (
    refl,
    (
      [],
      record { inside = refl; rule = (I32, refl, record { lower = []; before = refl; behind = refl }) },
      (
        [],
        record { inside = refl; rule = (I32, refl, record { lower = I32 ∷ []; before = refl; behind = refl }) },
        ([], record { inside = refl; rule = (function_type (giving (value.I32 ∷ [])), refl, omega arith, record { lower = []; before = refl; behind = refl }) }, (refl, refl)),
      ),
    ),
  );
  immediates = All-cons HasImmediates (LocalGet 1) (LocalGet 0 ∷ CallIndirect 1 ∷ []) tt
      (All-cons HasImmediates (LocalGet 0) (CallIndirect 1 ∷ []) tt (All-cons HasImmediates (CallIndirect 1) [] tt (All-nil HasImmediates)));
  labels = refl;
  demanded = refl;
  room = omega arith;
  memory = tt;
  table = omega arith;
}

gives_back : IsFunction table_tree giving_back
gives_back = record {
  type = giving (value.I32 ∷ []);
  exists = refl;
  places = [] ∷ (I32 ∷ []) ∷ [];
  typing = (refl, ([], record { inside = refl; rule = (I32, refl, record { lower = []; before = refl; behind = refl }) }, (refl, refl)));
  immediates = All-cons HasImmediates (LocalGet 0) [] tt (All-nil HasImmediates);
  labels = refl;
  demanded = refl;
  room = omega arith;
  memory = tt;
  table = omega arith;
}

gives_seven : IsFunction table_tree giving_seven
gives_seven = record {
  type = giving (value.I32 ∷ []);
  exists = refl;
  places = [] ∷ (I32 ∷ []) ∷ [];
  typing = (refl, ([], record { inside = refl; rule = record { lower = []; before = refl; behind = refl } }, (refl, refl)));
  immediates = All-cons HasImmediates (I32Const 7) [] (omega arith) (All-nil HasImmediates);
  labels = refl;
  demanded = refl;
  room = omega arith;
  memory = tt;
  table = omega arith;
}

gives_nine : IsFunction table_tree giving_nine
gives_nine = record {
  type = giving [];
  exists = refl;
  places = [] ∷ (I32 ∷ []) ∷ [];
  typing = (refl, ([], record { inside = refl; rule = record { lower = []; before = refl; behind = refl } }, (refl, refl)));
  immediates = All-cons HasImmediates (I32Const 9) [] (omega arith) (All-nil HasImmediates);
  labels = refl;
  demanded = refl;
  room = omega arith;
  memory = tt;
  table = omega arith;
}

abbrev FewResults : Signature → Type 0
FewResults type = length type.results ≤ 1024

pub is_linked : IsLinked table_tree
is_linked = record {
  types = All-cons FewResults (giving (value.I32 ∷ value.I32 ∷ [])) (giving (value.I32 ∷ []) ∷ giving (value.I32 ∷ []) ∷ giving [] ∷ []) (omega arith)
      (All-cons FewResults (giving (value.I32 ∷ [])) (giving (value.I32 ∷ []) ∷ giving [] ∷ []) (omega arith)
      (All-cons FewResults (giving (value.I32 ∷ [])) (giving [] ∷ []) (omega arith) (All-cons FewResults (giving []) [] (omega arith) (All-nil FewResults))));
  functions = All-cons (IsFunction table_tree) calling (giving_back ∷ giving_seven ∷ giving_nine ∷ []) calls
      (All-cons (IsFunction table_tree) giving_back (giving_seven ∷ giving_nine ∷ []) gives_back
      (All-cons (IsFunction table_tree) giving_seven (giving_nine ∷ []) gives_seven (All-cons (IsFunction table_tree) giving_nine [] gives_nine (All-nil (IsFunction table_tree)))));
  globals = All-nil (λ (global : Global). ArgumentFits global.kind global.initial);
  labels = All-nil (λ (global : Global). global.label ≡ Secret → global.demanded ≡ false);
  memories = All-nil IsMemory;
  tables = All-cons (All (IsSlot table_tree)) slots []
      (All-cons (IsSlot table_tree) (Some 1) (Some 2 ∷ None ∷ Some 3 ∷ []) (omega arith)
      (All-cons (IsSlot table_tree) (Some 2) (None ∷ Some 3 ∷ []) (omega arith)
      (All-cons (IsSlot table_tree) None (Some 3 ∷ []) tt (All-cons (IsSlot table_tree) (Some 3) [] (omega arith) (All-nil (IsSlot table_tree)))))) (All-nil (All (IsSlot table_tree)));
  exports = All-nil (λ pair. pair.1 < length table_tree.functions);
  distinct = λ i j a b e f same. absurd (none-some a e);
  function_count = omega arith;
  memory_count = omega arith;
  global_count = omega arith;
  reserves = omega arith;
}

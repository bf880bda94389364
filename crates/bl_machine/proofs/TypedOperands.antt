-- What a typing says of the values that an item takes: they are there.
use Rattle.std.proofs.Common.{◌≡◌, ℕ, ◌≤◌, List, [], ◌∷◌, ◌++◌, length, map, reverse, replicate, Some, slice_get, ◌⊎◌, inl, inr, refl, sym, ap, ◌∙◌, subst, arith, length-append}
use Rattle.std.specs.Prelude.{option_and_then}
use Rattle.std.specs.List.{AllZip}
use Rattle.std.proofs.lemmas.List.{length-map, length-reverse, length-replicate}
use Rattle.std.proofs.lemmas.Option.{same_Some}
use Rattle.bl_ops.specs.OperatorTable.{row_of}
use Rattle.bl_ops.specs.declared.op.Op.{Op}
use Rattle.bl_ops.specs.declared.op.OpRow.{OpRow}
use Rattle.bl_wasm.specs.Linked.{context, function_type, type_of}
use Rattle.bl_wasm.specs.Typing.{Context, Open, HasType, expanded, integer, labels}
use Rattle.bl_wasm.specs.declared.types.BlockType.{BlockType}
use Rattle.bl_wasm.specs.declared.types.BlockType.TheVariants.{Empty, Value, Index}
use Rattle.bl_wasm.specs.declared.types.FuncType.{FuncType}
use Rattle.bl_wasm.specs.declared.types.WasmType.{WasmType}
use Rattle.bl_wasm.specs.declared.types.WasmType.TheVariants.{I32}
use Rattle.bl_wasm.specs.declared.linked.Signature.{Signature}
use Rattle.bl_wasm.specs.declared.linked.Tree.{Tree}
use Rattle.bl_reduce.specs.Configurations.{State, with_values}
use Rattle.bl_reduce.specs.TypedConfigurations.{IsValue, AreLabels}
use Rattle.bl_reduce.proofs.ControlItems.{ToLabel, OutOfAll, find_label}
use Rattle.bl_base.proofs.Lists.{zip_length, mapped_get}
use Rattle.bl_machine.specs.Jumps.{counted, counts_of_type}
use Rattle.bl_machine.specs.declared.jumps.Counts.{Counts}
use Rattle.bl_machine.proofs.BranchSimulation.{Branches}
use Rattle.bl_machine.proofs.StackLemmas.{Carries}

-- values of these types
abbrev pub Typed : List WasmType → List ℕ → Type 0
Typed types values = AllZip IsValue (reverse types) values

pub enough : (stack lower types : List WasmType) (values : List ℕ) → stack ≡ lower ++ types → Typed stack values → length types ≤ length values
enough stack lower types values e h =
    let n = zip_length IsValue (reverse stack) values h in
    omega (arith, n, length-reverse stack, ap length e, length-append lower types)

-- the same of the values below one that is taken off
pub enough_below : (stack lower types : List WasmType) (v : ℕ) (vs values : List ℕ) → stack ≡ lower ++ (types ++ I32 ∷ []) → Typed stack values → values ≡ v ∷ vs → length types ≤ length vs
enough_below stack lower types v vs values e h f =
    let n = enough stack lower (types ++ I32 ∷ []) values e h in
    omega (arith, n, length-append types (I32 ∷ []), ap length f)

-- the counts that were found are those of the type
module _ (types : List Signature) where
  abbrev Counted : Counts → FuncType → Type 0
  Counted counts type = (counts.params ≡ length type.params) × (counts.results ≡ length type.results)

  pub counts_are : (kind : BlockType) (type : FuncType) → expanded (map function_type types) kind ≡ Some type → Counted (counts_of_type types kind) type
  counts_are Empty type e = subst (Counted (counts_of_type types Empty)) (same_Some (record { params = []; results = [] }) type e) (refl, refl)
  counts_are (Value value) type e = subst (Counted (counts_of_type types (Value value))) (same_Some (record { params = []; results = value ∷ [] }) type e) (refl, refl)
  counts_are (Index number) type e =
      let t = mapped_get function_type types number type e in
      subst (λ o. Counted (counted o) type) (sym t.1) (subst (Counted (counted (Some t.0))) t.2 (sym (length-map t.0.params integer), sym (length-map t.0.results integer)))

-- the operands of a function of a type of the tree
pub wanted_are_there : (tree : Tree) (index : ℕ) (type : FuncType) (values : List ℕ) → slice_get (map function_type tree.types) index ≡ Some type → length type.params ≤ length values
    → (wanted : Signature) → slice_get tree.types index ≡ Some wanted → length wanted.params ≤ length values
wanted_are_there tree index type values e room wanted got =
    let t = mapped_get function_type tree.types index type e in
    let same : wanted ≡ t.0 = same_Some wanted t.0 (sym got ∙ t.1) in
    let long : length type.params ≡ length wanted.params = ap (λ type. length type.params) (sym t.2) ∙ length-map t.0.params integer ∙ ap (λ s. length s.params) (sym same) in
    omega (arith, room, long)

module _ (tree : Tree) (type : Signature) (state : State) (arity : state.frame.arity ≡ length type.results) where
  abbrev c : Context
  c = context tree type state.frame.function

  pub returns_are_there : (stack lower : List WasmType) → stack ≡ lower ++ c.results → Typed stack state.frame.values → Carries state.frame.arity state.frame.values
  returns_are_there stack lower e h =
      let n = enough stack lower (map integer type.results) state.frame.values e h in
      omega (arith, arity, n, length-map type.results integer)

  pub branches_are_there : (open_ones : List Open) (l : ℕ) (types : List WasmType) (values : List ℕ) → AreLabels c state.frame.function.code.items open_ones state.frame.labels
      → slice_get (labels c open_ones) l ≡ Some types → length types ≤ length values → Branches tree (with_values values state) (slice_get state.frame.labels l)
  branches_are_there open_ones l types values are e room = by_kind (find_label c state.frame.function.code.items open_ones state.frame.labels l types are e)
    where
      by_kind : ToLabel c state.frame.function.code.items open_ones state.frame.labels l types ⊎ OutOfAll c state.frame.function.code.items state.frame.labels l types
          → Branches tree (with_values values state) (slice_get state.frame.labels l)
      by_kind (inl t) = subst (Branches tree (with_values values state)) (sym t.got) (omega (arith, t.is.arity, ap length t.takes, room))
      by_kind (inr o) = subst (Branches tree (with_values values state)) (sym o.got) (omega (arith, arity, ap length o.takes, length-map type.results integer, room))

  pub operands_are_there : (number : ℕ) (called : FuncType) (stack lower : List WasmType) → HasType c number called → stack ≡ lower ++ called.params → Typed stack state.frame.values
      → (found : Signature) → type_of tree number ≡ Some found → length found.params ≤ length state.frame.values
  operands_are_there number called stack lower has e h found got =
      let f = mapped_get (λ function. function.type_index) tree.functions number has.0 has.1 in
      let t = mapped_get function_type tree.types has.0 called has.2 in
      let there : type_of tree number ≡ Some t.0 =
      ap (option_and_then (λ function. slice_get tree.types function.type_index)) f.1 ∙ ap (slice_get tree.types) f.2 ∙ t.1 in
      let same : found ≡ t.0 = same_Some found t.0 (sym got ∙ there) in
      let long : length called.params ≡ length found.params = ap (λ type. length type.params) (sym t.2) ∙ length-map t.0.params integer ∙ ap (λ s. length s.params) (sym same) in
      let n = enough stack lower called.params state.frame.values e h in
      omega (arith, n, long)

  pub operator_operands : (op : Op) (row : OpRow) (kind : WasmType) (stack lower : List WasmType) → row_of op ≡ Some row → stack ≡ lower ++ replicate row.operands kind
      → Typed stack state.frame.values → (found : OpRow) → row_of op ≡ Some found → found.operands ≤ length state.frame.values
  operator_operands op row kind stack lower is e h found got =
      let same : found ≡ row = same_Some found row (sym got ∙ is) in
      let n = enough stack lower (replicate row.operands kind) state.frame.values e h in
      omega (arith, n, length-replicate row.operands kind, ap (λ r. r.operands) same)

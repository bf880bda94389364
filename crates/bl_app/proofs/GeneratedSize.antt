-- The program of the linked tree of a module that `gen` makes has few enough commands.
use Rattle.std.proofs.Common.{◌≡◌, ℕ, zero, suc, ◌+◌, ◌*◌, ◌≤◌, Bool, true, false, List, [], ◌∷◌, ◌++◌, length, map, Option, Some, None, slice_get, sym, ap, subst, append_assoc, arith}
use Rattle.std.specs.Prelude.{◌==◌, if◌then◌else◌, option_and_then, replicate}
use Rattle.std.specs.List.{enumerate_from, flat_map, range_with_len, zip}
use Rattle.bl_base.specs.Quantity.{limit_of}
use Rattle.bl_base.specs.declared.names.ValueType.TheVariants.{I32}
use Rattle.bl_base.specs.declared.quantity.Quantity.TheVariants as quantity
use Rattle.bl_ops.specs.declared.op.Op.TheVariants.{I32Add}
use Rattle.bl_wasm.specs.IndexMaps.{Names, renamed}
use Rattle.bl_wasm.specs.Linked.{IsLinked}
use Rattle.bl_wasm.specs.declared.instruction.Instr.{Instr}
use Rattle.bl_wasm.specs.declared.instruction.Instr.TheVariants.{Loop, End, Call, LocalGet, LocalSet, Integer}
use Rattle.bl_wasm.specs.declared.linked.Function.{Function}
use Rattle.bl_wasm.specs.declared.linked.Tree.{Tree}
use Rattle.bl_wasm.specs.declared.module.Code.{Code}
use Rattle.bl_wasm.specs.declared.types.BlockType.TheVariants.{Empty}
use Rattle.bl_emit.specs.LoweredBodies.{closing, extent}
use Rattle.bl_emit.specs.NestedBodies.{Level, nest, nest_item, outermost}
use Rattle.bl_emit.specs.Numbers.{blocks, counts, counts_by, counts_of, extent_of, function_size, slots_by, total, wanted}
use Rattle.bl_emit.specs.Shapes.{Counts}
use Rattle.bl_lower.specs.Trees.{low_tree}
use Rattle.bl_lower.proofs.WellFormed.{commands_long}
use Rattle.bl_gen.specs.GeneratedModule.{item_kind}
use Rattle.bl_gen.proofs.Trees.{body, call_code, code_of, first_code, load}

closing_most : (ends : Bool) (arity : ℕ) → closing ends arity ≤ suc arity
closing_most true arity = omega arith
closing_most false arity = omega arith

abbrev values : Counts → ℕ
values counts = counts.params + counts.results

module _ (tree : Tree) (types : tree.types ≡ record { params = I32 ∷ []; results = I32 ∷ [] } ∷ []) (names : Names) where
  few_wanted : (i : ℕ) → values (wanted tree i) ≤ 2
  few_wanted zero = omega (arith, ap (λ types. values (counts_of (slice_get types 0))) types)
  few_wanted (suc i) = omega (arith, ap (λ types. values (counts_of (slice_get types (suc i)))) types)

  few_called : (o : Option Function) → values (counts_of (option_and_then (λ f. slice_get tree.types f.type_index) o)) ≤ 2
  few_called None = omega arith
  few_called (Some f) = few_wanted f.type_index

  -- ---- what items add, in a function

  module _ (f : Function) where
    -- how many commands the outermost of open constructs becomes
    abbrev outer_size : List Level → ℕ
    outer_size levels = (extent (blocks tree) (counts tree) (wanted tree) (slots_by tree f) (counts_by tree f).results [] (outermost levels)).size

    abbrev code_size : List Instr → ℕ
    code_size items = outer_size (nest (map (renamed names) items))

    -- code becomes at most so many, and what stands behind it follows
    abbrev Adds : ℕ → List Instr → Type 0
    Adds most code = (rest : List Instr) → code_size (code ++ rest) ≤ most + code_size rest

    loads : (x y : ℕ) (levels : List Level) → outer_size (nest_item (LocalGet x) (nest_item load (nest_item (LocalSet y) levels))) ≤ 7 + outer_size levels
    loads x y [] = omega arith
    loads x y (l ∷ others) = omega arith

    loops : (levels : List Level) → outer_size (nest_item (Loop Empty) (nest_item (LocalGet 1) (nest_item load (nest_item (LocalSet 0) (nest_item End levels))))) ≤ 7 + outer_size levels
    loops [] = omega arith
    loops (l ∷ others) = omega arith

    sums : (levels : List Level) → outer_size (nest_item (LocalGet 0) (nest_item (LocalGet 1) (nest_item (Integer I32Add) (nest_item (LocalSet 1) levels)))) ≤ 7 + outer_size levels
    sums [] = omega arith
    sums (l ∷ others) = omega arith

    calls : (before : ℕ) (levels : List Level) → outer_size (nest_item (LocalGet 1) (nest_item (Call before) (nest_item (LocalSet 1) levels))) ≤ 5 + outer_size levels
    calls before [] = omega arith
    calls before (l ∷ others) = omega (arith, few_called (slice_get tree.functions before))

    chosen : (b : Bool) (v w : List Instr) → Adds 7 v → Adds 7 w → Adds 7 (if b then v else w)
    chosen true v w p q = p
    chosen false v w p q = q

    item_adds : (kind : ℕ) → Adds 7 (code_of kind)
    unfolding code_of
    item_adds kind =
        chosen (kind == 0) _ _ (λ rest. loads 0 1 _) (chosen (kind == 1) _ _ (λ rest. loads 1 1 _) (chosen (kind == 2) _ _ (λ rest. loops _) (λ rest. sums _)))

    items_add : (kind_of : ℕ → ℕ) (js : List ℕ) → Adds (length js * 7) (flat_map (λ j. code_of (kind_of j)) js)
    items_add kind_of [] rest = omega arith
    items_add kind_of (j ∷ js) rest =
        let later = flat_map (λ j. code_of (kind_of j)) js in
        omega (arith, ap code_size (append_assoc (code_of (kind_of j)) later rest), item_adds (kind_of j) (later ++ rest), items_add kind_of js rest)

    call_adds : (i : ℕ) → Adds 5 (call_code i)
    call_adds zero rest = omega arith
    call_adds (suc before) rest = calls _ _

    body_short : (seed i : ℕ) → code_size (first_code seed i ++ LocalGet 1 ∷ []) ≤ 62
    unfolding first_code
    body_short seed i =
        let js = range_with_len 0 8 in
        let last = LocalGet 1 ∷ [] in
        omega (arith, ap code_size (append_assoc (flat_map (λ j. code_of (item_kind seed i j)) js) (call_code i) last), items_add (item_kind seed i) js (call_code i ++ last), call_adds i last)

  -- ---- functions

  -- a function with a body by the new names
  abbrev pub with_body : Function → Code → Function
  with_body f code = record f { code = record code { items = map (renamed names) code.items } }

  module _ (defined : ℕ × (ℕ × Code) → Function) (seed : ℕ) where
    -- so many functions with the bodies from one on, numbered from an index on, as linking defines them
    abbrev pub functions : ℕ → ℕ → ℕ → List Function
    functions index from count =
        map (λ one. with_body (defined one) one.1.1) (enumerate_from index (zip (replicate count 0) (map (body seed) (range_with_len from count))))

    -- two commands for the local, 62 for the body, and three at the most where it ends
    functions_short : (index from count : ℕ) → total (function_size tree) (functions index from count) (length (functions index from count)) ≤ count * 67
    functions_short index from zero = omega arith
    functions_short index from (suc count) =
        let f = with_body (defined (index, (0, body seed from))) (body seed from) in
        omega (arith, body_short f seed from, few_wanted f.type_index, closing_most (extent_of tree f).ends (counts_by tree f).results, functions_short (index + 1) (from + 1) count)

    pub few_commands : IsLinked tree → (size index : ℕ) → size ≤ limit_of quantity.Functions → tree.functions ≡ functions index 0 size → length (low_tree tree).commands ≤ limit_of quantity.Commands
    few_commands linked size index few is =
        omega (arith, commands_long tree linked, subst (λ fs. total (function_size tree) fs (length fs) ≤ size * 67) (sym is) (functions_short index 0 size))

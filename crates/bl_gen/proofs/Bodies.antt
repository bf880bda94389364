-- The functions of the module.
use Rattle.std.proofs.Common.{◌≡◌, ℕ, zero, suc, ◌+◌, ◌*◌, ◌<◌, ◌≤◌, List, [], ◌∷◌, ◌++◌, length, map, Bool, true, false, refl, sym, ap, ◌∙◌, subst, append_assoc, length-append, arith}
use Rattle.std.specs.Prelude.{◌^◌, ◌==◌, if◌then◌else◌}
use Rattle.std.specs.List.{All, flat_map, range_with_len}
use Rattle.std.proofs.lemmas.List.Concat.{flat_map-cons}
use Rattle.std.proofs.lemmas.List.Elements.{All-append, All-cons, All-head, All-nil, All-tail}
use Rattle.std.proofs.lemmas.List.FromFn.{get_or-range_with_len, length-range_with_len}
use Rattle.bl_leb.specs.Grammar.{◌⨾◌}
use Rattle.bl_wasm.specs.Values.{each, vec}
use Rattle.bl_wasm.specs.Instructions.{Nests, instruction, expression, none as no_items, plain as plain_item}
use Rattle.bl_wasm.specs.Limits.{greatest_depth, nesting_of}
use Rattle.bl_wasm.specs.Sections.{code_entry, function_code, local_run}
use Rattle.bl_wasm.specs.Sequences.{Sequence, none}
use Rattle.bl_wasm.specs.Typing.{Context}
use Rattle.bl_wasm.specs.declared.instruction.Instr.{Instr}
use Rattle.bl_wasm.specs.declared.instruction.Instr.TheVariants.{LocalGet}
use Rattle.bl_wasm.specs.declared.types.WasmType.{WasmType}
use Rattle.bl_wasm.specs.declared.types.WasmType.TheVariants.{I32}
use Rattle.bl_gen.specs.GeneratedModule.{call_before, function, item, items, item_kind, leb, sized as sized_bytes}
use Rattle.bl_gen.proofs.Numbers.{number_short, number_spelled}
use Rattle.bl_gen.proofs.Pieces.{IsHere, IsShallow, IsUsed, Piece, get, call_piece, each_append, get_spelled, get_typed, item_piece, pieces, two_pieces}
use Rattle.bl_gen.proofs.Trees.{body, code_of, first_code, run}
use Rattle.bl_wasm.proofs.SpellingLemmas.{both, small}

-- ---- a function

-- all but the last local.get 1
pub first_piece : (seed size i : ℕ) → i ≤ size → size < 2 ^ 32 → Piece size (items seed i 8 ++ call_before i) (first_code seed i)
unfolding items first_code
first_piece seed size i low few =
    two_pieces size _ _ _ _ (pieces size (λ j. item (item_kind seed i j)) (λ j. code_of (item_kind seed i j)) (λ j. item_piece size (item_kind seed i j)) (range_with_len 0 8)) (call_piece size i low few)

run_spelled : vec local_run (run ∷ []) (0x01 ∷ 0x01 ∷ 0x7F ∷ [])
run_spelled = both (0x01 ∷ []) (0x01 ∷ 0x7F ∷ []) (small 1 (omega arith)) (both (0x01 ∷ 0x7F ∷ []) [] (both (0x01 ∷ []) (0x7F ∷ []) (small 1 (omega arith)) refl) refl)

pub body_nests : (seed size i : ℕ) → i ≤ size → size < 2 ^ 32 → Nests (first_code seed i ++ LocalGet 1 ∷ [])
body_nests seed size i low few = (first_piece seed size i low few).nests (LocalGet 1 ∷ []) (plain_item (LocalGet 1) [] tt no_items)

-- the parts in another order of brackets
regroup : (a b c : List ℕ) (x y z : ℕ) → a ++ b ++ c ++ (x ∷ y ∷ z ∷ []) ≡ a ++ (((b ++ c) ++ (x ∷ y ∷ [])) ++ (z ∷ []))
regroup a b c x y z = simp append_assoc

pub function_spelled : (seed size i : ℕ) → i ≤ size → size < 2 ^ 32 → function_code (body seed i) (function seed i)
unfolding function
function_spelled seed size i low few =
    let code = first_code seed i in
    let first = first_piece seed size i low few in
    let all : each instruction (code ++ LocalGet 1 ∷ []) ((items seed i 8 ++ call_before i) ++ (0x20 ∷ 0x01 ∷ [])) =
    each_append instruction code (LocalGet 1 ∷ []) (items seed i 8 ++ call_before i) (0x20 ∷ 0x01 ∷ []) first.spelled (both (0x20 ∷ 0x01 ∷ []) [] (get_spelled 1 (omega arith)) refl) in
    let whole : expression (code ++ LocalGet 1 ∷ []) (((items seed i 8 ++ call_before i) ++ (0x20 ∷ 0x01 ∷ [])) ++ (0x0B ∷ [])) = (body_nests seed size i low few, both _ (0x0B ∷ []) all refl) in (
      omega arith,
      subst (λ (bytes : List ℕ). (vec local_run (run ∷ []) ⨾ expression (code ++ LocalGet 1 ∷ [])) bytes) (sym (regroup (0x01 ∷ 0x01 ∷ 0x7F ∷ []) (items seed i 8) (call_before i) 0x20 0x01 0x0B))
          (both (0x01 ∷ 0x01 ∷ 0x7F ∷ []) (((items seed i 8 ++ call_before i) ++ (0x20 ∷ 0x01 ∷ [])) ++ (0x0B ∷ [])) run_spelled whole),
    )

-- every instruction of a body is one of those that are used
pub body_used : (seed size i : ℕ) → i ≤ size → size < 2 ^ 32 → All IsUsed (first_code seed i ++ LocalGet 1 ∷ [])
body_used seed size i low few = All-append IsUsed (first_code seed i) (LocalGet 1 ∷ []) (first_piece seed size i low few).used (All-cons IsUsed (LocalGet 1) [] (get 1) (All-nil IsUsed))

-- ---- how long it is

one_short : (b : Bool) (x y : List ℕ) → length x ≤ 10 → length y ≤ 10 → length (if b then x else y) ≤ 10
one_short true x y p q = p
one_short false x y p q = q

item_short : (kind : ℕ) → length (item kind) ≤ 10
unfolding item
item_short kind =
    one_short (kind == 0) _ _ (omega arith) (one_short (kind == 1) _ _ (omega arith) (one_short (kind == 2) _ _ (omega arith) (omega arith)))

-- pieces of at most so many bytes
pub all_short : (f : ℕ → List ℕ) (most : ℕ) → (js : List ℕ) → All (λ j. length (f j) ≤ most) js → length (flat_map f js) ≤ length js * most
all_short f most [] h = omega arith
all_short f most (j ∷ js) h =
    let rest = all_short f most js (All-tail (λ k. length (f k) ≤ most) j js h) in
    let first = All-head (λ k. length (f k) ≤ most) j js h in
    let whole = ap length (flat_map-cons f j js) ∙ length-append (f j) (flat_map f js) in
    omega (arith, first, rest, whole)

call_short : (i : ℕ) → i < 2 ^ 32 → length (call_before i) ≤ 10
unfolding call_before
call_short zero fits = omega arith
call_short (suc before) fits =
    let number = number_short before (omega arith) in
    omega (arith, length-append (0x20 ∷ 0x01 ∷ 0x10 ∷ leb before) (0x21 ∷ 0x01 ∷ []), number)

items_short : (seed i : ℕ) → length (items seed i 8) ≤ 80
unfolding items
items_short seed i = all_short (λ j. item (item_kind seed i j)) 10 (range_with_len 0 8) (λ k d less. item_short _)

pub function_short : (seed i : ℕ) → i < 2 ^ 32 → length (function seed i) ≤ 96
unfolding function
function_short seed i fits =
    let first = items_short seed i in
    let call = call_short i fits in
    omega (arith, length-append ((0x01 ∷ 0x01 ∷ 0x7F ∷ []) ++ items seed i 8 ++ call_before i) (0x20 ∷ 0x01 ∷ 0x0B ∷ []), length-append ((0x01 ∷ 0x01 ∷ 0x7F ∷ []) ++ items seed i 8) (call_before i))

pub entry_short : (seed i : ℕ) → i < 2 ^ 32 → length (sized_bytes (function seed i)) ≤ 101
entry_short seed i fits =
    let code = function_short seed i fits in
    let number = number_short (length (function seed i)) (omega arith) in
    omega (arith, length-append (leb (length (function seed i))) (function seed i))

-- ---- all functions

entry_spelled : (seed size i : ℕ) → i ≤ size → size < 2 ^ 32 → code_entry (body seed i) (sized_bytes (function seed i))
entry_spelled seed size i low few =
    let short = function_short seed i (omega arith) in
    record {
      size = leb (length (function seed i));
      contents = function seed i;
      whole = refl;
      counted = number_spelled (length (function seed i)) (omega arith);
      spelled = function_spelled seed size i low few;
    }

pub entries_spelled : (seed size from count : ℕ) → from + count ≤ size → size < 2 ^ 32
    → each code_entry (map (body seed) (range_with_len from count)) (flat_map (λ i. sized_bytes (function seed i)) (range_with_len from count))
entries_spelled seed size from zero low few = refl
entries_spelled seed size from (suc count) low few =
    let later = entries_spelled seed size (from + 1) count (omega arith) few in
    subst (λ (bytes : List ℕ). each code_entry (body seed from ∷ map (body seed) (range_with_len (from + 1) count)) bytes) (sym (flat_map-cons (λ i. sized_bytes (function seed i)) from (range_with_len (from + 1) count)))
    (both (sized_bytes (function seed from)) _ (entry_spelled seed size from (omega arith) few) later)

-- what holds of each number below a count
pub all_below : (P : ℕ → Type 0) (count : ℕ) → ((i : ℕ) → i < count → P i) → All P (range_with_len 0 count)
all_below P count h k d less =
    let long = length-range_with_len 0 count in
    subst P (sym (get_or-range_with_len 0 count k d (omega arith))) (h (0 + k) (omega arith))

-- ---- what is open, and typings

alone_shallow : IsShallow (LocalGet 1 ∷ [])
alone_shallow zero = omega arith
alone_shallow (suc zero) = omega arith
alone_shallow (suc (suc place)) = omega arith

depths : (code : List Instr) → IsShallow code → (places : ℕ) → greatest_depth code places ≤ 1
depths code h zero = omega arith
depths code h (suc places) = omega (arith, h places, depths code h places)

pub nesting_low : (seed size i : ℕ) → i ≤ size → size < 2 ^ 32 → nesting_of (first_code seed i ++ LocalGet 1 ∷ []) ≤ 1
nesting_low seed size i low few =
    let code = first_code seed i ++ LocalGet 1 ∷ [] in
    depths code ((first_piece seed size i low few).shallow (LocalGet 1 ∷ []) alone_shallow) (length code + 1)

pub body_typed : (seed size i : ℕ) → i ≤ size → size < 2 ^ 32 → (c : Context) → IsHere size c → (ls : List (List WasmType)) → Sequence c ls (first_code seed i ++ LocalGet 1 ∷ []) [] (I32 ∷ [])
body_typed seed size i low few c here ls = (first_piece seed size i low few).typed c here ls (LocalGet 1 ∷ []) (I32 ∷ []) (get_typed size c ls 1 [] [] (I32 ∷ []) here (omega arith) none)

-- What holds of the code of each item, and of items one after another.
use Rattle.std.proofs.Common.{◌≡◌, ℕ, zero, suc, ◌<◌, ◌≤◌, List, [], ◌∷◌, ◌++◌, length, Some, Bool, true, false, refl, sym, ap, ◌∙◌, subst, append_assoc, append-nil, arith}
use Rattle.std.specs.Prelude.{slice_get, replicate, ◌==◌, ◌^◌, if◌then◌else◌}
use Rattle.std.proofs.lemmas.List.{get_or-replicate, length-replicate}
use Rattle.std.proofs.lemmas.Option.{slice_get-get_or}
use Rattle.std.specs.List.{All, flat_map}
use Rattle.std.proofs.lemmas.List.Concat.{flat_map-cons}
use Rattle.std.proofs.lemmas.List.Elements.{All-append, All-cons, All-nil}
use Rattle.bl_leb.specs.Grammar.{Spellings, ◌⨾◌}
use Rattle.bl_wasm.specs.Values.{each}
use Rattle.bl_wasm.specs.Instructions.{Nests, instruction, none as no_items, plain as plain_item, loop as loop_items}
use Rattle.bl_wasm.specs.OpenConstructs.{depth_at}
use Rattle.bl_wasm.specs.Sequences.{Sequence, none, plain, loop}
use Rattle.bl_wasm.specs.Typing.{Context}
use Rattle.bl_wasm.specs.declared.instruction.Instr.{Instr}
use Rattle.bl_wasm.specs.declared.instruction.Instr.TheVariants.{Loop, End, Call, LocalGet, LocalSet, Integer}
use Rattle.bl_wasm.specs.declared.types.BlockType.TheVariants.{Empty}
use Rattle.bl_wasm.specs.declared.types.FuncType.{FuncType}
use Rattle.bl_wasm.specs.declared.types.WasmType.{WasmType}
use Rattle.bl_wasm.specs.declared.types.WasmType.TheVariants.{I32}
use Rattle.bl_ops.specs.declared.op.Op.TheVariants.{I32Add}
use Rattle.bl_gen.specs.GeneratedModule.{call_before, item, leb}
use Rattle.bl_gen.proofs.Numbers.{number_spelled}
use Rattle.bl_gen.proofs.Trees.{call_code, code_2, code_3, code_of, inside_2, load, type}
use Rattle.bl_wasm.proofs.SpellingLemmas.{both, after, small}

-- ---- spellings

-- spellings one after another
pub each_append : {A : Type 0} (B : A → Spellings) (xs ys : List A) (a b : List ℕ) → each B xs a → each B ys b → each B (xs ++ ys) (a ++ b)
each_append B [] ys a b p q = subst (λ (t : List ℕ). each B ys (t ++ b)) (sym p) q
each_append B (x ∷ xs) ys a b p q = record {
  front = p.front;
  rest = p.rest ++ b;
  whole = ap (λ t. t ++ b) p.whole ∙ append_assoc p.front p.rest b;
  first = p.first;
  second = each_append B xs ys p.rest b p.second q;
}

-- ---- a piece of code

-- a context in which the functions stand
pub record IsHere (size : ℕ) (c : Context) : Type 0 where
  pub types : c.types ≡ type ∷ []
  pub functions : c.functions ≡ replicate size 0
  pub memories : 1 ≤ c.memories
  pub locals : c.locals ≡ I32 ∷ I32 ∷ []

-- at each place at most one construct is open
abbrev pub IsShallow : List Instr → Type 0
IsShallow code = (place : ℕ) → depth_at code place ≤ 1

-- the instructions that are used
pub data IsUsed : Instr → Type 0 where
  get : (x : ℕ) → IsUsed (LocalGet x)
  set : (x : ℕ) → IsUsed (LocalSet x)
  a_load : IsUsed load
  an_add : IsUsed (Integer I32Add)
  a_loop : IsUsed (Loop Empty)
  an_end : IsUsed End
  a_call : (before : ℕ) → IsUsed (Call before)

-- code that goes from no operands to none, with its bytes
pub record Piece (size : ℕ) (bytes : List ℕ) (code : List Instr) : Type 0 where
  pub spelled : each instruction code bytes
  pub nests : (rest : List Instr) → Nests rest → Nests (code ++ rest)
  pub typed : (c : Context) → IsHere size c → (ls : List (List WasmType)) (rest : List Instr) (to : List WasmType) → Sequence c ls rest [] to → Sequence c ls (code ++ rest) [] to
  pub shallow : (rest : List Instr) → IsShallow rest → IsShallow (code ++ rest)
  pub used : All IsUsed code

-- ---- the pieces one after another

pub no_piece : (size : ℕ) → Piece size [] []
no_piece size = record {
  spelled = refl;
  nests = λ rest n. n;
  typed = λ c here ls rest to s. s;
  shallow = λ rest h. h;
  used = All-nil IsUsed;
}

pub two_pieces : (size : ℕ) (a b : List ℕ) (xs ys : List Instr) → Piece size a xs → Piece size b ys → Piece size (a ++ b) (xs ++ ys)
two_pieces size a b xs ys p q = record {
  spelled = each_append instruction xs ys a b p.spelled q.spelled;
  nests = λ rest n. subst (λ (code : List Instr). Nests code) (sym (append_assoc xs ys rest)) (p.nests (ys ++ rest) (q.nests rest n));
  typed = λ c here ls rest to s. subst (λ (code : List Instr). Sequence c ls code [] to) (sym (append_assoc xs ys rest)) (p.typed c here ls (ys ++ rest) to (q.typed c here ls rest to s));
  shallow = λ rest h. subst (λ (code : List Instr). IsShallow code) (sym (append_assoc xs ys rest)) (p.shallow (ys ++ rest) (q.shallow rest h));
  used = All-append IsUsed xs ys p.used q.used;
}

pub pieces : (size : ℕ) (f : ℕ → List ℕ) (g : ℕ → List Instr) → ((j : ℕ) → Piece size (f j) (g j)) → (js : List ℕ) → Piece size (flat_map f js) (flat_map g js)
pieces size f g each_one [] = no_piece size
pieces size f g each_one (j ∷ js) =
    subst (λ (bytes : List ℕ). Piece size bytes (flat_map g (j ∷ js))) (sym (flat_map-cons f j js))
    (subst (λ (code : List Instr). Piece size (f j ++ flat_map f js) code) (sym (flat_map-cons g j js))
    (two_pieces size (f j) (flat_map f js) (g j) (flat_map g js) (each_one j) (pieces size f g each_one js)))

-- ---- spellings of the instructions

pub get_spelled : (x : ℕ) → x < 128 → instruction (LocalGet x) (0x20 ∷ x ∷ [])
get_spelled x low = after (x ∷ []) (small x low)

set_spelled : (x : ℕ) → x < 128 → instruction (LocalSet x) (0x21 ∷ x ∷ [])
set_spelled x low = after (x ∷ []) (small x low)

load_spelled : instruction load (0x28 ∷ 0x02 ∷ 0x00 ∷ [])
load_spelled = (refl, after (0x02 ∷ 0x00 ∷ []) (both (0x02 ∷ []) (0x00 ∷ []) (small 2 (omega arith)) (small 0 (omega arith))))

add_spelled : instruction (Integer I32Add) (0x6A ∷ [])
add_spelled = (0x6A, refl, refl)

-- a load from a local to a local
loads_spelled : (x y : ℕ) → x < 128 → y < 128 → each instruction (LocalGet x ∷ load ∷ LocalSet y ∷ []) (0x20 ∷ x ∷ 0x28 ∷ 0x02 ∷ 0x00 ∷ 0x21 ∷ y ∷ [])
loads_spelled x y low short =
    both (0x20 ∷ x ∷ []) (0x28 ∷ 0x02 ∷ 0x00 ∷ 0x21 ∷ y ∷ []) (get_spelled x low)
    (both (0x28 ∷ 0x02 ∷ 0x00 ∷ []) (0x21 ∷ y ∷ []) load_spelled (both (0x21 ∷ y ∷ []) [] (set_spelled y short) refl))

loop_spelled : each instruction code_2 (0x03 ∷ 0x40 ∷ 0x20 ∷ 0x01 ∷ 0x28 ∷ 0x02 ∷ 0x00 ∷ 0x21 ∷ 0x00 ∷ 0x0B ∷ [])
loop_spelled =
    both (0x03 ∷ 0x40 ∷ []) (0x20 ∷ 0x01 ∷ 0x28 ∷ 0x02 ∷ 0x00 ∷ 0x21 ∷ 0x00 ∷ 0x0B ∷ []) (after (0x40 ∷ []) refl)
    (each_append instruction inside_2 (End ∷ []) (0x20 ∷ 0x01 ∷ 0x28 ∷ 0x02 ∷ 0x00 ∷ 0x21 ∷ 0x00 ∷ []) (0x0B ∷ []) (loads_spelled 1 0 (omega arith) (omega arith)) (both (0x0B ∷ []) [] refl refl))

adds_spelled : each instruction code_3 (0x20 ∷ 0x00 ∷ 0x20 ∷ 0x01 ∷ 0x6A ∷ 0x21 ∷ 0x01 ∷ [])
adds_spelled =
    both (0x20 ∷ 0x00 ∷ []) (0x20 ∷ 0x01 ∷ 0x6A ∷ 0x21 ∷ 0x01 ∷ []) (get_spelled 0 (omega arith))
    (both (0x20 ∷ 0x01 ∷ []) (0x6A ∷ 0x21 ∷ 0x01 ∷ []) (get_spelled 1 (omega arith))
    (both (0x6A ∷ []) (0x21 ∷ 0x01 ∷ []) add_spelled (both (0x21 ∷ 0x01 ∷ []) [] (set_spelled 1 (omega arith)) refl)))

-- ---- typings of the instructions

-- the local of an index below 2
is_local : (size : ℕ) (c : Context) (x : ℕ) → IsHere size c → x < 2 → slice_get c.locals x ≡ Some I32
is_local size c zero here low = ap (λ l. slice_get l 0) here.locals
is_local size c (suc zero) here low = ap (λ l. slice_get l 1) here.locals
is_local size c (suc (suc x)) here low = absurd (omega arith)

pub get_typed : (size : ℕ) (c : Context) (ls : List (List WasmType)) (x : ℕ) (rest : List Instr) (from to : List WasmType) → IsHere size c → x < 2 → Sequence c ls rest (from ++ I32 ∷ []) to → Sequence c ls (LocalGet x ∷ rest) from to
get_typed size c ls x rest from to here low later = plain (LocalGet x) tt (I32, is_local size c x here low, record { lower = from; before = sym (append-nil from); behind = refl }) later

set_typed : (size : ℕ) (c : Context) (ls : List (List WasmType)) (x : ℕ) (rest : List Instr) (to : List WasmType) → IsHere size c → x < 2 → Sequence c ls rest [] to → Sequence c ls (LocalSet x ∷ rest) (I32 ∷ []) to
set_typed size c ls x rest to here low later = plain (LocalSet x) tt (I32, is_local size c x here low, record { lower = []; before = refl; behind = refl }) later

load_typed : (size : ℕ) (c : Context) (ls : List (List WasmType)) (rest : List Instr) (to : List WasmType) → IsHere size c → Sequence c ls rest (I32 ∷ []) to → Sequence c ls (load ∷ rest) (I32 ∷ []) to
load_typed size c ls rest to here later = plain load tt (refl, omega arith, here.memories, record { lower = []; before = refl; behind = refl }) later

add_typed : (c : Context) (ls : List (List WasmType)) (rest : List Instr) (to : List WasmType) → Sequence c ls rest (I32 ∷ []) to → Sequence c ls (Integer I32Add ∷ rest) (I32 ∷ I32 ∷ []) to
add_typed c ls rest to later = plain (Integer I32Add) tt (_, refl, record { lower = []; before = refl; behind = refl }) later

loads_typed : (size : ℕ) (c : Context) (ls : List (List WasmType)) (x y : ℕ) (rest : List Instr) (to : List WasmType) → IsHere size c → x < 2 → y < 2 → Sequence c ls rest [] to → Sequence c ls (LocalGet x ∷ load ∷ LocalSet y ∷ rest) [] to
loads_typed size c ls x y rest to here low short later =
    get_typed size c ls x (load ∷ LocalSet y ∷ rest) [] to here low (load_typed size c ls (LocalSet y ∷ rest) to here (set_typed size c ls y rest to here short later))

-- ---- the pieces of the four kinds

one_more : (x : Instr) (rest : List Instr) → IsUsed x → All IsUsed rest → All IsUsed (x ∷ rest)
one_more x rest u h = All-cons IsUsed x rest u h

all_three : (x y z : Instr) → IsUsed x → IsUsed y → IsUsed z → All IsUsed (x ∷ y ∷ z ∷ [])
all_three x y z u v w = one_more x (y ∷ z ∷ []) u (one_more y (z ∷ []) v (one_more z [] w (All-nil IsUsed)))

loads_shallow : (x y : ℕ) (rest : List Instr) → IsShallow rest → IsShallow (LocalGet x ∷ load ∷ LocalSet y ∷ rest)
loads_shallow x y rest h zero = omega arith
loads_shallow x y rest h (suc zero) = omega arith
loads_shallow x y rest h (suc (suc zero)) = omega arith
loads_shallow x y rest h (suc (suc (suc place))) = h place

loads_piece : (size x y : ℕ) → x < 2 → y < 2 → Piece size (0x20 ∷ x ∷ 0x28 ∷ 0x02 ∷ 0x00 ∷ 0x21 ∷ y ∷ []) (LocalGet x ∷ load ∷ LocalSet y ∷ [])
loads_piece size x y low short = record {
  spelled = loads_spelled x y (omega arith) (omega arith);
  nests = λ rest n. plain_item (LocalGet x) _ tt (plain_item load _ tt (plain_item (LocalSet y) _ tt n));
  typed = λ c here ls rest to s. loads_typed size c ls x y rest to here low short s;
  shallow = loads_shallow x y;
  used = all_three (LocalGet x) load (LocalSet y) (get x) a_load (set y);
}

loop_shallow : (rest : List Instr) → IsShallow rest → IsShallow (code_2 ++ rest)
loop_shallow rest h zero = omega arith
loop_shallow rest h (suc zero) = omega arith
loop_shallow rest h (suc (suc zero)) = omega arith
loop_shallow rest h (suc (suc (suc zero))) = omega arith
loop_shallow rest h (suc (suc (suc (suc zero)))) = omega arith
loop_shallow rest h (suc (suc (suc (suc (suc place))))) = h place

-- the type of a block without one
abbrev to_nothing : FuncType
to_nothing = record { params = []; results = [] }

loop_typed : (size : ℕ) (c : Context) → IsHere size c → (ls : List (List WasmType)) (rest : List Instr) (to : List WasmType) → Sequence c ls rest [] to → Sequence c ls (code_2 ++ rest) [] to
loop_typed size c here ls rest to later = loop Empty to_nothing [] inside_2 rest refl (loads_typed size c ([] ∷ ls) 1 0 [] [] here (omega arith) (omega arith) none) later

loop_piece : (size : ℕ) → Piece size (0x03 ∷ 0x40 ∷ 0x20 ∷ 0x01 ∷ 0x28 ∷ 0x02 ∷ 0x00 ∷ 0x21 ∷ 0x00 ∷ 0x0B ∷ []) code_2
loop_piece size = record {
  spelled = loop_spelled;
  nests = λ rest n. loop_items Empty inside_2 rest (plain_item (LocalGet 1) _ tt (plain_item load _ tt (plain_item (LocalSet 0) _ tt no_items))) n;
  typed = loop_typed size;
  shallow = loop_shallow;
  used = one_more (Loop Empty) (inside_2 ++ End ∷ []) a_loop
      (All-append IsUsed inside_2 (End ∷ []) (all_three (LocalGet 1) load (LocalSet 0) (get 1) a_load (set 0)) (one_more End [] an_end (All-nil IsUsed)));
}

adds_shallow : (rest : List Instr) → IsShallow rest → IsShallow (code_3 ++ rest)
adds_shallow rest h zero = omega arith
adds_shallow rest h (suc zero) = omega arith
adds_shallow rest h (suc (suc zero)) = omega arith
adds_shallow rest h (suc (suc (suc zero))) = omega arith
adds_shallow rest h (suc (suc (suc (suc place)))) = h place

adds_typed : (size : ℕ) (c : Context) → IsHere size c → (ls : List (List WasmType)) (rest : List Instr) (to : List WasmType) → Sequence c ls rest [] to → Sequence c ls (code_3 ++ rest) [] to
adds_typed size c here ls rest to later =
    get_typed size c ls 0 _ [] to here (omega arith) (get_typed size c ls 1 _ (I32 ∷ []) to here (omega arith) (add_typed c ls (LocalSet 1 ∷ rest) to (set_typed size c ls 1 rest to here (omega arith) later)))

adds_piece : (size : ℕ) → Piece size (0x20 ∷ 0x00 ∷ 0x20 ∷ 0x01 ∷ 0x6A ∷ 0x21 ∷ 0x01 ∷ []) code_3
adds_piece size = record {
  spelled = adds_spelled;
  nests = λ rest n. plain_item (LocalGet 0) _ tt (plain_item (LocalGet 1) _ tt (plain_item (Integer I32Add) _ tt (plain_item (LocalSet 1) _ tt n)));
  typed = adds_typed size;
  shallow = adds_shallow;
  used = one_more (LocalGet 0) (LocalGet 1 ∷ Integer I32Add ∷ LocalSet 1 ∷ []) (get 0) (all_three (LocalGet 1) (Integer I32Add) (LocalSet 1) (get 1) an_add (set 1));
}

-- one of two pieces
chosen : (size : ℕ) (b : Bool) (x y : List ℕ) (v w : List Instr) → Piece size x v → Piece size y w → Piece size (if b then x else y) (if b then v else w)
chosen size true x y v w p q = p
chosen size false x y v w p q = q

pub item_piece : (size kind : ℕ) → Piece size (item kind) (code_of kind)
unfolding item code_of
item_piece size kind =
    chosen size (kind == 0) _ _ _ _ (loads_piece size 0 1 (omega arith) (omega arith))
    (chosen size (kind == 1) _ _ _ _ (loads_piece size 1 1 (omega arith) (omega arith))
    (chosen size (kind == 2) _ _ _ _ (loop_piece size) (adds_piece size)))

-- ---- the call of the function before

-- each function is of type 0
pub zero_there : (size before : ℕ) → before < size → slice_get {X = ℕ} (replicate size 0) before ≡ Some 0
zero_there size before less =
    let long : length {A = ℕ} (replicate size 0) ≡ size = length-replicate size 0 in
    slice_get-get_or {X = ℕ} (replicate size 0) before 0 (omega arith) ∙ ap Some (get_or-replicate size before 0 0 less)

call_typed : (size before : ℕ) → before < size → (c : Context) → IsHere size c → (ls : List (List WasmType)) (rest : List Instr) (to : List WasmType) → Sequence c ls rest [] to
    → Sequence c ls (LocalGet 1 ∷ Call before ∷ LocalSet 1 ∷ rest) [] to
call_typed size before less c here ls rest to later =
    get_typed size c ls 1 _ [] to here (omega arith)
    (plain (Call before) tt
    (type, (0, ap (λ l. slice_get l before) here.functions ∙ zero_there size before less, ap (λ l. slice_get l 0) here.types), record { lower = []; before = refl; behind = refl })
    (set_typed size c ls 1 rest to here (omega arith) later))

call_shallow : (before : ℕ) (rest : List Instr) → IsShallow rest → IsShallow (LocalGet 1 ∷ Call before ∷ LocalSet 1 ∷ rest)
call_shallow before rest h zero = omega arith
call_shallow before rest h (suc zero) = omega arith
call_shallow before rest h (suc (suc zero)) = omega arith
call_shallow before rest h (suc (suc (suc place))) = h place

call_spelled : (before : ℕ) → before < 2 ^ 32 → each instruction (LocalGet 1 ∷ Call before ∷ LocalSet 1 ∷ []) ((0x20 ∷ 0x01 ∷ 0x10 ∷ []) ++ leb before ++ (0x21 ∷ 0x01 ∷ []))
call_spelled before fits =
    both (0x20 ∷ 0x01 ∷ []) (0x10 ∷ (leb before ++ 0x21 ∷ 0x01 ∷ [])) (get_spelled 1 (omega arith))
    (both (0x10 ∷ leb before) (0x21 ∷ 0x01 ∷ []) (after (leb before) (number_spelled before fits)) (both (0x21 ∷ 0x01 ∷ []) [] (set_spelled 1 (omega arith)) refl))

pub call_piece : (size i : ℕ) → i ≤ size → size < 2 ^ 32 → Piece size (call_before i) (call_code i)
unfolding call_before
call_piece size zero low few = no_piece size
call_piece size (suc before) low few = record {
  spelled = call_spelled before (omega arith);
  nests = λ rest n. plain_item (LocalGet 1) _ tt (plain_item (Call before) _ tt (plain_item (LocalSet 1) _ tt n));
  typed = call_typed size before (omega arith);
  shallow = call_shallow before;
  used = all_three (LocalGet 1) (Call before) (LocalSet 1) (get 1) (a_call before) (set 1);
}

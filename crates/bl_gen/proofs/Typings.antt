-- The tree of the module is valid, and within the limits.
use Rattle.std.proofs.Common.{◌≡◌, ℕ, zero, suc, ◌-◌, ◌<◌, ◌≤◌, List, [], ◌∷◌, ◌++◌, length, map, Option, Some, None, refl, sym, ap, ◌∙◌, arith}
use Rattle.std.specs.Prelude.{replicate, slice_get}
use Rattle.std.specs.List.{All, range_with_len, zip}
use Rattle.std.specs.Option.{option_or}
use Rattle.std.proofs.lemmas.Bool.{le-ltb}
use Rattle.std.proofs.lemmas.List.{length-replicate}
use Rattle.std.proofs.lemmas.List.Elements.{All-cons, All-head, All-map, All-nil, All-replicate, All-tail}
use Rattle.std.proofs.lemmas.List.FromFn.{get_or-map-range_with_len, length-map-range_with_len}
use Rattle.std.proofs.lemmas.Option.{none-some, slice_get-get_or}
use Rattle.bl_base.specs.Quantity.{limit_of}
use Rattle.bl_base.specs.declared.quantity.Quantity.{Quantity}
use Rattle.bl_base.specs.declared.quantity.Quantity.TheVariants as quantity
use Rattle.bl_wasm.specs.Limits.{Excess, above, first_excess, first_in, function_excess, local_count, nesting_of, targets_above}
use Rattle.bl_wasm.specs.Typing.{labels}
use Rattle.bl_wasm.specs.Validity.{AreDistinct, HasIntegers, HasTyping, IsCode, IsData, IsElement, IsInitial, IsFunctionType, IsInteger, IsLimits, IsMemory, IsValid, Typed, context_of, space_of}
use Rattle.bl_wasm.specs.declared.instruction.Instr.{Instr}
use Rattle.bl_wasm.specs.declared.instruction.Instr.TheVariants.{LocalGet}
use Rattle.bl_wasm.specs.declared.module.Code.{Code}
use Rattle.bl_wasm.specs.declared.types.WasmType.TheVariants.{I32}
use Rattle.bl_wasm.proofs.SequenceLemmas.{sequence_is_typing}
use Rattle.bl_gen.proofs.Bodies.{all_below, body_typed, body_used, nesting_low}
use Rattle.bl_gen.proofs.Pieces.{IsHere, IsUsed, a_call, a_load, a_loop, an_add, an_end, get, set, zero_there}
use Rattle.bl_gen.proofs.Trees.{body, first_code, last, memory, run, tree, type}

-- ---- the instructions that are used

has_integers : (one : Instr) → IsUsed one → HasIntegers one
has_integers _ (get x) = tt
has_integers _ (set x) = tt
has_integers _ a_load = tt
has_integers _ an_add = tt
has_integers _ a_loop = tt
has_integers _ an_end = tt
has_integers _ (a_call before) = tt

no_targets : (one : Instr) → IsUsed one → targets_above one ≡ None
no_targets _ (get x) = refl
no_targets _ (set x) = refl
no_targets _ a_load = refl
no_targets _ an_add = refl
no_targets _ a_loop = refl
no_targets _ an_end = refl
no_targets _ (a_call before) = refl

-- ---- typings

module _ (seed size : ℕ) (few : size ≤ 10000) where
  is_here : (i : ℕ) → IsHere size (context_of (tree seed size) type (body seed i))
  is_here i = record { types = refl; functions = refl; memories = omega arith; locals = refl }

  body_there : (i : ℕ) → i < size → slice_get (map (body seed) (range_with_len 0 size)) i ≡ Some (body seed i)
  body_there i less =
      let long = length-map-range_with_len (body seed) 0 size in
      slice_get-get_or (map (body seed) (range_with_len 0 size)) i (body seed i) (omega arith) ∙ ap Some (get_or-map-range_with_len (body seed) 0 size i i (body seed i) less (omega arith))

  has_typing : (i : ℕ) → i < length (replicate {A = ℕ} size 0) → HasTyping (tree seed size) i
  has_typing i inside =
      let long : length {A = ℕ} (replicate size 0) ≡ size = length-replicate size 0 in
      let c = context_of (tree seed size) type (body seed i) in
      let typing = sequence_is_typing c (first_code seed i ++ LocalGet 1 ∷ []) (body_typed seed size i (omega arith) (omega arith) c (is_here i) (labels c [])) in
      record {
        index = 0;
        type = type;
        code = body seed i;
        places = typing.0;
        named = zero_there size i (omega arith);
        exists = refl;
        body = body_there i (omega arith);
        typing = typing.1;
      }

  -- ---- the other rules

  one_all : {A : Type 0} (P : A → Type 0) (x : A) → P x → All P (x ∷ [])
  one_all P x p = All-cons P x [] p (All-nil P)

  is_code : (i : ℕ) → i < size → IsCode (body seed i)
  is_code i less = record {
    locals = one_all (λ run. IsInteger run.kind) run tt;
    items = λ k d inside. has_integers _ (body_used seed size i (omega arith) (omega arith) k d inside);
  }

  distinct : AreDistinct (last size ∷ [])
  distinct zero zero a b e f same = refl
  distinct zero (suc j) a b e f same = absurd (none-some b f)
  distinct (suc i) j a b e f same = absurd (none-some a e)

  is_valid : 1 ≤ size → IsValid (tree seed size)
  is_valid some =
      let long : length {A = ℕ} (replicate size 0) ≡ size = length-replicate size 0 in
      let exported : size - 1 < length (replicate {A = ℕ} size 0) = omega arith in
      record {
        types = one_all IsFunctionType type (record { params = one_all IsInteger I32 tt; results = one_all IsInteger I32 tt });
        functions = All-replicate (λ index. index < 1) size 0 (omega arith);
        counts = long ∙ sym (length-map-range_with_len (body seed) 0 size);
        codes = All-map IsCode (body seed) (range_with_len 0 size) (all_below (λ i. IsCode (body seed i)) size is_code);
        one_table = omega arith;
        one_memory = omega arith;
        tables = All-nil IsLimits;
        memories = one_all IsMemory memory (record { limits = tt; min = omega arith; max = tt });
        kinds = All-nil (λ global. IsInteger global.kind);
        initials = All-nil (λ global. IsInitial [] global.kind.kind global.initial);
        elements = All-nil (IsElement (tree seed size));
        segments = All-nil (IsData (tree seed size));
        exports = one_all (λ entry. entry.index < space_of (tree seed size) entry.kind) (last size) exported;
        distinct = distinct;
        start = refl;
      }

  pub typed : 1 ≤ size → Typed (tree seed size)
  typed some = record { functions = has_typing; rules = is_valid some }

  -- ---- the limits

  above_none : (which : Quantity) (value : ℕ) → value ≤ limit_of which → above which value ≡ None
  above_none which value low = rw (le-ltb (limit_of which) value low) refl

  none_in : {A : Type 0} (found : A → Option Excess) (xs : List A) → All (λ x. found x ≡ None) xs → first_in found xs ≡ None
  none_in found [] h = refl
  none_in found (x ∷ xs) h = rw (All-head (λ y. found y ≡ None) x xs h) (none_in found xs (All-tail (λ y. found y ≡ None) x xs h))

  or_none : {A : Type 0} (a b : Option A) → a ≡ None → b ≡ None → option_or a b ≡ None
  or_none a b e f = rw e f

  function_within : (i : ℕ) → i < size → function_excess (type ∷ []) (0, body seed i) ≡ None
  function_within i less =
      let low = nesting_low seed size i (omega arith) (omega arith) in
      let used = body_used seed size i (omega arith) (omega arith) in
      or_none (above quantity.Locals (local_count (type ∷ []) (0, body seed i))) _ refl
      (or_none (above quantity.Nesting (nesting_of (first_code seed i ++ LocalGet 1 ∷ []))) _ (above_none quantity.Nesting (nesting_of (first_code seed i ++ LocalGet 1 ∷ [])) (omega arith))
      (none_in targets_above (first_code seed i ++ LocalGet 1 ∷ []) (λ k d inside. no_targets _ (used k d inside))))

  none_in_zip : (count : ℕ) (codes : List Code) → All (λ code. function_excess (type ∷ []) (0, code) ≡ None) codes → first_in (function_excess (type ∷ [])) (zip (replicate count 0) codes) ≡ None
  none_in_zip zero codes h = refl
  none_in_zip (suc count) [] h = refl
  none_in_zip (suc count) (code ∷ codes) h =
      or_none (function_excess (type ∷ []) (0, code)) _ (All-head (λ code. function_excess (type ∷ []) (0, code) ≡ None) code codes h) (none_in_zip count codes (All-tail (λ code. function_excess (type ∷ []) (0, code) ≡ None) code codes h))

  pub within : first_excess (tree seed size) ≡ None
  within =
      let long : length {A = ℕ} (replicate size 0) ≡ size = length-replicate size 0 in
      or_none (above quantity.Functions (length {A = ℕ} (replicate size 0))) _ (above_none quantity.Functions (length {A = ℕ} (replicate size 0)) (omega arith))
      (or_none _ _ refl (or_none _ _ refl (or_none _ _ refl
      (none_in_zip size (map (body seed) (range_with_len 0 size)) (All-map (λ code. function_excess (type ∷ []) (0, code) ≡ None) (body seed) (range_with_len 0 size) (all_below (λ i. function_excess (type ∷ []) (0, body seed i) ≡ None) size function_within))))))

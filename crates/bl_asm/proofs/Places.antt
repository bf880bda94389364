-- The places of instructions in the bytes of a program.
use Rattle.std.proofs.Common.{◌≡◌, ℕ, zero, suc, ◌+◌, ◌-◌, ◌%◌, ◌^◌, ◌<◌, ◌≤◌, List, [], ◌∷◌, ◌++◌, length, drop, get_or, append_assoc, add-one, Some, None, slice_get, slice_index, true, false, ltb, pos, negsuc, ◌-ℤ◌, ◌⊎◌, inl, inr, refl, sym, ap, ap₂, ◌∙◌, arith, length-append, length-drop}
use Rattle.std.proofs.Math.ListN.{get_or-append}
use Rattle.std.proofs.lemmas.List.{get_or_push}
use Rattle.std.proofs.lemmas.Option.{none-some, same_Some, slice_get_read, get_or_from_slice_get, slice_get-get_or}
use Rattle.std.proofs.lemmas.Bool.{cases_lt}
use Rattle.std.proofs.lemmas.Bool.Decides.{nat_tests}
use Rattle.std.proofs.lemmas.Int.{ints}
use Rattle.bl_base.proofs.ByteLemmas.{length-bytes_of}
use Rattle.bl_ops.specs.Integer.{unsigned}
use Rattle.bl_x64.specs.Machines.{widened}
use Rattle.bl_x64.specs.declared.instruction.Instruction.{Instruction}
use Rattle.bl_x64.specs.declared.instruction.Instruction.TheVariants.{Jump, JumpIf, Call}
use Rattle.bl_asm.specs.Encoding.{encoded}
use Rattle.bl_asm.specs.Assembly.{ArePlaces, IsCode, place_of, distance, aimed, bytes_from}

-- an aim changes no length
pub length-aimed : (code : List Instruction) (end : ℕ) (i : Instruction) → length (encoded (aimed code end i)) ≡ length (encoded i)
length-aimed code end (Jump to) = refl
length-aimed code end (JumpIf condition to) = refl
length-aimed code end (Call to) = refl
length-aimed code end i = refl

drop_behind : (front back : List ℕ) (n m : ℕ) → length front ≡ n → drop (n + m) (front ++ back) ≡ drop m back
drop_behind [] back n m e = let none : n + m ≡ m = omega arith in rw none refl
drop_behind (x ∷ front) back zero m e = absurd (omega arith)
drop_behind (x ∷ front) back (suc n) m e = let next : suc n + m ≡ suc (n + m) = omega arith in rw next (drop_behind front back n m (omega arith))

-- the bytes from an instruction on are those of the instructions from there on
pub bytes_at : (code rest : List Instruction) (begin k : ℕ) → k ≤ length rest
    → drop (place_of rest k) (bytes_from code begin rest) ≡ bytes_from code (begin + place_of rest k) (drop k rest)
bytes_at code [] begin zero h = refl
bytes_at code (i ∷ rest) begin zero h = let same : begin + 0 ≡ begin = omega arith in ap (λ b. bytes_from code b (i ∷ rest)) (sym same)
bytes_at code [] begin (suc k) h = absurd (omega arith)
bytes_at code (i ∷ rest) begin (suc k) h =
    let n = length (encoded i) in
    let inner = bytes_at code rest (begin + n) k (omega arith) in
    let sum : begin + n + place_of rest k ≡ begin + (n + place_of rest k) = omega arith in
    drop_behind (encoded (aimed code (begin + n) i)) (bytes_from code (begin + n) rest) n (place_of rest k) (length-aimed code (begin + n) i)
    ∙ inner ∙ ap (λ b. bytes_from code b (drop k rest)) sum

pub length-bytes : (code rest : List Instruction) (begin : ℕ) → length (bytes_from code begin rest) ≡ place_of rest (length rest)
length-bytes code [] begin = refl
length-bytes code (i ∷ rest) begin =
    let n = length (encoded i) in
    omega (arith, length-append (encoded (aimed code (begin + n) i)) (bytes_from code (begin + n) rest), length-aimed code (begin + n) i, length-bytes code rest (begin + n))

pub place_within : (code : List Instruction) (k : ℕ) → k ≤ length code → place_of code k ≤ place_of code (length code)
place_within code zero h = omega arith
place_within [] (suc k) h = omega arith
place_within (i ∷ code) (suc k) h = omega (arith, place_within code k (omega arith))

-- the next instruction stands behind this one
pub place_next : (code : List Instruction) (k : ℕ) (i : Instruction) → slice_get code k ≡ Some i → place_of code (suc k) ≡ place_of code k + length (encoded i)
place_next [] k i e = absurd (none-some i e)
place_next (j ∷ code) zero i e = omega (arith, ap (λ x. length (encoded x)) (same_Some j i e))
place_next (j ∷ code) (suc k) i e = omega (arith, place_next code k i e)

pub from_there : (code : List Instruction) (k : ℕ) (i : Instruction) → slice_get code k ≡ Some i → drop k code ≡ i ∷ drop (suc k) code
from_there [] k i e = absurd (none-some i e)
from_there (j ∷ code) zero i e = ap (λ x. x ∷ code) (same_Some j i e)
from_there (j ∷ code) (suc k) i e = from_there code k i e

pub is_within : (code : List Instruction) (k : ℕ) (i : Instruction) → slice_get code k ≡ Some i → k < length code
is_within [] k i e = absurd (none-some i e)
is_within (j ∷ code) zero i e = omega arith
is_within (j ∷ code) (suc k) i e = omega (arith, is_within code k i e)

pub past_end : (code : List Instruction) (k : ℕ) → slice_get code k ≡ None → length code ≤ k
past_end [] k e = omega arith
past_end (j ∷ code) zero e = absurd (none-some j (sym e))
past_end (j ∷ code) (suc k) e = omega (arith, past_end code k e)

-- ---- distances

widened_low : (d : ℕ) → d < 2 ^ 31 → widened d ≡ d
widened_low d h = let test : ltb d (2 ^ 31) ≡ true = grind (arith, nat_tests) in rw test refl

widened_high : (d : ℕ) → 2 ^ 31 ≤ d → d < 2 ^ 32 → widened d ≡ 2 ^ 64 + d - 2 ^ 32
widened_high d h g =
    let test : ltb d (2 ^ 31) ≡ false = grind (arith, nat_tests) in
    let below : pos d -ℤ pos (2 ^ 32) ≡ negsuc (2 ^ 32 - suc d) = omega (arith, ints) in
    rw test (ap (unsigned 64) below ∙ omega arith)

pub jump_lands : (end target : ℕ) → end < 2 ^ 31 → target < 2 ^ 31 → (end + widened (distance end target)) % 2 ^ 64 ≡ target
jump_lands end target h g = by_order (cases_lt target end)
  where
    by_order : (target < end) ⊎ (end ≤ target) → (end + widened (distance end target)) % 2 ^ 64 ≡ target
    by_order (inl lt) =
        let far : distance end target ≡ target + 2 ^ 32 - end = omega arith in
        let wide = widened_high (target + 2 ^ 32 - end) (omega arith) (omega arith) in
        ap (λ d. (end + widened d) % 2 ^ 64) far ∙ ap (λ (w : ℕ). (end + w) % 2 ^ 64) wide ∙ omega arith
    by_order (inr le) =
        let far : distance end target ≡ target - end = omega arith in
        let wide = widened_low (target - end) (omega arith) in
        ap (λ d. (end + widened d) % 2 ^ 64) far ∙ ap (λ (w : ℕ). (end + w) % 2 ^ 64) wide ∙ omega arith

-- ---- the table of places

pub target_small : (code : List Instruction) (places : List ℕ) (k : ℕ) → ArePlaces code places → IsCode code → k ≤ length code → slice_index places k < 2 ^ 31
target_small code places k are ok h = omega (arith, are.each k h, place_within code k h, ok.short)

-- a place that is read of the table
pub read_small : (code : List Instruction) (places : List ℕ) (k x : ℕ) → ArePlaces code places → IsCode code → k ≤ length code → x ≡ get_or places k x → x < 2 ^ 31
read_small code places k x are ok h e =
    let read = get_or_from_slice_get places k x 0 (slice_get_read places (length places) k x refl (omega (arith, are.count)) e) in
    omega (arith, read, target_small code places k are ok h)

pub read_place : (code : List Instruction) (places : List ℕ) (k x : ℕ) → ArePlaces code places → k ≤ length code → x ≡ get_or places k x → x ≡ place_of code k
read_place code places k x are h e =
    let read = get_or_from_slice_get places k x 0 (slice_get_read places (length places) k x refl (omega (arith, are.count)) e) in
    sym read ∙ are.each k h

-- an instruction more, as a loop reads it
pub place_more : (code : List Instruction) (k : ℕ) (d : Instruction) → k < length code → place_of code (k + 1) ≡ place_of code k + length (encoded (get_or code k d))
place_more code k d lt = rw add-one (place_next code k (get_or code k d) (slice_get-get_or code k d lt))

pub length_more : (code : List Instruction) (k : ℕ) (d : Instruction) (old new : List ℕ) → k < length code → new ≡ old ++ encoded (get_or code k d)
    → length old ≡ place_of code k → length new ≡ place_of code (k + 1)
length_more code k d old new lt e so_far =
    omega (arith, ap length e, length-append old (encoded (get_or code k d)), place_more code k d lt)

pub table_more : (code : List Instruction) (i x : ℕ) (old new : List ℕ) → new ≡ old ++ x ∷ [] → length old ≡ i + 1 → x ≡ place_of code (i + 1)
    → ((k : ℕ) → k ≤ i → slice_index old k ≡ place_of code k) → (k : ℕ) → k ≤ i + 1 → slice_index new k ≡ place_of code k
table_more code i x old new e count is so_far k h = by_order (cases_lt k (i + 1))
  where
    by_order : (k < i + 1) ⊎ (i + 1 ≤ k) → slice_index new k ≡ place_of code k
    by_order (inl lt) = rw e (get_or-append old (x ∷ []) 0 k (omega arith) ∙ so_far k (omega arith))
    by_order (inr le) =
        let last : k ≡ length old = omega arith in
        let same : place_of code k ≡ place_of code (i + 1) = ap (place_of code) (omega arith) in
        rw e (get_or_push old x 0 k (sym last)) ∙ is ∙ sym same

pub assembled_more : (code : List Instruction) (k end : ℕ) (d aim : Instruction) (old new all : List ℕ) → k < length code → end ≡ place_of code (k + 1)
    → aim ≡ aimed code end (get_or code k d) → new ≡ old ++ encoded aim
    → old ++ bytes_from code (place_of code k) (drop k code) ≡ all
    → new ++ bytes_from code (place_of code (k + 1)) (drop (k + 1) code) ≡ all
assembled_more code k end d aim old new all lt is aim_is e so_far =
    let i = get_or code k d in
    let got = slice_get-get_or code k d lt in
    let next = place_of code k + length (encoded i) in
    let ends : end ≡ next = is ∙ place_more code k d lt in
    let rest : drop (k + 1) code ≡ drop (suc k) code = ap (λ n. drop n code) (add-one k) in
    let aimed_is : aim ≡ aimed code next i = aim_is ∙ ap (λ x. aimed code x i) ends in
    ap (λ l. l ++ bytes_from code (place_of code (k + 1)) (drop (k + 1) code)) e
    ∙ append_assoc old (encoded aim) (bytes_from code (place_of code (k + 1)) (drop (k + 1) code))
    ∙ ap₂ (λ a y. old ++ (encoded a ++ bytes_from code y (drop (k + 1) code))) aimed_is (place_more code k d lt)
    ∙ ap (λ l. old ++ (encoded (aimed code next i) ++ bytes_from code next l)) rest
    ∙ ap (λ l. old ++ bytes_from code (place_of code k) l) (sym (from_there code k i got))
    ∙ so_far

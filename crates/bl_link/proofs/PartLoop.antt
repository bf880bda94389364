-- The loop over the parts.
use Rattle.std.proofs.Common.{◌≡◌, ◌∙◌, refl, sym, ap, subst, ℕ, ◌+◌, ◌*◌, ◌^◌, ◌<◌, ◌≤◌, List, [], ◌∷◌, ◌++◌, length, Result, Ok, Err, append_assoc, length-append, arith, slice_get, Some}
use Rattle.std.specs.Prelude.{fold, nat_le, if◌then◌else◌, sum_by, IsTrue}
use Rattle.std.specs.List.{enumerate_from, All}
use Rattle.bl_wasm.specs.Linked.{IsLinked, IsMemory}
use Rattle.bl_link.specs.CanLink.{AreLeft, CanLink}
use Rattle.bl_base.specs.Quantity.{limit_of}
use Rattle.bl_base.specs.declared.quantity.Quantity.TheVariants.{Reserve}
use Rattle.bl_base.proofs.Lists.{all_get}
use Rattle.bl_link.specs.Linkable.{AreParts, IsPart, IsSound}
use Rattle.bl_link.specs.Links.{nothing, reserves, with_next}
use Rattle.bl_link.specs.IndexSpaces.{LinkError, Limit, Part, Store}
use Rattle.bl_link.specs.Stores.{IsStore}
use Rattle.bl_link.proofs.NumberedLists.{get_right}
use Rattle.std.proofs.lemmas.List.Elements.{All-head, All-tail}
use Rattle.std.proofs.lemmas.List.Sums.{sum_by-cons}
use Rattle.bl_wasm.specs.declared.linked.Memory.{Memory}
use Rattle.bl_link.proofs.LinkedTrees.{fresh_of, nothing_is, step_kept, whole}

pub can : (store : Store) (number : ℕ) (rest left : List Part) (part : Part) → AreLeft store number rest → rest ≡ part ∷ left → CanLink store part
can store number rest left part l next =
    let split : l.done ++ part ∷ left ≡ l.parts = subst (λ (x : List Part). l.done ++ x ≡ l.parts) next l.split in
    let n : length l.done + (1 + length left) ≡ length l.parts = omega (arith, ap (λ (x : List Part). length x) split, length-append l.done (part ∷ left)) in
    record {
      done = l.done;
      is = l.is;
      few = omega (arith, n, l.are.few);
      good = all_get IsPart l.parts (length l.done + 0) part l.are.each (subst (λ (x : List Part). slice_get x (length l.done + 0) ≡ Some part) split (get_right l.done (part ∷ left) 0));
      sound = all_get IsSound l.parts (length l.done + 0) part l.sound (subst (λ (x : List Part). slice_get x (length l.done + 0) ≡ Some part) split (get_right l.done (part ∷ left) 0));
      fresh = fresh_of l.parts left l.done part l.are split;
    }

same : (x y : Store) → ◌≡◌ {A = Result Store LinkError} (Ok x) (Ok y) → x ≡ y
same x y h = cc

pub goes_on : (store next : Store) (number : ℕ) (rest left : List Part) (part : Part) → AreLeft store number rest → rest ≡ part ∷ left → with_next (Ok store) (number, part) ≡ Ok next → AreLeft next (number + 1) left
goes_on store next number rest left part l is_next made =
    let split : l.done ++ part ∷ left ≡ l.parts = subst (λ (x : List Part). l.done ++ x ≡ l.parts) is_next l.split in
    record {
      parts = l.parts;
      are = l.are;
      sound = l.sound;
      done = l.done ++ part ∷ [];
      split = append_assoc l.done (part ∷ []) left ∙ split;
      count = omega (arith, l.count, length-append l.done (part ∷ []));
      is = step_kept l.parts left l.done part (Ok store) next l.are l.sound split (λ s e. subst (IsStore l.done) (same store s e) l.is) (subst (λ n. with_next (Ok store) (n, part) ≡ Ok next) l.count made);
    }

stays_err : (e : LinkError) (xs : List (ℕ × Part)) → fold with_next (Err e) xs ≡ Err e
stays_err e [] = refl
stays_err e (x ∷ xs) = stays_err e xs

-- what is left, where the first of it was linked
pub fold_more : (store : Store) (number : ℕ) (rest left : List Part) (part : Part) (r : Result Store LinkError) → rest ≡ part ∷ left → with_next (Ok store) (number, part) ≡ r
    → fold with_next (Ok store) (enumerate_from number rest) ≡ fold with_next r (enumerate_from (number + 1) left)
fold_more store number rest left part r is_next made =
    ap (λ (x : List Part). fold with_next (Ok store) (enumerate_from number x)) is_next ∙ ap (λ (y : Result Store LinkError). fold with_next y (enumerate_from (number + 1) left)) made

-- or wasn't
pub fold_fails : (store : Store) (number : ℕ) (rest left : List Part) (part : Part) (e : LinkError) → rest ≡ part ∷ left → with_next (Ok store) (number, part) ≡ Err e → fold with_next (Ok store) (enumerate_from number rest) ≡ Err e
fold_fails store number rest left part e is_next made = fold_more store number rest left part (Err e) is_next made ∙ stays_err e (enumerate_from (number + 1) left)

-- all reserves are few
reserve_sum : (memories : List Memory) → All IsMemory memories → sum_by (λ memory. memory.reserve) memories ≤ 256 * length memories
reserve_sum [] all = omega arith
reserve_sum (memory ∷ memories) all = omega (arith, sum_by-cons (λ (m : Memory). m.reserve) memory memories, (All-head IsMemory memory memories all).most, reserve_sum memories (All-tail IsMemory memory memories all))

pub few_reserved : (parts : List Part) (store : Store) → AreParts parts → IsStore parts store → sum_by (λ memory. memory.reserve) store.tree.memories < 2 ^ 64
few_reserved parts store are is = omega (arith, reserve_sum store.tree.memories is.memories, is.memory_count, are.few)

pub can_run : (parts : List Part) (store : Store) → AreParts parts → IsStore parts store → IsTrue (nat_le (reserves store.tree) (limit_of Reserve)) → IsLinked store.tree
can_run parts store are is fits = whole parts store store.tree is are.few (ap (λ b. if b then Ok store.tree else Err (Limit Reserve (reserves store.tree))) fits)

pub all_left : (parts items : List Part) (store : Store) → AreParts parts → All IsSound parts → store ≡ nothing → items ≡ parts → AreLeft store 0 items
all_left parts items store are sound none same_items = record { parts = parts; are = are; sound = sound; done = []; split = same_items; count = refl; is = subst (IsStore []) (sym none) nothing_is }

-- what the whole answers by what is linked
pub from_fold : (parts items : List Part) (start store : Store) → start ≡ nothing → items ≡ parts → fold with_next (Ok start) (enumerate_from 0 items) ≡ Ok store → fold with_next (Ok nothing) (enumerate_from 0 parts) ≡ Ok store
from_fold parts items start store none same_items h = ap (λ (s : Store). fold with_next (Ok s) (enumerate_from 0 parts)) (sym none) ∙ ap (λ (l : List Part). fold with_next (Ok start) (enumerate_from 0 l)) (sym same_items) ∙ h

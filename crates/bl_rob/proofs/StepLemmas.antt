-- The machine with another entry at a place, and behind a guard that was wrong.
use Rattle.std.proofs.Common.{◌≡◌, ℕ, zero, suc, ◌<◌, Bool, List, [], ◌∷◌, ◌++◌, length, take, drop, set, get_or, Option, Some, None, IsTrue, refl, sym, ap, ◌∙◌, subst, arith}
use Rattle.std.specs.Prelude.{slice_get, IfSome}
use Rattle.std.proofs.lemmas.Option.{get_or_from_slice_get}
use Rattle.bl_base.proofs.Lists.{within_get}
use Rattle.bl_rob.specs.CallResults.{rolled_back_at}
use Rattle.bl_rob.specs.Machines.{State, at_position, is_guard, become, rolled_back}
use Rattle.bl_rob.specs.declared.entry.Entry.{Entry}
use Rattle.bl_rob.specs.declared.entry.Source.{Source}
use Rattle.bl_rob.specs.declared.entry.Work.{Work}
use Rattle.bl_rob.specs.declared.entry.Work.TheVariants.{Nop, Guard}

-- an item put at a place of a list
pub set_split : {A : Type 0} (xs : List A) (n : ℕ) (x : A) → n < length xs → set xs n x ≡ take n xs ++ x ∷ drop (suc n) xs
set_split [] n x lt = absurd (omega arith)
set_split (y ∷ xs) zero x lt = refl
set_split (y ∷ xs) (suc n) x lt = ap (λ l. y ∷ l) (set_split xs n x (omega arith))

-- the machine with an entry that does something else
pub put_at : (n position : ℕ) (s : State) (entry x : Entry) (work : Work) → slice_get s.buffer n ≡ Some entry → x ≡ get_or s.buffer n x → n < length s.buffer → position ≡ x.position
    → record s { buffer = set s.buffer n (record { position = position; work = work }) } ≡ become n entry.position work s
put_at n position s entry x work h is lt p =
    let same : x ≡ entry = is ∙ get_or_from_slice_get s.buffer n entry x h in
    ap (λ l. record s { buffer = l })
    (ap (λ q. set s.buffer n (record { position = q; work = work })) (p ∙ ap (λ (e : Entry). e.position) same)
    ∙ set_split s.buffer n (record { position = entry.position; work = work }) lt)

-- the entries up to a place, with another one there
pub cut_at : {A : Type 0} (xs : List A) (n : ℕ) (x : A) → n < length xs → set (take (suc n) xs) n x ≡ take n xs ++ x ∷ []
cut_at [] n x lt = absurd (omega arith)
cut_at (y ∷ xs) zero x lt = refl
cut_at (y ∷ xs) (suc n) x lt = ap (λ l. y ∷ l) (cut_at xs n x (omega arith))

pub read_cut : {A : Type 0} (xs : List A) (n : ℕ) (d : A) → n < length xs → get_or (take (suc n) xs) n d ≡ get_or xs n d
read_cut [] n d lt = absurd (omega arith)
read_cut (y ∷ xs) zero d lt = refl
read_cut (y ∷ xs) (suc n) d lt = read_cut xs n d (omega arith)

-- the machine behind a guard that was wrong
pub cut_back : (n : ℕ) (s : State) (o : Option Entry) (x : Entry) (cond : Source) (predicted : Bool) (other : ℕ) (chain : List ℕ)
    → slice_get s.buffer n ≡ o → n < length s.buffer → x ≡ get_or s.buffer n x → x.work ≡ Guard cond predicted other chain
    → record s { buffer = set (take (suc n) s.buffer) n (record { position = x.position; work = Nop }); front = at_position other chain } ≡ rolled_back_at n s o
cut_back n s None x cond predicted other chain h lt is w = let has = within_get s.buffer n lt in let e = has.1 in cc
cut_back n s (Some entry) x cond predicted other chain h lt is w =
    let same : x ≡ entry = is ∙ get_or_from_slice_get s.buffer n entry x h in
    ap (λ l. record s { buffer = l; front = at_position other chain }) (cut_at s.buffer n (record { position = x.position; work = Nop }) lt)
    ∙ ap (λ y. rolled_back n x.position y s) (sym w) ∙ ap (λ (e : Entry). rolled_back n e.position e.work s) same

-- the entry there is a guard
pub guard_at : (s : State) (n : ℕ) (o : Option Entry) (x : Entry) → slice_get s.buffer n ≡ o → n < length s.buffer → x ≡ get_or s.buffer n x
    → IfSome o (λ entry. IsTrue (is_guard entry.work)) → IsTrue (is_guard x.work)
guard_at s n None x h lt is g = let has = within_get s.buffer n lt in let e = has.1 in cc
guard_at s n (Some entry) x h lt is g = subst (λ (e : Entry). IsTrue (is_guard e.work)) (sym (is ∙ get_or_from_slice_get s.buffer n entry x h)) g

pub not_guard : (w : Work) → IsTrue (is_guard w)
    → ((cond : Source) (predicted : Bool) (other : ℕ) (chain : List ℕ) → w ≡ Guard cond predicted other chain → ⊥) → ⊥
not_guard (Guard cond predicted other chain) h never = never cond predicted other chain refl
not_guard _ h never = cc

-- Nesting, item by item.
use Rattle.std.proofs.Common.{◌≡◌, ℕ, ◌+◌, ◌≤◌, ◌<◌, List, [], ◌∷◌, ◌++◌, length, drop, reverse, slice_range, Option, Some, None, append_assoc, append-nil, ap, sym, ◌∙◌, refl, subst, arith, ◌⊎◌, inl, inr}
use Rattle.std.specs.Prelude.{option_and_then}
use Rattle.std.specs.Option.{option_map}
use Rattle.std.proofs.lemmas.List.{append_cancel_right, length-reverse}
use Rattle.bl_leb.specs.Grammar.{◌⨾◌, byte}
use Rattle.bl_wasm.specs.Values.{each}
use Rattle.bl_wasm.specs.Instructions.{instruction, expression, Nests}
use Rattle.bl_wasm.specs.OpenConstructs.{Construct, Kind, construct, of_block, of_loop, then_part, else_part, open_behind, open_through, behind_else, behind_end}
use Rattle.bl_wasm.specs.declared.instruction.Instr.{Instr}
use Rattle.bl_wasm.specs.declared.instruction.Instr.TheVariants.{End}
use Rattle.bl_wasm.proofs.OpenConstructLemmas.{closes, nests, from_through, through}
use Rattle.bl_code.specs.Constructs.{kept, kept_kind}
use Rattle.bl_code.specs.ReaderAnswers.{IsAt, NoneAt, Refuses}
use Rattle.bl_code.specs.Unique.{PrefixFree}
use Rattle.bl_code.specs.declared.error.CodeError.{CodeError}
use Rattle.bl_code.specs.declared.error.CodeError.TheVariants.{Malformed, Memory}
use Rattle.bl_code.specs.declared.expression.Open.{Open}
use Rattle.bl_code.specs.declared.expression.Open.TheVariants.{BeforeElse, Other}
use Rattle.bl_code.proofs.Instructions.{instruction_prefix_free}
use Rattle.bl_code.proofs.Places.{Stands, stands, is_at, at_front, one_at, join, as_other}
use Rattle.bl_code.proofs.Shapes.{never_empty}
use Rattle.bl_leb.proofs.Places.{range_none}
use Rattle.bl_code.proofs.Unique.{each_same}
use Rattle.bl_code.proofs.Vectors.{more, Parting, parting}

-- a step, and then the others
one_step : (o : Option (List Construct)) (xs : List Instr) (st : List Construct) → option_and_then (open_through xs) o ≡ Some st → (next : List Construct) × (o ≡ Some next) × (open_through xs next ≡ Some st)
one_step None xs st e = absurd cc
one_step (Some next) xs st e = (next, refl, e)

nests_if : (xs : List Instr) → open_through xs [] ≡ Some [] → Nests xs
nests_if xs e = nests xs (from_through xs [] e)

nests_through : (xs : List Instr) → Nests xs → open_through xs [] ≡ Some []
nests_through xs n = through xs [] (closes xs n)

-- behind some items, and then behind others
through_behind : (xs ys : List Instr) (before st : List Construct) → open_through xs before ≡ Some st → open_through (xs ++ ys) before ≡ open_through ys st
through_behind [] ys before st e = let same : before ≡ st = cc in ap (open_through ys) same
through_behind (x ∷ xs) ys before st e = let p = one_step (open_behind x before) xs st e in ap (option_and_then (open_through (xs ++ ys))) p.1 ∙ through_behind xs ys p.0 st p.2

-- an expression's items and its end: each item may stand, and the last one ends it
abbrev Whole : List Construct → List Instr → Type 0
Whole st [] = ⊥
Whole st (x ∷ xs) = ((x ≡ End) × (st ≡ []) × (xs ≡ [])) ⊎ ((next : List Construct) × (open_behind x st ≡ Some next) × Whole next xs)

whole : (xs : List Instr) (st : List Construct) → open_through xs st ≡ Some [] → Whole st (xs ++ End ∷ [])
whole [] st e = inl (refl, cc, refl)
whole (x ∷ xs) st e = let p = one_step (open_behind x st) xs [] e in inr (p.0, p.1, whole xs p.0 p.2)

-- what is left of one behind items that have been passed
rest_whole : (p : List Instr) (start st : List Construct) (x : Instr) (r : List Instr) → open_through p start ≡ Some st → Whole start (p ++ x ∷ r) → Whole st (x ∷ r)
rest_whole [] start st x r e h = let same : start ≡ st = cc in subst (λ (s : List Construct). Whole s (x ∷ r)) same h
rest_whole (y ∷ p) start st x r e (inl h) = absurd (not_empty p h.2)
  where
    not_empty : (p : List Instr) → p ++ x ∷ r ≡ [] → ⊥
    not_empty [] f = cc
    not_empty (z ∷ p) f = cc
rest_whole (y ∷ p) start st x r e (inr h) =
    let q = one_step (open_behind y start) p st e in
    let same : q.0 ≡ h.0 = let both : Some q.0 ≡ Some h.0 = sym q.1 ∙ h.1 in cc in
    rest_whole p h.0 st x r (subst (λ (s : List Construct). open_through p s ≡ Some st) same q.2) h.2

-- no end stands where nothing is open
end_never : (xs rest : List Instr) (st : List Construct) → Nests xs → open_through ((xs ++ End ∷ []) ++ rest) [] ≡ Some st → ⊥
end_never xs rest st n e =
    let none_left : open_through ((xs ++ End ∷ []) ++ rest) [] ≡ None = ap (λ t. open_through t []) (append_assoc xs (End ∷ []) rest) ∙ through_behind xs (End ∷ rest) [] [] (nests_through xs n) in
    cc

-- nothing stands behind a whole one
whole_front : (xs r : List Instr) (st : List Construct) → Whole st xs → Whole st (xs ++ r) → r ≡ []
whole_front [] r st h k = absurd h
whole_front (x ∷ xs) r st (inl h) (inl k) = ap (λ t. t ++ r) (sym h.2) ∙ k.2
whole_front (x ∷ xs) r st (inl h) (inr k) = absurd (stuck x st h.0 h.1 k.0 k.1)
  where
    stuck : (x : Instr) (st : List Construct) → x ≡ End → st ≡ [] → (next : List Construct) → open_behind x st ≡ Some next → ⊥
    stuck x st e f next g = let none_left : open_behind x st ≡ None = ap (λ y. open_behind y st) e ∙ ap (open_behind End) f in cc
whole_front (x ∷ xs) r st (inr h) (inl k) = absurd (stuck x st k.0 k.1 h.0 h.1)
  where
    stuck : (x : Instr) (st : List Construct) → x ≡ End → st ≡ [] → (next : List Construct) → open_behind x st ≡ Some next → ⊥
    stuck x st e f next g = let none_left : open_behind x st ≡ None = ap (λ y. open_behind y st) e ∙ ap (open_behind End) f in cc
whole_front (x ∷ xs) r st (inr h) (inr k) =
    let same : k.0 ≡ h.0 = let both : Some k.0 ≡ Some h.0 = sym k.1 ∙ h.1 in cc in
    whole_front xs r h.0 h.2 (subst (λ (s : List Construct). Whole s (xs ++ r)) same k.2)

-- an expression's bytes spell its items and its end
spelled_whole : (xs : List Instr) (t : List ℕ) → (each instruction xs ⨾ byte 0x0B) t → each instruction (xs ++ End ∷ []) t
spelled_whole xs t h = subst (λ (s : List ℕ). each instruction (xs ++ End ∷ []) s) (sym h.whole) (more instruction xs End h.front h.rest h.first h.second)

-- where items have been passed, an expression goes on with an item that may stand, or with its end
pub none_expression : (bytes : List ℕ) (i j : ℕ) (p : List Instr) (st : List Construct) → IsAt (each instruction) bytes i j p → open_through p [] ≡ Some st
    → ((x : Instr) (k : ℕ) → IsAt instruction bytes j k x → ((x ≡ End) × (st ≡ [])) ⊎ ((next : List Construct) × (open_behind x st ≡ Some next)) → ⊥)
    → NoneAt expression bytes i
none_expression bytes i j p st front nested never xs k h =
    let a = stands (each instruction) bytes i j p front in
    let b = stands expression bytes i k xs h in
    let inside = a.inside in
    let nests = b.spelled.0 in
    by_part inside nests (parting instruction_prefix_free p (xs ++ End ∷ []) a.front b.front (drop j bytes) (drop k bytes) a.spelled (spelled_whole xs b.front b.spelled.1) (sym a.whole ∙ b.whole))
  where
    done : (x : Instr) (r : List Instr) → Whole st (x ∷ r) → ((x ≡ End) × (st ≡ [])) ⊎ ((next : List Construct) × (open_behind x st ≡ Some next))
    done x r (inl h) = inl (h.0, h.1)
    done x r (inr h) = inr (h.0, h.1)

    by_part : j ≤ length bytes → Nests xs → Parting instruction p (xs ++ End ∷ []) (drop j bytes) → ⊥
    by_part inside nests (inl q) = end_never xs q.0 st nests (subst (λ (t : List Instr). open_through t [] ≡ Some st) q.1 nested)
    by_part inside nests (inr q) =
        let all = whole xs [] (nests_through xs nests) in
        let left = rest_whole p [] st q.0 q.1 nested (subst (λ (t : List Instr). Whole [] t) q.4 all) in
        never q.0 (j + length q.2) (is_at instruction bytes j (j + length q.2) q.0 (at_front bytes j q.2 q.3 inside q.5 q.6)) (done q.0 q.1 left)

pub err_expression : (bytes : List ℕ) (i j : ℕ) (p : List Instr) (st : List Construct) (e : CodeError) → IsAt (each instruction) bytes i j p → open_through p [] ≡ Some st → Refuses instruction bytes j e → Refuses expression bytes i e
err_expression bytes i j p st Malformed front nested h = none_expression bytes i j p st front nested (λ x k q _. h x k q)
err_expression bytes i j p st Memory front nested h = tt

-- expressions are prefix-free
pub expression_prefix_free : PrefixFree expression
expression_prefix_free = record { same = λ x y. record { both = λ a b u v p q e. expression_same x y a b u v p q e } }
  where
    all_of : (x : List Instr) → Nests x → Whole [] (x ++ End ∷ [])
    all_of x n = whole x [] (nests_through x n)

    same_items : (x y : List Instr) (a b u v : List ℕ) → each instruction (x ++ End ∷ []) a → each instruction (y ++ End ∷ []) b → a ++ u ≡ b ++ v → x ++ End ∷ [] ≡ y ++ End ∷ [] → (a ≡ b) × (x ≡ y)
    same_items x y a b u v p q e same = (((each_same instruction_prefix_free (x ++ End ∷ []) (y ++ End ∷ []) (ap length same)).both a b u v p q e).0, append_cancel_right x y (End ∷ []) same)

    by_part : (x y : List Instr) (a b u v : List ℕ) → Nests x → Nests y → each instruction (x ++ End ∷ []) a → each instruction (y ++ End ∷ []) b → a ++ u ≡ b ++ v → Parting instruction (x ++ End ∷ []) (y ++ End ∷ []) u → (a ≡ b) × (x ≡ y)
    by_part x y a b u v n m p q e (inl h) =
        let nothing_left = whole_front (y ++ End ∷ []) h.0 [] (all_of y m) (subst (λ (t : List Instr). Whole [] t) h.1 (all_of x n)) in
        same_items x y a b u v p q e (h.1 ∙ ap (λ t. (y ++ End ∷ []) ++ t) nothing_left ∙ append-nil (y ++ End ∷ []))
    by_part x y a b u v n m p q e (inr h) =
        let nothing_left = whole_front (x ++ End ∷ []) (h.0 ∷ h.1) [] (all_of x n) (subst (λ (t : List Instr). Whole [] t) h.4 (all_of y m)) in
        absurd cc

    expression_same : (x y : List Instr) (a b u v : List ℕ) → expression x a → expression y b → a ++ u ≡ b ++ v → (a ≡ b) × (x ≡ y)
    expression_same x y a b u v p q e =
        let f = spelled_whole x a p.1 in
        let g = spelled_whole y b q.1 in
        by_part x y a b u v p.0 q.0 f g e (parting instruction_prefix_free (x ++ End ∷ []) (y ++ End ∷ []) a b u v f g e)

-- one more item
pub through_more : (p : List Instr) (st next : List Construct) (x : Instr) → open_through p [] ≡ Some st → open_behind x st ≡ Some next → open_through (p ++ x ∷ []) [] ≡ Some next
through_more p st next x e s = through_behind p (x ∷ []) [] st e ∙ ap (option_and_then (open_through [])) s

-- an item that may not stand and ends nothing ends no expression
pub err_nest : (bytes : List ℕ) (i j k : ℕ) (p : List Instr) (st : List Construct) (x : Instr) (e : CodeError) → IsAt (each instruction) bytes i j p → open_through p [] ≡ Some st → IsAt instruction bytes j k x
    → (x ≡ End → st ≡ [] → ⊥) → (e ≡ Malformed → open_behind x st ≡ None) → Refuses expression bytes i e
err_nest bytes i j k p st x Malformed front nested here other stuck = none_expression bytes i j p st front nested never
  where
    never : (y : Instr) (m : ℕ) → IsAt instruction bytes j m y → ((y ≡ End) × (st ≡ [])) ⊎ ((next : List Construct) × (open_behind y st ≡ Some next)) → ⊥
    never y m q (inl h) = other ((one_at bytes j k m x y instruction_prefix_free here q).1 ∙ h.0) h.1
    never y m q (inr h) =
        let same = (one_at bytes j k m x y instruction_prefix_free here q).1 in
        let none_left : open_behind y st ≡ None = ap (λ z. open_behind z st) (sym same) ∙ stuck refl in
        cc
err_nest bytes i j k p st x Memory front nested here other stuck = tt

-- nested items and an end
pub last_at : (bytes : List ℕ) (i j k : ℕ) (p : List Instr) → IsAt (each instruction) bytes i j p → open_through p [] ≡ Some [] → IsAt instruction bytes j k End → IsAt expression bytes i k p
last_at bytes i j k p front nested here =
    let a = stands (each instruction) bytes i j p front in
    let b : Stands (byte 0x0B) bytes j k = stands instruction bytes j k End here in
    let both = join bytes i j k a b in
    let nests = nests_if p nested in
    is_at expression bytes i k p (as_other bytes i k (λ t s. (nests, s)) both)

-- an instruction has a byte
pub instruction_forward : (bytes : List ℕ) (i j : ℕ) (x : Instr) → IsAt instruction bytes i j x → (i < j) × (j ≤ length bytes)
instruction_forward bytes i j x h =
    let f = h.forward in
    let cases : (i ≡ j) ⊎ (i < j) = grind arith in
    elim cases [
      | inl same ↦ absurd (never_empty x (subst (λ (t : List ℕ). instruction x t) (ap (λ k. slice_range bytes i k) (sym same) ∙ range_none bytes i) h.spelled))
      | inr less ↦ (less, h.inside)
    ]

-- what is empty backwards is empty
pub none_backwards : (xs : List Open) → reverse xs ≡ [] → xs ≡ []
none_backwards [] e = refl
none_backwards (x ∷ xs) e = absurd (omega (arith, ap length e, length-reverse (x ∷ xs)))

-- the constructs that are open, where it is known what is kept of them
pub known : (o : Option (List Construct)) (those : List Open) → option_map kept o ≡ Some those → (st : List Construct) × (o ≡ Some st) × (kept st ≡ those)
known None those e = absurd cc
known (Some st) those e = (st, refl, cc)

pub none_kept : (st : List Construct) → kept st ≡ [] → st ≡ []
none_kept [] e = refl
none_kept (x ∷ st) e = absurd cc

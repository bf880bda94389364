use Rattle.std.proofs.Common.{◌≡◌, ◌∙◌, ap, sym, refl, ◌<◌, ◌≤◌, ◌+◌, ◌&&◌, ℕ, zero, suc, length, arith, drop, List, [], ◌∷◌, Bool, true, false, get_or}
use Rattle.std.specs.Cmp.Lexicographic.{pointwise}
use Rattle.bl_link.specs.ImportMatches.{same as same_of}
use Rattle.bl_base.specs.declared.names.ValueType.{ValueType}
use Rattle.bl_wasm.specs.declared.types.WasmType.{WasmType}
use Rattle.bl_base.specs.declared.names.ValueType.TheVariants as value
use Rattle.bl_wasm.specs.declared.types.WasmType.TheVariants.{I32}
use Rattle.bl_link.proofs.matching.same_all.Goals as goal

one_more : (xs : List ValueType) (ys : List WasmType) (i : ℕ) (x : ValueType) (y : WasmType) → i < length xs → length xs ≡ length ys
    → pointwise same_of (drop i xs) (drop i ys) ≡ (same_of (get_or xs i x) (get_or ys i y) && pointwise same_of (drop (i + 1) xs) (drop (i + 1) ys))
one_more [] ys i x y below same = absurd (omega (arith, below))
one_more (a ∷ xs) [] i x y below same = absurd (omega (arith, same))
one_more (a ∷ xs) (b ∷ ys) zero x y below same = refl
one_more (a ∷ xs) (b ∷ ys) (suc i) x y below same =
    let e : suc i + 1 ≡ suc (i + 1) = omega arith in
    one_more xs ys i x y (omega (arith, below)) (omega (arith, same)) ∙ ap (λ n. same_of (get_or xs i x) (get_or ys i y) && pointwise same_of (drop n (a ∷ xs)) (drop n (b ∷ ys))) (sym e)

unequal : (xs : List ValueType) (ys : List WasmType) → (length xs ≡ length ys → ⊥) → pointwise same_of xs ys ≡ false
unequal [] [] h = absurd (h refl)
unequal [] (y ∷ ys) h = refl
unequal (x ∷ xs) [] h = refl
unequal (x ∷ xs) (y ∷ ys) h = tail (same_of x y) (pointwise same_of xs ys) (unequal xs ys (λ e. h (ap suc e)))
  where
    tail : (b c : Bool) → c ≡ false → (b && c) ≡ false
    tail true c e = e
    tail false c e = refl

none_left : (xs : List ValueType) (ys : List WasmType) (i : ℕ) → length xs ≤ i → length xs ≡ length ys → pointwise same_of (drop i xs) (drop i ys) ≡ true
none_left [] [] zero past same = refl
none_left [] [] (suc i) past same = refl
none_left [] (y ∷ ys) i past same = absurd (omega (arith, same))
none_left (x ∷ xs) [] i past same = absurd (omega (arith, same))
none_left (x ∷ xs) (y ∷ ys) zero past same = absurd (omega (arith, past))
none_left (x ∷ xs) (y ∷ ys) (suc i) past same = none_left xs ys i (omega (arith, past)) (omega (arith, same))

pub returns : goal.returns
returns c = sym (none_left c.args.a.now c.args.b.now c.loop-i.i c.loop-i-test.false c.if-a-b.false) ∙ c.loop-i.invariant

pub loop-i-init : goal.loop-i-init
loop-i-init c = refl

pub returns-then-not-same : goal.returns-then-not-same
returns-then-not-same c =
    let rest : Bool = pointwise same_of (drop (c.loop-i.i + 1) c.args.a.now) (drop (c.loop-i.i + 1) c.args.b.now) in
    sym (ap (λ (t : Bool). t && rest) (sym c.same.ensures ∙ c.if-not-same.true)) ∙ sym (one_more c.args.a.now c.args.b.now c.loop-i.i value.I32 I32 c.loop-i-test.true c.if-a-b.false) ∙ c.loop-i.invariant

pub loop-i-preserved : goal.loop-i-preserved
loop-i-preserved c =
    let rest : Bool = pointwise same_of (drop (c.loop-i.i + 1) c.args.a.now) (drop (c.loop-i.i + 1) c.args.b.now) in
    sym (ap (λ (t : Bool). t && rest) (sym c.same.ensures ∙ c.if-not-same.false)) ∙ sym (one_more c.args.a.now c.args.b.now c.loop-i.i value.I32 I32 c.loop-i-test.true c.if-a-b.false) ∙ c.loop-i.invariant

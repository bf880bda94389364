-- When two observations are the same.
use Rattle.std.proofs.Common.{◌≡◌, ◌∙◌, ℕ, Bool, true, false, refl, ap, subst}
use Rattle.std.proofs.lemmas.Bool.{eqb-true, eq-eqb, false≢true}
use Rattle.std.specs.Prelude.{◌==◌, ◌&&◌, ◌↔◌}
use Rattle.bl_base.proofs.BoolLemmas.{each_true}
use Rattle.bl_rob.specs.declared.directive.Observation.{Observation}
use Rattle.bl_rob.specs.declared.directive.Observation.TheVariants.{Nothing, Read, Write, Divide, Rollback, Fail}
use Rattle.bl_twin.specs.TwinComparisons.{is_same}

pub both_true : (a b : Bool) → a ≡ true → b ≡ true → (a && b) ≡ true
both_true true b e f = f
both_true false b e f = absurd (false≢true e)

equal_numbers : (a b : ℕ) → (a == b) ≡ true → a ≡ b
equal_numbers a b e = eqb-true a b e

numbers_equal : (a : ℕ) → (a == a) ≡ true
numbers_equal a = eq-eqb a a refl

same_is : (x y : Observation) → is_same x y ≡ true → x ≡ y
same_is Nothing Nothing e = refl
same_is (Read a g) (Read b h) e =
    let t = each_true (a == b) (g == h) e in
    ap (λ n. Read n g) (equal_numbers a b t.0) ∙ ap (Read b) (equal_numbers g h t.1)
same_is (Write a g) (Write b h) e =
    let t = each_true (a == b) (g == h) e in
    ap (λ n. Write n g) (equal_numbers a b t.0) ∙ ap (Write b) (equal_numbers g h t.1)
same_is (Divide a b g) (Divide c d h) e =
    let t = each_true ((a == c) && (b == d)) (g == h) e in
    let u = each_true (a == c) (b == d) t.0 in
    ap (λ n. Divide n b g) (equal_numbers a c u.0) ∙ ap (λ n. Divide c n g) (equal_numbers b d u.1) ∙ ap (Divide c d) (equal_numbers g h t.1)
same_is (Rollback p) (Rollback q) e = ap Rollback (equal_numbers p q e)
same_is Fail Fail e = refl
same_is _ _ e = absurd (false≢true e)

is_itself : (x : Observation) → is_same x x ≡ true
is_itself Nothing = refl
is_itself (Read a g) = both_true (a == a) (g == g) (numbers_equal a) (numbers_equal g)
is_itself (Write a g) = both_true (a == a) (g == g) (numbers_equal a) (numbers_equal g)
is_itself (Divide a b g) =
    both_true ((a == a) && (b == b)) (g == g) (both_true (a == a) (b == b) (numbers_equal a) (numbers_equal b)) (numbers_equal g)
is_itself (Rollback place) = numbers_equal place
is_itself Fail = refl

-- they are exactly where the test says so
pub observations_decided : (x y : Observation) → is_same x y ≡ true ↔ x ≡ y
observations_decided x y = (same_is x y, λ e. subst (λ z. is_same x z ≡ true) e (is_itself x))

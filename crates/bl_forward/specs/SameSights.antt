-- When two that are observed are the same.
use Rattle.std.proofs.Common.{◌≡◌, ◌∙◌, true, refl, ap, subst}
use Rattle.std.proofs.lemmas.Bool.{eqb-true, eq-eqb, false≢true}
use Rattle.std.specs.Prelude.{◌==◌, ◌↔◌}
use Rattle.bl_base.proofs.BoolLemmas.{each_true}
use Rattle.bl_twin.specs.SameObservations.{both_true, observations_decided}
use Rattle.bl_forward.specs.SightTexts.{are_same}
use Rattle.bl_forward.specs.declared.seen.Seen.{Seen}
use Rattle.bl_forward.specs.declared.seen.Seen.TheVariants.{Plain, Forward}

same_is : (x y : Seen) → are_same x y ≡ true → x ≡ y
same_is (Plain one) (Plain other) e = ap Plain ((observations_decided one other).0 e)
same_is (Plain one) (Forward address guards) e = absurd (false≢true e)
same_is (Forward address guards) (Plain other) e = absurd (false≢true e)
same_is (Forward address guards) (Forward there others) e =
    let t = each_true (address == there) (guards == others) e in
    ap (λ n. Forward n guards) (eqb-true address there t.0) ∙ ap (Forward there) (eqb-true guards others t.1)

is_itself : (x : Seen) → are_same x x ≡ true
is_itself (Plain one) = (observations_decided one one).1 refl
is_itself (Forward address guards) = both_true (address == address) (guards == guards) (eq-eqb address address refl) (eq-eqb guards guards refl)

-- they are exactly where the test says so
pub seen_decided : (x y : Seen) → are_same x y ≡ true ↔ x ≡ y
seen_decided x y = (same_is x y, λ e. subst (λ z. are_same x z ≡ true) e (is_itself x))

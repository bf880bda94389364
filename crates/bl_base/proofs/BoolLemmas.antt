-- Truth values.
use Rattle.std.proofs.Common.{◌≡◌, Bool, true, false, not, refl}
use Rattle.std.specs.Prelude.{◌&&◌}
use Rattle.std.proofs.lemmas.Bool.{false≢true}

-- nothing is true and false
pub never_both : (b : Bool) → b ≡ true → not b ≡ true → ⊥
never_both true h k = false≢true k
never_both false h k = false≢true h

-- where both are true, each is
pub each_true : (a b : Bool) → (a && b) ≡ true → (a ≡ true) × (b ≡ true)
each_true true b h = (refl, h)
each_true false b h = absurd (false≢true h)

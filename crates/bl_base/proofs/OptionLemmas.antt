-- Options.
use Rattle.std.proofs.Common.{◌≡◌, Option, Some, None, false, true, refl, sym, subst}
use Rattle.std.proofs.lemmas.Bool.{false≢true}
use Rattle.std.specs.Option.{option_or, IsSome}
use Rattle.std.specs.Prelude.{IsSomeAnd}

-- two values of one look-up are one
pub same_value : {A : Type 0} (o : Option A) (x y : A) → o ≡ Some x → o ≡ Some y → x ≡ y
same_value o x y e f = cc

-- the value of one that has one
pub some_value : {A : Type 0} (o : Option A) → IsSome o → (x : A) × (o ≡ Some x)
some_value None h = absurd (false≢true h)
some_value (Some x) h = (x, refl)

-- what holds of the value, where there is one, and back
pub some_with : {A : Type 0} (o : Option A) (P : A → Type 0) → IsSomeAnd o P → (x : A) × (o ≡ Some x) × P x
some_with None P h = absurd h
some_with (Some x) P h = (x, refl, h)

pub with_some : {A : Type 0} (o : Option A) (P : A → Type 0) (x : A) → o ≡ Some x → P x → IsSomeAnd o P
with_some o P x e h = subst (λ o. IsSomeAnd o P) (sym e) h

-- where the first of two has none, neither has
pub either_none : {A : Type 0} (a b : Option A) → option_or a b ≡ None → (a ≡ None) × (b ≡ None)
either_none None b none = (refl, none)
either_none (Some x) b none = absurd (cc)

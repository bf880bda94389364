-- Where two lists agree in public.
use Rattle.std.specs.Prelude.{◌≡◌, ℕ, List, Some, slice_get}
use Rattle.bl_base.specs.declared.names.Label.{Label}
use Rattle.bl_base.specs.declared.names.Label.TheVariants.{Public}

-- two lists have equal items at the places of those things that aren't declared secret
pub record AgreeWherePublic {A B : Type 0} (label_of : A → Label) (things : List A) (one other : List B) : Type 0 where
  pub each : (index : ℕ) (thing : A) → slice_get things index ≡ Some thing → label_of thing ≡ Public
      → slice_get one index ≡ slice_get other index

-- When a part can be linked behind others.
use Rattle.std.specs.Prelude.{◌≡◌, ℕ, ◌<◌, ◌++◌, List, length}
use Rattle.std.specs.List.{All, Contains}
use Rattle.bl_base.specs.Quantity.{limit_of}
use Rattle.bl_base.specs.declared.quantity.Quantity.TheVariants as quantity
use Rattle.bl_link.specs.Linkable.{AreParts, IsPart, IsSound, NoSolidus}
use Rattle.bl_link.specs.IndexSpaces.{Part, Store}
use Rattle.bl_link.specs.Stores.{IsStore}

-- the store is what is linked of fewer parts than are within their limit, of which none has the name of this one
pub record CanLink (store : Store) (part : Part) : Type 0 where
  pub done : List Part
  pub is : IsStore done store
  pub few : length done < limit_of quantity.Modules
  pub good : IsPart part
  pub sound : IsSound part
  pub fresh : (p : Part) → Contains done p → NoSolidus p.name × (p.name ≡ part.name → ⊥)

-- the store is what is linked of the first parts, so many, and the rest is left
pub record AreLeft (store : Store) (number : ℕ) (rest : List Part) : Type 0 where
  pub parts : List Part
  pub are : AreParts parts
  pub sound : All IsSound parts
  pub done : List Part
  pub split : done ++ rest ≡ parts
  pub count : number ≡ length done
  pub is : IsStore done store

-- The types of what is linked so far, of its exports and of a part's index spaces: those of what bl_link says of them.
use Rattle.std.specs.Prelude.{List}
use Rattle.bl_link.specs.IndexSpaces.{of_kind, spaces_of}
use Rattle.bl_link.specs.Links.{nothing}

abbrev type_of : {A : Type 0} → A → Type 0
type_of {A} x = A

abbrev type_made : {A B C D : Type 0} → (A → B → C → D) → Type 0
type_made {A} {B} {C} {D} f = D

abbrev type_listed : {A B C : Type 0} → (A → List B → C) → Type 0
type_listed {A} {B} {C} f = B

-- what is linked so far
abbrev pub Store : Type 0
Store = type_of nothing

-- the index spaces of a part
abbrev pub Spaces : Type 0
Spaces = type_made spaces_of

-- what is exported
abbrev pub External : Type 0
External = type_listed of_kind

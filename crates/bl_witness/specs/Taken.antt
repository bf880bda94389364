-- What readers take of a text's tokens; for private clauses.
use Rattle.std.specs.Prelude.{◌≡◌, ℕ, List, length, Some, None}
use Rattle.json.specs.Token.{Token}
use Rattle.json.specs.Json.{items, members, value}
use Rattle.serde_json.specs.Data.{Data, Items, Members, no_members}
use Rattle.serde_json.specs.Read.{converted, of_items, of_json, of_members}

-- the tokens begin with this value, and `new` stands behind it
abbrev pub TakesValue : ℕ → List Token → Data → List Token → Type 0
TakesValue depth old d new = converted of_json (value depth old) ≡ Some (d, new)

-- they begin with none
abbrev pub LacksValue : ℕ → List Token → Type 0
LacksValue depth old = converted of_json (value depth old) ≡ None

-- the same of items and their array's end
abbrev pub TakesItems : ℕ → List Token → Items → List Token → Type 0
TakesItems depth old ds new = converted of_items (items (value depth) (length old) old) ≡ Some (ds, new)

abbrev pub LacksItems : ℕ → List Token → Type 0
LacksItems depth old = converted of_items (items (value depth) (length old) old) ≡ None

-- the same of members and their object's end
abbrev pub TakesMembers : ℕ → List Token → Members → List Token → Type 0
TakesMembers depth old ms new = converted (λ found. of_members found no_members) (members (value depth) (length old) old) ≡ Some (ms, new)

abbrev pub LacksMembers : ℕ → List Token → Type 0
LacksMembers depth old = converted (λ found. of_members found no_members) (members (value depth) (length old) old) ≡ None

-- Names of exports in the tree, and their values.
use Rattle.std.specs.Prelude.{ℕ, List, ◌∷◌, ◌++◌}
use Rattle.bl_wasm.specs.Exports.{PairsOf}
use Rattle.bl_link.specs.declared.store.External.{External}

-- the name of an export behind its part's: a solidus parts them
abbrev pub qualified : List ℕ → List ℕ → List ℕ
qualified part name = part ++ 0x2F ∷ name

-- the exports of parts, each name with its value
abbrev pub Values : Type 0
Values = PairsOf External

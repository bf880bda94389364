-- What stands between the exports and the commands, by the version.
use Rattle.std.proofs.Common.{◌≡◌, ℕ, List, [], ◌∷◌, refl, arith}
use Rattle.bl_program.specs.declared.definitions.Demand.{Demand}
use Rattle.bl_program.specs.declared.definitions.SiteWeight.{SiteWeight}
use Rattle.bl_leb.specs.Grammar.{◌⨾◌}
use Rattle.bl_format.specs.Grammar.{vec}
use Rattle.bl_format.specs.Image.{version, additions, weights, demand}
use Rattle.bl_format.specs.WriterAnswers.{HasLength}
use Rattle.bl_format.proofs.LengthLemmas.{none_long}

-- a version that isn't 1 is 2
pub to_listed : (ds : List Demand) (ws : List SiteWeight) → (version ds ws ≡ 1 → ⊥) → (t : List ℕ) → (vec demand ds ⨾ weights ws) t → additions ds ws t
to_listed [] [] never t h = absurd (never refl)
to_listed [] (w ∷ ws) never t h = h
to_listed (d ∷ ds) ws never t h = h

-- and of version 1 there is nothing
pub none_listed : (ds : List Demand) (ws : List SiteWeight) → version ds ws ≡ 1 → HasLength (additions ds ws) 0
none_listed [] [] is = none_long
none_listed [] (w ∷ ws) is = absurd (omega arith)
none_listed (d ∷ ds) ws is = absurd (omega arith)

-- The tokens of a certificate's JSON value.
use Rattle.std.specs.Prelude.{◌≡◌, List, [], ◌∷◌, ◌++◌, codes, decimal, flat_map, map}
use Rattle.json.specs.Token.{Token, begin_array, begin_object, end_array, end_object, key, number}
use Rattle.json.specs.Written.{Written}
use Rattle.bl_base.specs.declared.number.Pos.{Pos}
use Rattle.bl_graph.specs.declared.certificate.FlowPath.{FlowPath}
use Rattle.bl_graph.specs.declared.certificate.Certificate.{Certificate}

abbrev pub site_token : Pos → Token
site_token s = number (decimal s.0)

abbrev pub path_tokens : FlowPath → List Token
path_tokens path =
    begin_object ∷ key (codes "amount") ∷ number (decimal path.amount) ∷ key (codes "sink") ∷ number (decimal path.sink.0)
    ∷ key (codes "sites") ∷ begin_array ∷ (map site_token path.sites ++ end_array ∷ end_object ∷ [])

abbrev pub certificate_tokens : Certificate → List Token
certificate_tokens c =
    begin_object ∷ key (codes "paths") ∷ begin_array
    ∷ (flat_map path_tokens c.paths ++ end_array ∷ key (codes "weight") ∷ number (decimal c.weight) ∷ end_object ∷ [])

-- these tokens are written behind those before, and what stood before them stays
pub record Adds (old new : Written) (added : List Token) : Type 0 where
  pub before : new.before ≡ old.before
  pub tokens : new.tokens ≡ old.tokens ++ added

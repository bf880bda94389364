-- The text of a certificate.
use Rattle.std.specs.Prelude.{ℕ, List, [], ◌∷◌, ◌++◌, codes, decimal, map}
use Rattle.bl_graph.specs.Certificates.{sites_of}
use Rattle.bl_graph.specs.declared.certificate.FlowPath.{FlowPath}
use Rattle.bl_graph.specs.declared.certificate.Certificate.{Certificate}

-- texts with commas between them
abbrev pub separated : List (List ℕ) → List ℕ
separated [] = []
separated (text ∷ []) = text
separated (text ∷ next ∷ more) = text ++ codes "," ++ separated (next ∷ more)

abbrev pub path_text : FlowPath → List ℕ
path_text path =
    codes "{\"amount\":" ++ decimal path.amount ++ codes ",\"sink\":" ++ decimal path.sink.0
    ++ codes ",\"sites\":[" ++ separated (map decimal (sites_of path)) ++ codes "]}"

-- a compact object, without spaces
abbrev pub certificate_text : Certificate → List ℕ
certificate_text c =
    codes "{\"paths\":[" ++ separated (map path_text c.paths) ++ codes "],\"weight\":" ++ decimal c.weight ++ codes "}"

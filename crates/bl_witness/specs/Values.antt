-- The JSON value of a certificate.
use Rattle.std.specs.Prelude.{◌<◌, ◌^◌, ℕ, map, codes}
use Rattle.std.specs.List.{All}
use Rattle.serde_json.specs.Data.{Data, number, array, object, member, no_members, unsigned}
use Rattle.serde_json.specs.View.{items_of}
use Rattle.bl_graph.specs.Certificates.{sites_of}
use Rattle.bl_graph.specs.declared.certificate.FlowPath.{FlowPath}
use Rattle.bl_graph.specs.declared.certificate.Certificate.{Certificate}

abbrev pub whole : ℕ → Data
whole n = number (unsigned n)

abbrev pub path_data : FlowPath → Data
path_data path =
    object (member (codes "amount") (whole path.amount) (member (codes "sink") (whole path.sink.0)
    (member (codes "sites") (array (items_of (map whole (sites_of path)))) no_members)))

abbrev pub data_of : Certificate → Data
data_of c = object (member (codes "paths") (array (items_of (map path_data c.paths))) (member (codes "weight") (whole c.weight) no_members))

-- positions are below 2^32, and amounts below 2^64
pub record IsPathInRange (path : FlowPath) : Type 0 where
  pub amount : path.amount < 2 ^ 64
  pub sink : path.sink.0 < 2 ^ 32
  pub sites : All (λ s. s.0 < 2 ^ 32) path.sites

-- the numbers of a certificate are those that its fields hold
pub record IsInRange (c : Certificate) : Type 0 where
  pub paths : All IsPathInRange c.paths
  pub weight : c.weight < 2 ^ 64

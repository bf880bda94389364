-- What an object's members are for a path and for a certificate; for private clauses.
use Rattle.std.specs.Prelude.{◌≡◌, ◌^◌, ◌||◌, ℕ, Bool, true, false, List, [], ◌∷◌, ◌++◌, Option, Some, None, option_and_then, option_map, if◌then◌else◌, nat_lt, codes, ⊤}
use Rattle.std.specs.Str.{bytes_eq}
use Rattle.std.specs.Ordering.{nat_cmp}
use Rattle.std.specs.declared.cmp.Ordering.TheVariants.{Less}
use Rattle.std.specs.Cmp.Lexicographic.{slice_cmp}
use Rattle.json.specs.declared.token.Token.{Token}
use Rattle.json.specs.declared.token.Token.TheVariants.{BeginObject, EndObject, BeginArray, EndArray, Key, String, Number, Bool as Boolean, Null, Bad}
use Rattle.serde_json.specs.Data.{Data, Members, member, no_members, object}
use Rattle.serde_json.specs.Find.{as_u64}
use Rattle.serde_json.specs.Read.{number_of}
use Rattle.bl_base.specs.declared.number.Pos.{Pos}
use Rattle.bl_graph.specs.declared.certificate.FlowPath.{FlowPath}
use Rattle.bl_graph.specs.declared.certificate.Certificate.{Certificate}
use Rattle.bl_witness.specs.Shapes.{field, list_of, path_of, position_of, whole_below}
use Rattle.bl_witness.specs.declared.fields.CertificateFields.{CertificateFields}
use Rattle.bl_witness.specs.declared.fields.PathFields.{PathFields}

-- ---- members

-- all keys stand behind this one
abbrev pub AreBehind : List ℕ → Members → Type 0
AreBehind k no_members = ⊤
AreBehind k (member l d ms) = (slice_cmp nat_cmp k l ≡ Less) × AreBehind k ms

-- keys rise, so each stands once
abbrev pub Rise : Members → Type 0
Rise no_members = ⊤
Rise (member k d ms) = AreBehind k ms × Rise ms

abbrev pub is_one_of : List (List ℕ) → List ℕ → Bool
is_one_of [] k = false
is_one_of (l ∷ ls) k = bytes_eq k l || is_one_of ls k

-- whether there is another key than these
abbrev pub has_others : List (List ℕ) → Members → Bool
has_others known no_members = false
has_others known (member k d ms) = if is_one_of known k then has_others known ms else true

abbrev pub path_keys : List (List ℕ)
path_keys = codes "amount" ∷ codes "sink" ∷ codes "sites" ∷ []

abbrev pub certificate_keys : List (List ℕ)
certificate_keys = codes "paths" ∷ codes "weight" ∷ []

-- ---- fields

-- these are the fields of an object with these members
pub record IsPathMembers (ms : Members) (fields : PathFields) : Type 0 where
  pub rise : Rise ms
  pub amount : fields.amount ≡ field (codes "amount") (whole_below (2 ^ 64)) (object ms)
  pub sink : fields.sink ≡ field (codes "sink") position_of (object ms)
  pub sites : fields.sites ≡ field (codes "sites") (list_of position_of) (object ms)
  pub others : fields.others ≡ has_others path_keys ms

pub record IsCertificateMembers (ms : Members) (fields : CertificateFields) : Type 0 where
  pub rise : Rise ms
  pub paths : fields.paths ≡ field (codes "paths") (list_of path_of) (object ms)
  pub weight : fields.weight ≡ field (codes "weight") (whole_below (2 ^ 64)) (object ms)
  pub others : fields.others ≡ has_others certificate_keys ms

-- the fields, once a member is read
abbrev pub with_path_member : List ℕ → Data → PathFields → PathFields
with_path_member k d fields =
    (if bytes_eq k (codes "amount") then record { amount = whole_below (2 ^ 64) d; sink = fields.sink; sites = fields.sites; others = fields.others }
    else if bytes_eq k (codes "sink") then record { amount = fields.amount; sink = position_of d; sites = fields.sites; others = fields.others }
    else if bytes_eq k (codes "sites") then record { amount = fields.amount; sink = fields.sink; sites = list_of position_of d; others = fields.others }
    else record { amount = fields.amount; sink = fields.sink; sites = fields.sites; others = true })

abbrev pub with_certificate_member : List ℕ → Data → CertificateFields → CertificateFields
with_certificate_member k d fields =
    (if bytes_eq k (codes "paths") then record { paths = list_of path_of d; weight = fields.weight; others = fields.others }
    else if bytes_eq k (codes "weight") then record { paths = fields.paths; weight = whole_below (2 ^ 64) d; others = fields.others }
    else record { paths = fields.paths; weight = fields.weight; others = true })

-- what the fields make
abbrev pub path_from : PathFields → Option FlowPath
path_from fields =
    (if fields.others then None else
    option_and_then (λ amount. option_and_then (λ sink. option_map (λ sites. record { sites = sites; sink = sink; amount = amount }) fields.sites) fields.sink) fields.amount)

abbrev pub certificate_from : CertificateFields → Option Certificate
certificate_from fields = (if fields.others then None else option_and_then (λ paths. option_map (λ weight. record { paths = paths; weight = weight }) fields.weight) fields.paths)

-- ---- numbers and lists

-- the whole number that a token is
abbrev pub whole_in : Token → Option ℕ
whole_in BeginObject = None
whole_in EndObject = None
whole_in BeginArray = None
whole_in EndArray = None
whole_in (Key s) = None
whole_in (String s) = None
whole_in (Number s) = option_and_then as_u64 (number_of s.now)
whole_in (Boolean b) = None
whole_in Null = None
whole_in Bad = None

-- the position of a number that is one's
abbrev pub position_numbered : ℕ → Option Pos
position_numbered n = if nat_lt n (2 ^ 32) then Some (record { 0 = n }) else None

-- a list with one item more, where both are there
abbrev pub with_one : {A : Type 0} → Option (List A) → Option A → Option (List A)
with_one list one = option_and_then (λ xs. option_map (λ x. xs ++ x ∷ []) one) list

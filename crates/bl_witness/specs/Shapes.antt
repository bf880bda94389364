-- The certificate that a JSON value is, and what reading bytes as one answers.
use Rattle.std.specs.Prelude.{◌≡◌, ◌^◌, ◌==◌, ℕ, Bool, false, List, [], ◌∷◌, Option, Some, None, Result, Ok, Err, option_and_then, option_map, if◌then◌else◌, nat_lt, codes, IsUtf8, ⊤}
use Rattle.std.specs.Option.{option_map_or}
use Rattle.serde_json.specs.Data.{Data, Items, item, no_items}
use Rattle.serde_json.specs.Find.{as_array, as_number, as_object, as_u64, get}
use Rattle.serde_json.specs.Events.{members_len}
use Rattle.serde_json.specs.Read.{read}
use Rattle.bl_base.specs.declared.number.Pos.{Pos}
use Rattle.bl_graph.specs.declared.certificate.FlowPath.{FlowPath}
use Rattle.bl_graph.specs.declared.certificate.Certificate.{Certificate}
use Rattle.bl_witness.specs.declared.error.CertError.{CertError}
use Rattle.bl_witness.specs.declared.error.CertError.TheVariants.{NotJson, Shape, Memory}

-- ---- what a value is

-- a whole number below a limit, written in digits alone
abbrev pub whole_below : ℕ → Data → Option ℕ
whole_below limit d = option_and_then (λ n. if nat_lt n limit then Some n else None) (option_and_then as_u64 (as_number d))

-- the position that a value is
abbrev pub position_of : Data → Option Pos
position_of d = option_map (λ n. record { 0 = n }) (whole_below (2 ^ 32) d)

-- what each item is, where each is something
abbrev pub each_item : {A : Type 0} → (Data → Option A) → Items → Option (List A)
each_item f no_items = Some []
each_item f (item d ds) = option_and_then (λ x. option_map (λ xs. x ∷ xs) (each_item f ds)) (f d)

abbrev pub list_of : {A : Type 0} → (Data → Option A) → Data → Option (List A)
list_of f d = option_and_then (each_item f) (as_array d)

-- what the member of a key is
abbrev pub field : {A : Type 0} → List ℕ → (Data → Option A) → Data → Option A
field key f d = option_and_then f (get key d)

-- an object with so many members; a value has each key once
abbrev pub has_members : ℕ → Data → Bool
has_members count d = option_map_or (λ ms. members_len ms == count) (as_object d) false

-- the path that a value is: an object of exactly the keys amount, sink and sites
abbrev pub path_of : Data → Option FlowPath
path_of d =
    (if has_members 3 d then
    option_and_then (λ amount. option_and_then (λ sink. option_map (λ sites. record { sites = sites; sink = sink; amount = amount })
    (field (codes "sites") (list_of position_of) d))
    (field (codes "sink") position_of d))
    (field (codes "amount") (whole_below (2 ^ 64)) d)
    else None)

-- the certificate that a value is: an object of exactly the keys paths and weight
abbrev pub certificate_of : Data → Option Certificate
certificate_of d =
    (if has_members 2 d then
    option_and_then (λ paths. option_map (λ weight. record { paths = paths; weight = weight })
    (field (codes "weight") (whole_below (2 ^ 64)) d))
    (field (codes "paths") (list_of path_of) d)
    else None)

-- ---- what bytes are

-- the bytes are the text of this value, as serde_json reads it
pub record IsJson (bytes : List ℕ) (d : Data) : Type 0 where
  pub utf8 : IsUtf8 bytes
  pub value : read bytes ≡ Some d

-- what reading bytes answers: the certificate that their value is; no value; a value that is no certificate
abbrev pub ReadsCertificate : List ℕ → Result Certificate CertError → Type 0
ReadsCertificate bytes (Ok c) = (d : Data) × IsJson bytes d × (certificate_of d ≡ Some c)
ReadsCertificate bytes (Err NotJson) = (d : Data) → IsJson bytes d → ⊥
ReadsCertificate bytes (Err Shape) = (d : Data) × IsJson bytes d × (certificate_of d ≡ None)
ReadsCertificate bytes (Err Memory) = ⊤

-- that certificate, or want of memory
abbrev pub IsThat : Certificate → Result Certificate CertError → Type 0
IsThat c (Ok found) = found ≡ c
IsThat c (Err NotJson) = ⊥
IsThat c (Err Shape) = ⊥
IsThat c (Err Memory) = ⊤

-- whatever reads the bytes answers that certificate, or want of memory
pub record IsReadAs (bytes : List ℕ) (c : Certificate) : Type 0 where
  pub answers : (result : Result Certificate CertError) → ReadsCertificate bytes result → IsThat c result

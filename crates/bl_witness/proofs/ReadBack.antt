-- The value of a certificate is read as that certificate.
use Rattle.std.proofs.Common.{◌≡◌, ◌∙◌, ◌<◌, ◌≤◌, ◌^◌, ap, sym, refl, ℕ, List, [], ◌∷◌, map, Some, None, option_and_then, append-nil, arith, lt-ltb}
use Rattle.std.specs.Prelude.{Ok, Err, Result}
use Rattle.std.specs.List.{All}
use Rattle.std.proofs.lemmas.Bool.{cond-true}
use Rattle.std.proofs.lemmas.List.Elements.{All-head, All-tail}
use Rattle.json.specs.Json.{if_last, value}
use Rattle.json.specs.Lex.{tokens}
use Rattle.json.specs.Tree.{depth, items_depth, json_tokens}
use Rattle.json.proofs.Printed.Trees.{value-json_tokens}
use Rattle.serde_json.specs.Data.{Data}
use Rattle.serde_json.specs.Read.{max_depth, of_items, of_json, read}
use Rattle.serde_json.specs.View.{items_of}
use Rattle.serde_json.specs.Written.{items_outline, outline}
use Rattle.serde_json.proofs.Numbers.{number_of-decimal}
use Rattle.bl_base.specs.declared.number.Pos.{Pos}
use Rattle.bl_graph.specs.Certificates.{sites_of}
use Rattle.bl_graph.specs.declared.certificate.FlowPath.{FlowPath}
use Rattle.bl_graph.specs.declared.certificate.Certificate.{Certificate}
use Rattle.bl_witness.specs.Shapes.{IsJson, IsReadAs, IsThat, ReadsCertificate, certificate_of, each_item, path_of, position_of, whole_below}
use Rattle.bl_witness.specs.Values.{IsInRange, IsPathInRange, data_of, path_data, whole}
use Rattle.bl_witness.specs.declared.error.CertError.{CertError}
use Rattle.bl_witness.specs.declared.error.CertError.TheVariants.{NotJson, Shape, Memory}

-- ---- the value is the certificate

whole_is : (limit n : ℕ) → n < limit → whole_below limit (whole n) ≡ Some n
whole_is limit n lt = cond-true _ _ _ (lt-ltb n limit lt)

position_is : (s : Pos) → s.0 < 2 ^ 32 → position_of (whole s.0) ≡ Some s
position_is s lt = rw (whole_is (2 ^ 32) s.0 lt) refl

sites_are : (sites : List Pos) → All (λ (s : Pos). s.0 < 2 ^ 32) sites → each_item position_of (items_of (map whole (map (λ (s : Pos). s.0) sites))) ≡ Some sites
sites_are [] h = refl
sites_are (s ∷ sites) h =
    rw (position_is s (All-head (λ (t : Pos). t.0 < 2 ^ 32) s sites h), sites_are sites (All-tail (λ (t : Pos). t.0 < 2 ^ 32) s sites h)) refl

path_is : (path : FlowPath) → IsPathInRange path → path_of (path_data path) ≡ Some path
path_is path h = rw (whole_is (2 ^ 64) path.amount h.amount, position_is path.sink h.sink, sites_are path.sites h.sites) refl

paths_are : (paths : List FlowPath) → All IsPathInRange paths → each_item path_of (items_of (map path_data paths)) ≡ Some paths
paths_are [] h = refl
paths_are (path ∷ paths) h = rw (path_is path (All-head IsPathInRange path paths h), paths_are paths (All-tail IsPathInRange path paths h)) refl

pub certificate_is : (c : Certificate) → IsInRange c → certificate_of (data_of c) ≡ Some c
certificate_is c h = rw (whole_is (2 ^ 64) c.weight h.weight, paths_are c.paths h.paths) refl

-- ---- its tokens are read as it

sites_read : (sites : List Pos) → All (λ (s : Pos). s.0 < 2 ^ 32) sites
    → of_items (items_outline (items_of (map whole (map (λ (s : Pos). s.0) sites)))) ≡ Some (items_of (map whole (map (λ (s : Pos). s.0) sites)))
sites_read [] h = refl
sites_read (s ∷ sites) h =
    let below = All-head (λ (t : Pos). t.0 < 2 ^ 32) s sites h in
    rw (number_of-decimal s.0 (omega (arith, below)), sites_read sites (All-tail (λ (t : Pos). t.0 < 2 ^ 32) s sites h)) refl

path_read : (path : FlowPath) → IsPathInRange path → of_json (outline (path_data path)) ≡ Some (path_data path)
path_read path h = rw (number_of-decimal path.amount h.amount, number_of-decimal path.sink.0 (omega (arith, h.sink)), sites_read path.sites h.sites) refl

paths_read : (paths : List FlowPath) → All IsPathInRange paths → of_items (items_outline (items_of (map path_data paths))) ≡ Some (items_of (map path_data paths))
paths_read [] h = refl
paths_read (path ∷ paths) h = rw (path_read path (All-head IsPathInRange path paths h), paths_read paths (All-tail IsPathInRange path paths h)) refl

certificate_read : (c : Certificate) → IsInRange c → of_json (outline (data_of c)) ≡ Some (data_of c)
certificate_read c h = rw (paths_read c.paths h.paths, number_of-decimal c.weight h.weight) refl

items_shallow : {A : Type 0} (f : A → Data) (k : ℕ) → ((x : A) → depth (outline (f x)) ≤ k) → (xs : List A) → items_depth (items_outline (items_of (map f xs))) ≤ k
items_shallow f k h [] = omega arith
items_shallow f k h (x ∷ xs) = omega (arith, h x, items_shallow f k h xs)

path_shallow : (path : FlowPath) → depth (outline (path_data path)) ≤ 2
path_shallow path = omega (arith, items_shallow whole 0 (λ n. omega arith) (sites_of path))

shallow : (c : Certificate) → depth (outline (data_of c)) ≤ max_depth
shallow c = omega (arith, items_shallow path_data 2 path_shallow c.paths)

pub value_read : (c : Certificate) → IsInRange c → (text : List ℕ) → tokens text ≡ json_tokens (outline (data_of c)) → read text ≡ Some (data_of c)
value_read c range text same =
    ap (λ o. option_and_then of_json (option_and_then (λ p. if_last p.0 p.1) o))
    (ap (value max_depth) (same ∙ sym (append-nil _)) ∙ value-json_tokens (outline (data_of c)) max_depth [] (shallow c)) ∙ certificate_read c range

-- ---- whoever reads its text finds it

same_value : (bytes : List ℕ) (d e : Data) → IsJson bytes d → IsJson bytes e → d ≡ e
same_value bytes d e h i =
    let a = h.value in
    let b = i.value in
    cc

module _ (c : Certificate) (bytes : List ℕ) (reads : ReadsCertificate bytes (Ok c)) where
  answers : (result : Result Certificate CertError) → ReadsCertificate bytes result → IsThat c result
  answers (Ok found) w =
      let both : Some c ≡ Some found = sym reads.2 ∙ ap certificate_of (same_value bytes reads.0 w.0 reads.1 w.1) ∙ w.2 in
      cc
  answers (Err NotJson) w = w reads.0 reads.1
  answers (Err Shape) w =
      let both : Some c ≡ None = sym reads.2 ∙ ap certificate_of (same_value bytes reads.0 w.0 reads.1 w.1) ∙ w.2 in
      cc
  answers (Err Memory) w = tt

  pub read_as : IsReadAs bytes c
  read_as = record { answers = answers }

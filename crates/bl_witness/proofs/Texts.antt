-- The text of the value that is written, and its tokens.
use Rattle.std.proofs.Common.{◌≡◌, ◌∙◌, ap, ap₂, sym, refl, ℕ, false, List, [], ◌∷◌, ◌++◌, map, flat_map, append_assoc, codes, decimal}
use Rattle.json.specs.Print.{escape_byte, print}
use Rattle.json.specs.Token.{Token, begin_array, begin_object, end_array, end_object, key, number}
use Rattle.json.specs.Tree.{items_tokens, json_tokens}
use Rattle.serde_json.specs.Data.{Data}
use Rattle.serde_json.specs.View.{items_of}
use Rattle.serde_json.specs.Written.{compact_text, items_outline, items_text, outline}
use Rattle.serde_json.proofs.Texts.{print-outline}
use Rattle.bl_base.specs.declared.number.Pos.{Pos}
use Rattle.bl_graph.specs.Certificates.{sites_of}
use Rattle.bl_graph.specs.declared.certificate.FlowPath.{FlowPath}
use Rattle.bl_graph.specs.declared.certificate.Certificate.{Certificate}
use Rattle.bl_witness.specs.Texts.{certificate_text, path_text, separated}
use Rattle.bl_witness.specs.Tokens.{certificate_tokens, path_tokens, site_token}
use Rattle.bl_witness.specs.Values.{data_of, path_data, whole}

-- items that are written one by one
module _ {A : Type 0} (f : A → Data) where
  comma_behind : (a s : List ℕ) → a ++ (44 ∷ (s ++ codes "]")) ≡ (a ++ codes "," ++ s) ++ codes "]"
  comma_behind a s = sym (append_assoc (a ++ codes ",") s (codes "]") ∙ append_assoc a (codes ",") (s ++ codes "]"))

  items_separated : (text : A → List ℕ) → ((x : A) → compact_text (f x) ≡ text x) → (xs : List A)
      → items_text false (items_of (map f xs)) ≡ separated (map text xs) ++ codes "]"
  items_separated text h [] = refl
  items_separated text h (x ∷ []) = ap (λ s. s ++ codes "]") (h x)
  items_separated text h (x ∷ y ∷ more) =
      ap (λ s. compact_text (f x) ++ (44 ∷ s)) (items_separated text h (y ∷ more)) ∙ ap (λ s. s ++ (44 ∷ (separated (map text (y ∷ more)) ++ codes "]"))) (h x)
      ∙ comma_behind (text x) (separated (map text (y ∷ more)))

regroup : (a n b m c s d e : List ℕ) → a ++ (n ++ (b ++ (m ++ (c ++ ((s ++ d) ++ e))))) ≡ a ++ n ++ b ++ m ++ c ++ s ++ (d ++ e)
regroup a n b m c s d e = simp append_assoc refl

regroup_weight : (a s d b n e : List ℕ) → a ++ ((s ++ d) ++ (b ++ (n ++ e))) ≡ a ++ s ++ (d ++ b) ++ n ++ e
regroup_weight a s d b n e = simp append_assoc refl

path_text_is : (path : FlowPath) → compact_text (path_data path) ≡ path_text path
unfolding escape_byte
path_text_is path =
    ap (λ items. codes "{\"amount\":" ++ (decimal path.amount ++ (codes ",\"sink\":" ++ (decimal path.sink.0 ++ (codes ",\"sites\":[" ++ (items ++ codes "}"))))))
    (items_separated whole decimal (λ n. refl) (sites_of path))
    ∙ regroup (codes "{\"amount\":") (decimal path.amount) (codes ",\"sink\":") (decimal path.sink.0) (codes ",\"sites\":[") (separated (map decimal (sites_of path))) (codes "]") (codes "}")

text_is : (c : Certificate) → compact_text (data_of c) ≡ certificate_text c
unfolding escape_byte
text_is c =
    ap (λ items. codes "{\"paths\":[" ++ (items ++ (codes ",\"weight\":" ++ (decimal c.weight ++ codes "}")))) (items_separated path_data path_text path_text_is c.paths)
    ∙ regroup_weight (codes "{\"paths\":[") (separated (map path_text c.paths)) (codes "]") (codes ",\"weight\":") (decimal c.weight) (codes "}")

-- ---- its tokens

sites_tokens : (sites : List Pos) → items_tokens (items_outline (items_of (map whole (map (λ (s : Pos). s.0) sites)))) ≡ map site_token sites ++ end_array ∷ []
sites_tokens [] = refl
sites_tokens (s ∷ sites) = ap (λ ts. site_token s ∷ ts) (sites_tokens sites)

path_tokens_are : (path : FlowPath) → json_tokens (outline (path_data path)) ≡ path_tokens path
path_tokens_are path =
    let front : List Token → List Token =
    λ ts. begin_object ∷ key (codes "amount") ∷ number (decimal path.amount) ∷ key (codes "sink") ∷ number (decimal path.sink.0) ∷ key (codes "sites") ∷ begin_array ∷ ts in
    ap (λ items. front (items ++ end_object ∷ [])) (sites_tokens path.sites) ∙ ap front (append_assoc (map site_token path.sites) (end_array ∷ []) (end_object ∷ []))

paths_tokens : (paths : List FlowPath) → items_tokens (items_outline (items_of (map path_data paths))) ≡ flat_map path_tokens paths ++ end_array ∷ []
paths_tokens [] = refl
paths_tokens (path ∷ paths) =
    ap₂ (λ a b. a ++ b) (path_tokens_are path) (paths_tokens paths) ∙ sym (append_assoc (path_tokens path) (flat_map path_tokens paths) (end_array ∷ []))

pub tokens_are : (c : Certificate) → certificate_tokens c ≡ json_tokens (outline (data_of c))
tokens_are c =
    let front : List Token → List Token = λ ts. begin_object ∷ key (codes "paths") ∷ begin_array ∷ ts in
    let end : List Token = key (codes "weight") ∷ number (decimal c.weight) ∷ end_object ∷ [] in
    sym (ap (λ items. front (items ++ end)) (paths_tokens c.paths) ∙ ap front (append_assoc (flat_map path_tokens c.paths) (end_array ∷ []) end))

pub printed : (c : Certificate) → print (certificate_tokens c) ≡ certificate_text c
printed c = ap print (tokens_are c) ∙ print-outline (data_of c) ∙ text_is c

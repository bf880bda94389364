-- The text of a certificate is read as that certificate, where its numbers lie in their ranges, as they do where its rules are kept.
use Rattle.std.proofs.lemmas.List.Sums.{sum_by-cons}
use Rattle.std.proofs.Common.{◌≡◌, ◌∙◌, ◌<◌, ◌^◌, ◌≤◌, Bool, true, false, unwrap_or, ap, sym, refl, ℕ, List, [], ◌∷◌, ◌++◌, map, codes, decimal, arith}
use Rattle.std.specs.Prelude.{Ok, IsUtf8, if◌then◌else◌}
use Rattle.std.specs.List.{All}
use Rattle.std.proofs.lemmas.Fmt.{IsAscii-decimal}
use Rattle.std.proofs.lemmas.List.Elements.{All-cons, All-head, All-nil, All-tail}
use Rattle.std.proofs.lemmas.Str.{IsUtf8-append, IsUtf8-from_ascii, IsUtf8-nil}
use Rattle.json.proofs.Printed.Decimals.{IsNumber-decimal}
use Rattle.json.proofs.Printed.Tokens.{tokens-print}
use Rattle.json.proofs.Printed.Trees.{ArePrintable-json_tokens}
use Rattle.json.proofs.Printed.Utf8.{IsUtf8-are_ascii, are_ascii}
use Rattle.json.specs.Lex.{tokens}
use Rattle.json.specs.Print.{print}
use Rattle.json.specs.Tree.{HasNumbers, ItemsHaveNumbers, json_tokens}
use Rattle.serde_json.specs.View.{items_of}
use Rattle.serde_json.specs.Written.{items_outline, outline}
use Rattle.bl_base.proofs.Sums.{sum_le}
use Rattle.bl_base.specs.declared.number.Pos.{Pos}
use Rattle.bl_program.specs.Sites.{is_protected, site_weight}
use Rattle.bl_program.specs.declared.definitions.ProgramParts.{ProgramParts as Program}
use Rattle.bl_graph.specs.Certificates.{Certifies, IsFlowPath, flow_of, sites_of}
use Rattle.bl_graph.specs.Chains.{Carries, IsChain}
use Rattle.bl_graph.specs.Ranges.{AreInRange, commands}
use Rattle.bl_graph.proofs.ChainLemmas.{chain_sites}
use Rattle.bl_graph.specs.declared.certificate.FlowPath.{FlowPath}
use Rattle.bl_graph.specs.declared.certificate.Certificate.{Certificate}
use Rattle.bl_witness.specs.Shapes.{ReadsCertificate}
use Rattle.bl_witness.specs.Texts.{certificate_text, path_text, separated}
use Rattle.bl_witness.specs.Values.{IsInRange, IsPathInRange, data_of, path_data, whole}
use Rattle.bl_witness.proofs.ReadBack.{certificate_is, value_read}
use Rattle.bl_witness.proofs.Texts.{printed, tokens_are}

-- ---- its numbers are numbers of JSON

sites_numbered : (sites : List Pos) → All (λ (s : Pos). s.0 < 2 ^ 32) sites → ItemsHaveNumbers (items_outline (items_of (map whole (map (λ (s : Pos). s.0) sites))))
sites_numbered [] h = tt
sites_numbered (s ∷ sites) h =
    let below = All-head (λ (t : Pos). t.0 < 2 ^ 32) s sites h in
    (IsNumber-decimal s.0 (omega (arith, below)), sites_numbered sites (All-tail (λ (t : Pos). t.0 < 2 ^ 32) s sites h))

paths_numbered : (paths : List FlowPath) → All IsPathInRange paths → ItemsHaveNumbers (items_outline (items_of (map path_data paths)))
paths_numbered [] h = tt
paths_numbered (path ∷ paths) h =
    let first = All-head IsPathInRange path paths h in
    ((IsNumber-decimal path.amount first.amount, (IsNumber-decimal path.sink.0 (omega (arith, first.sink)), (sites_numbered path.sites first.sites, tt))), paths_numbered paths (All-tail IsPathInRange path paths h))

numbered : (c : Certificate) → IsInRange c → HasNumbers (outline (data_of c))
numbered c h = (paths_numbered c.paths h.paths, (IsNumber-decimal c.weight h.weight, tt))

-- ---- it is UTF-8

number_utf8 : (n : ℕ) → n < 2 ^ 64 → IsUtf8 (decimal n)
number_utf8 n h = IsUtf8-from_ascii (decimal n) (IsAscii-decimal n h)

-- text before a number or a list, and then that
then_utf8 : (front text : List ℕ) → IsUtf8 front → are_ascii text ≡ true → (last : List ℕ) → IsUtf8 last → IsUtf8 (front ++ text ++ last)
then_utf8 front text f t last l = IsUtf8-append (front ++ text) last (IsUtf8-append front text f (IsUtf8-are_ascii text t)) l

separated_utf8 : (texts : List (List ℕ)) → All IsUtf8 texts → IsUtf8 (separated texts)
separated_utf8 [] h = IsUtf8-nil
separated_utf8 (text ∷ []) h = All-head IsUtf8 text [] h
separated_utf8 (text ∷ next ∷ more) h =
    then_utf8 text (codes ",") (All-head IsUtf8 text (next ∷ more) h) refl (separated (next ∷ more)) (separated_utf8 (next ∷ more) (All-tail IsUtf8 text (next ∷ more) h))

sites_utf8 : (sites : List Pos) → All (λ (s : Pos). s.0 < 2 ^ 32) sites → All IsUtf8 (map decimal (map (λ (s : Pos). s.0) sites))
sites_utf8 [] h = All-nil IsUtf8
sites_utf8 (s ∷ sites) h =
    let below = All-head (λ (t : Pos). t.0 < 2 ^ 32) s sites h in
    All-cons IsUtf8 (decimal s.0) (map decimal (map (λ (t : Pos). t.0) sites)) (number_utf8 s.0 (omega (arith, below))) (sites_utf8 sites (All-tail (λ (t : Pos). t.0 < 2 ^ 32) s sites h))

path_utf8 : (path : FlowPath) → IsPathInRange path → IsUtf8 (path_text path)
path_utf8 path h =
    let amount = then_utf8 [] (codes "{\"amount\":") IsUtf8-nil refl (decimal path.amount) (number_utf8 path.amount h.amount) in
    let sink = then_utf8 (codes "{\"amount\":" ++ decimal path.amount) (codes ",\"sink\":") amount refl (decimal path.sink.0) (number_utf8 path.sink.0 (omega (arith, h.sink))) in
    let sites = then_utf8 _ (codes ",\"sites\":[") sink refl (separated (map decimal (sites_of path))) (separated_utf8 (map decimal (sites_of path)) (sites_utf8 path.sites h.sites)) in
    IsUtf8-append _ (codes "]}") sites (IsUtf8-are_ascii (codes "]}") refl)

paths_utf8 : (paths : List FlowPath) → All IsPathInRange paths → All IsUtf8 (map path_text paths)
paths_utf8 [] h = All-nil IsUtf8
paths_utf8 (path ∷ paths) h =
    All-cons IsUtf8 (path_text path) (map path_text paths) (path_utf8 path (All-head IsPathInRange path paths h)) (paths_utf8 paths (All-tail IsPathInRange path paths h))

text_utf8 : (c : Certificate) → IsInRange c → IsUtf8 (certificate_text c)
text_utf8 c h =
    let paths = then_utf8 [] (codes "{\"paths\":[") IsUtf8-nil refl (separated (map path_text c.paths)) (separated_utf8 (map path_text c.paths) (paths_utf8 c.paths h.paths)) in
    let weight = then_utf8 _ (codes "],\"weight\":") paths refl (decimal c.weight) (number_utf8 c.weight h.weight) in
    IsUtf8-append _ (codes "}") weight (IsUtf8-are_ascii (codes "}") refl)

-- ---- it is read

pub reads_back : (c : Certificate) → IsInRange c → ReadsCertificate (certificate_text c) (Ok c)
reads_back c range =
    let same = ap tokens (sym (printed c) ∙ ap print (tokens_are c)) ∙ tokens-print (json_tokens (outline (data_of c))) (ArePrintable-json_tokens (outline (data_of c)) (numbered c range)) in
    (data_of c, record { utf8 = text_utf8 c range; value = value_read c range (certificate_text c) same }, certificate_is c range)

-- ---- a certificate that keeps its rules

-- its chains end within the program, and its sites lie there
module _ (program : Program) (is : AreInRange program) where
  rest_sink : (x : ℕ) (sites : List ℕ) (sink : ℕ) → Carries program x sites sink → sink < commands program
  rest_sink x [] sink carries = (is.sinks sink x carries).0
  rest_sink x (s ∷ rest) sink carries = rest_sink carries.1.0 rest sink carries.1.2

  chain_sink : (sites : List ℕ) (sink : ℕ) → IsChain program sites sink → sink < commands program
  chain_sink [] sink chain = absurd chain
  chain_sink (s ∷ rest) sink chain = rest_sink chain.1.0 rest sink chain.1.2

  small_sites : (sites : List Pos) → All (λ s. s < commands program) (map (λ (s : Pos). s.0) sites) → All (λ (s : Pos). s.0 < 2 ^ 32) sites
  small_sites [] h = All-nil (λ (s : Pos). s.0 < 2 ^ 32)
  small_sites (s ∷ sites) h =
      let low = All-head (λ t. t < commands program) s.0 (map (λ (t : Pos). t.0) sites) h in
      All-cons (λ (t : Pos). t.0 < 2 ^ 32) s sites (omega (arith, low, is.numbers)) (small_sites sites (All-tail (λ t. t < commands program) s.0 (map (λ (t : Pos). t.0) sites) h))

  small_paths : (set : ℕ → Bool) (paths : List FlowPath) → flow_of paths < 2 ^ 63 → All (IsFlowPath program set) paths → All IsPathInRange paths
  small_paths set [] few h = All-nil IsPathInRange
  small_paths set (path ∷ paths) few h =
      let first = All-head (IsFlowPath program set) path paths h in
      let sum = sum_by-cons (λ (p : FlowPath). p.amount) path paths in
      All-cons IsPathInRange path paths
      (record {
        amount = omega (arith, sum, few);
        sink = omega (arith, chain_sink (sites_of path) path.sink.0 first.chain, is.numbers);
        sites = small_sites path.sites (chain_sites program is (sites_of path) path.sink.0 first.chain);
      })
      (small_paths set paths (omega (arith, sum, few)) (All-tail (IsFlowPath program set) path paths h))

  -- what flows is less than all sites weigh
  in_range_of : (c : Certificate) → Certifies program c → IsInRange c
  in_range_of c h =
      let most = sum_le (commands program) (λ s. if is_protected program s then unwrap_or (site_weight program s) 0 else 0) (λ s. if true then unwrap_or (site_weight program s) 0 else 0)
      (λ s lt. chosen_le (is_protected program s) (unwrap_or (site_weight program s) 0)) in
      let total = is.total in
      let flow = h.flow in
      let weight = h.weight in
      let few : flow_of c.paths < 2 ^ 63 = omega arith in
      record { paths = small_paths (is_protected program) c.paths few h.paths; weight = omega arith }
    where
      chosen_le : (b : Bool) (n : ℕ) → (if b then n else 0) ≤ n
      chosen_le true n = omega arith
      chosen_le false n = omega arith

  pub kept_reads_back : (c : Certificate) → Certifies program c → ReadsCertificate (certificate_text c) (Ok c)
  kept_reads_back c h = reads_back c (in_range_of c h)

-- The report of a program with protects, and of a certificate that shows them to be the least. Every line ends with a line feed.
use Rattle.std.specs.Prelude.{◌≡◌, ℕ, Bool, IsTrue, List, [], ◌∷◌, ◌++◌, length, codes, count_by, nat_eq, unwrap_or, Option, Some, None}
use Rattle.std.specs.Fmt.{decimal}
use Rattle.std.specs.List.{Contains, filter, find, flat_map, list_any, range_with_len}
use Rattle.std.specs.Option.{is_some, option_map_or}
use Rattle.bl_base.specs.declared.number.Pos.{Pos}
use Rattle.bl_program.specs.Sites.{is_protected, mark_of, site_weight, weight_of}
use Rattle.bl_program.specs.declared.command.Command.{Command}
use Rattle.bl_program.specs.declared.definitions.ProgramParts.{ProgramParts as Program}
use Rattle.bl_graph.specs.Certificates.{IsFlowPath, sites_of}
use Rattle.bl_graph.specs.declared.certificate.Certificate.{Certificate}
use Rattle.bl_graph.specs.declared.certificate.FlowPath.{FlowPath}
use Rattle.bl_graph.specs.declared.secret.Origin.{Origin}
use Rattle.bl_graph.specs.declared.secret.Origin.TheVariants.{Parameter, Global, Memory}
use Rattle.bl_graph.specs.declared.secret.SecretChain.{SecretChain}
use Rattle.bl_ct.specs.declared.verdict.CtVerdict.{CtVerdict}
use Rattle.bl_ct.specs.Verdicts.{chain_in}
use Rattle.bl_outcome.specs.Lines.{line}

-- ---- sites and protects

-- a command that writes a variable whose value can be protected
unfoldable pub is_site : Command → Bool
is_site command = is_some (mark_of command)

-- the number of sites of a program
abbrev pub site_count : Program → ℕ
site_count program = count_by is_site program.commands

-- the protected positions, rising
abbrev pub protects : Program → List ℕ
protects program = filter (is_protected program) (range_with_len 0 (length program.commands))

-- ---- why a site is protected

-- a path takes the site
abbrev pub takes : ℕ → FlowPath → Bool
takes s path = list_any (λ t. nat_eq t s) (sites_of path)

-- the first path that takes the site, where one does
abbrev pub first_path : List FlowPath → ℕ → Option FlowPath
first_path paths s = find (takes s) paths

-- a protect's reason: the first path of the certificate that takes its site. It begins at a load, ends at a sink, and meets the
-- protects at that site alone
pub record HasReason (program : Program) (certificate : Certificate) (s : ℕ) : Type 0 where
  pub path : FlowPath
  pub first : first_path certificate.paths s ≡ Some path
  pub takes : Contains (sites_of path) s
  pub is_path : IsFlowPath program (is_protected program) path
  pub alone : (other : ℕ) → Contains (sites_of path) other → IsTrue (is_protected program other) → other ≡ s

-- ---- the text

-- the counts: functions, commands, sites, and protects with their weight
abbrev pub counts_text : Program → List ℕ
counts_text program =
    line (codes "functions " ++ decimal (length program.functions))
    ++ line (codes "commands " ++ decimal (length program.commands))
    ++ line (codes "sites " ++ decimal (site_count program))
    ++ line (codes "protects " ++ decimal (length (protects program)) ++ codes " weight "
    ++ decimal (weight_of program (is_protected program)))

-- a position behind a space
abbrev pub place_text : ℕ → List ℕ
place_text s = codes " " ++ decimal s

-- a path: its sites and its sink
abbrev pub path_text : FlowPath → List ℕ
path_text path = codes " path" ++ flat_map (λ s. place_text s.0) path.sites ++ codes " sink " ++ decimal path.sink.0

-- the line of a protect, with the site's weight and a path
abbrev pub protect_line : ℕ → ℕ → FlowPath → List ℕ
protect_line s weight path = line (codes "protect " ++ decimal s ++ codes " weight " ++ decimal weight ++ path_text path)

-- the line of the protect at a site, with the first of these paths that takes it
abbrev pub protect_text : Program → List FlowPath → ℕ → List ℕ
protect_text program paths s = option_map_or (protect_line s (unwrap_or (site_weight program s) 0)) (first_path paths s) []

-- where a secret comes from: a parameter by its function's number and its index, a global or a memory by its number
abbrev pub origin_text : Origin → List ℕ
origin_text (Parameter function index) = codes "parameter " ++ decimal function ++ codes " " ++ decimal index
origin_text (Global number) = codes "global " ++ decimal number
origin_text (Memory number) = codes "memory " ++ decimal number

-- the positions that a secret passes; nothing where there is none
abbrev pub through_text : List Pos → List ℕ
through_text [] = []
through_text (s ∷ rest) = codes " through" ++ flat_map (λ t. place_text t.0) (s ∷ rest)

-- the way of a secret: where it comes from, what it passes, and where it may not go
abbrev pub chain_text : SecretChain → List ℕ
chain_text chain = origin_text chain.origin ++ through_text chain.through ++ codes " end " ++ decimal chain.end.0

-- the line on constant time: that the program is so, or the way of a secret that shows that it isn't
abbrev pub chain_line : Option SecretChain → List ℕ
chain_line None = line (codes "constant-time yes")
chain_line (Some chain) = line (codes "constant-time no " ++ chain_text chain)

abbrev pub constant_time_text : CtVerdict → List ℕ
constant_time_text verdict = chain_line (chain_in verdict)

-- the report: the counts, a line for each protect, and the line on constant time
abbrev pub report_text : Program → Certificate → CtVerdict → List ℕ
report_text program certificate verdict =
    counts_text program ++ flat_map (protect_text program certificate.paths) (protects program) ++ constant_time_text verdict

-- the line of a protect, with the site's weight alone
abbrev pub bare_protect_line : ℕ → ℕ → List ℕ
bare_protect_line s weight = line (codes "protect " ++ decimal s ++ codes " weight " ++ decimal weight)

abbrev pub bare_protect_text : Program → ℕ → List ℕ
bare_protect_text program s = bare_protect_line s (unwrap_or (site_weight program s) 0)

-- the counts, and a line for each protect with its weight alone
abbrev pub protects_text : Program → List ℕ
protects_text program = counts_text program ++ flat_map (bare_protect_text program) (protects program)

-- the report without its lines of protects
abbrev pub summary_text : Program → CtVerdict → List ℕ
summary_text program verdict = counts_text program ++ constant_time_text verdict

-- What is noted by sites: protects and first paths.
use Rattle.std.specs.Prelude.{◌≡◌, ℕ, Bool, false, List, nat_eq, Option, Some, None, option_map, slice_get, unwrap_or, if◌then◌else◌}
use Rattle.std.specs.List.{list_any, slice_index_or}
use Rattle.std.specs.Option.{option_or}
use Rattle.bl_program.specs.declared.command.Mark.{Mark}
use Rattle.bl_graph.specs.declared.certificate.FlowPath.{FlowPath}
use Rattle.bl_report.specs.Reports.{first_path}

-- a mark of a site that is protected
abbrev pub is_protect : Option Mark → Bool
is_protect mark = unwrap_or (option_map (λ one. one.protect) mark) false

-- the first of some paths that takes the site is the one of that index in a list; or none does
abbrev pub IsFirst : List FlowPath → List FlowPath → ℕ → Option ℕ → Type 0
IsFirst paths these s None = first_path these s ≡ None
IsFirst paths these s (Some index) = (path : FlowPath) × (slice_get paths index ≡ Some path) × (first_path these s ≡ Some path)

-- what is noted for a position
abbrev pub noted : List (Option ℕ) → ℕ → Option ℕ
noted firsts s = slice_index_or firsts s None

-- what is noted where an index is also noted at these sites, unless another one stands there
abbrev pub also_noted : ℕ → ℕ → List ℕ → Option ℕ → Option ℕ
also_noted index s sites before = option_or before (if list_any (λ t. nat_eq t s) sites then Some index else None)

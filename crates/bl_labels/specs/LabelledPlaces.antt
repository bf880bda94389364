-- What the labels of a module name.
use Rattle.std.specs.Prelude.{ℕ, nat_eq, ◌&&◌, Bool, List, []}
use Rattle.std.specs.List.{list_any}
use Rattle.bl_labels.specs.declared.labels.Labels.{Labels}
use Rattle.bl_labels.specs.declared.labels.Place.{Place}

-- labels that name nothing
abbrev pub unlabelled : Labels
unlabelled = record { params = []; globals = []; memories = []; results = []; demanded = [] }

-- whether an index is among those
abbrev pub is_listed : List ℕ → ℕ → Bool
is_listed indices index = list_any (nat_eq index) indices

-- whether a parameter or a result of a function is among those
abbrev pub is_place : List Place → ℕ → ℕ → Bool
is_place places function index = list_any (λ place. nat_eq function place.function && nat_eq index place.index) places

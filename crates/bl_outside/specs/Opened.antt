-- A file that stays open.
use Rattle.std.specs.Prelude.{ℕ, Bool, List, Option, Some, None, ◌&&◌, ◌==◌, if◌then◌else◌}
use Rattle.std.specs.Str.{bytes_eq}
use Rattle.bl_outside.specs.declared.file_shelf.Opened.{Opened}

-- the open file can be read on at that place of that name
abbrev pub is_fitting : {F : Type 0} → Opened F → List ℕ → ℕ → Bool
is_fitting opened name from = (opened.place == from) && bytes_eq opened.name name

-- the file that is open, where it can be read on at that place of that name
abbrev pub fitting : {F : Type 0} → Option (Opened F) → List ℕ → ℕ → Option F
fitting None name from = None
fitting (Some opened) name from = (if is_fitting opened name from then Some opened.file else None)

-- For each position what the site there writes, as a table.
use Rattle.std.specs.Prelude.{◌≡◌, ◌↔◌, ℕ, Bool, List, Option, Some, None, IsTrue, not, slice_index_or}
use Rattle.std.specs.List.{Contains}
use Rattle.bl_graph.specs.Graphs.{use_of}
use Rattle.bl_graph.specs.declared.facts.Use.{Use}

-- what is noted for a position
abbrev pub noted : List (Option ℕ) → ℕ → Option ℕ
noted written s = slice_index_or written s None

-- for each position the variable that the site there writes, where it isn't in the set
pub record AreUnprotected (writes : List Use) (set : ℕ → Bool) (written : List (Option ℕ)) : Type 0 where
  pub each : (s x : ℕ) → (noted written s ≡ Some x) ↔ (Contains writes (use_of s x) × IsTrue (not (set s)))

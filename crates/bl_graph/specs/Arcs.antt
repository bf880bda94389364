-- Lists of answers and of rows, and the rows that arcs make.
use Rattle.std.specs.Prelude.{ℕ, Bool, false, not, List, [], map, count_by, slice_index_or, Contains, Vec}
use Rattle.std.specs.declared.alloc.Global.{Global}
use Rattle.bl_graph.specs.declared.arcs.Arc.{Arc}

-- a list's answer at a place; no past its end
abbrev pub is_in : List Bool → ℕ → Bool
is_in marks v = slice_index_or marks v false

-- how many places are not marked
abbrev pub unmarked : List Bool → ℕ
unmarked marks = count_by (λ b. not b) marks

-- the rows as lists
abbrev pub rows_in : List (Vec ℕ Global) → List (List ℕ)
rows_in rows = map (λ row. row.items) rows

-- the row at a place; an empty one past the end
abbrev pub row_at : List (List ℕ) → ℕ → List ℕ
row_at rows u = slice_index_or rows u []

-- each row has exactly the numbers to which an arc leads from its own
pub record RowsOf (arcs : List Arc) (rows : List (List ℕ)) : Type 0 where
  pub sound : (u v : ℕ) → Contains (row_at rows u) v → Contains arcs (record { from = u; to = v })
  pub full : (u v : ℕ) → Contains arcs (record { from = u; to = v }) → Contains (row_at rows u) v

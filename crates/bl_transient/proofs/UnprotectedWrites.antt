-- From what sites that aren't protected write to roots and moves, and where these lead.
use Rattle.std.proofs.Common.{◌≡◌, ℕ, ◌<◌, Bool, List, [], ◌∷◌, ◌++◌, Option, Some, None, ap, subst, ◌∙◌, inl, inr}
use Rattle.std.specs.Prelude.{◌↔◌, IsTrue}
use Rattle.std.specs.List.{All, Contains}
use Rattle.std.proofs.lemmas.Option.{none-some, same_Some}
use Rattle.std.proofs.lemmas.List.Elements.{All-append, All-contains, Contains-append_left, Contains-append_right, Contains-append_cases}
use Rattle.bl_base.specs.declared.number.Pos.{Pos}
use Rattle.bl_base.proofs.Members.{first_in, later_in, in_cases, none_in}
use Rattle.bl_graph.specs.Arcs.{RowsOf, is_in, row_at}
use Rattle.bl_graph.specs.Graphs.{use_of}
use Rattle.bl_graph.specs.WrittenVariables.{noted}
use Rattle.bl_graph.specs.declared.facts.Use.{Use}
use Rattle.bl_graph.proofs.ChainLemmas.{all_from}
use Rattle.bl_transient.specs.Reachability.{Reached, Spread, begun, filled, led, listed, moved_to, moves_from, root, roots_from, step}
use Rattle.bl_graph.specs.declared.arcs.Arc.{Arc}

-- ---- roots and moves

listed_in : (o : Option ℕ) (x : ℕ) → Contains (listed o) x → o ≡ Some x
listed_in None x h = absurd (none_in x h)
listed_in (Some y) x h = elim (in_cases y x [] h) as (λ _. Some y ≡ Some x) [ inl same ↦ ap Some same | inr rest ↦ absurd (none_in x rest) ]

in_listed : (o : Option ℕ) (x : ℕ) → o ≡ Some x → Contains (listed o) x
in_listed None x e = absurd (none-some x e)
in_listed (Some y) x e = subst (Contains (y ∷ [])) (same_Some y x e) (first_in y [])

pub root_from : (written : List (Option ℕ)) (loads : List Pos) (x : ℕ) → Contains (roots_from written loads) x → (s : ℕ) × Contains loads (record { 0 = s }) × (noted written s ≡ Some x)
root_from written [] x h = absurd (none_in x h)
root_from written (load ∷ loads) x h =
    elim (Contains-append_cases (listed (noted written load.0)) (roots_from written loads) x h) as (λ _. (s : ℕ) × Contains (load ∷ loads) (record { 0 = s }) × (noted written s ≡ Some x)) [
      | inl here ↦ (load.0, first_in load loads, listed_in (noted written load.0) x here)
      | inr rest ↦ let found = root_from written loads x rest in (found.0, later_in load (record { 0 = found.0 }) loads found.1, found.2)
    ]

pub root_in : (written : List (Option ℕ)) (loads : List Pos) (s x : ℕ) → Contains loads (record { 0 = s }) → noted written s ≡ Some x → Contains (roots_from written loads) x
root_in written [] s x h e = absurd (none_in (record { 0 = s }) h)
root_in written (load ∷ loads) s x h e =
    elim (in_cases load (record { 0 = s }) loads h) as (λ _. Contains (roots_from written (load ∷ loads)) x) [
      | inl same ↦ Contains-append_left (listed (noted written load.0)) (roots_from written loads) x (in_listed (noted written load.0) x (ap (λ (p : Pos). noted written p.0) same ∙ e))
      | inr rest ↦ Contains-append_right (listed (noted written load.0)) (roots_from written loads) x (root_in written loads s x rest e)
    ]

moved_in : (x : ℕ) (o : Option ℕ) (u v : ℕ) → Contains (moved_to x o) (record { from = u; to = v }) → (x ≡ u) × (o ≡ Some v)
moved_in x None u v h = absurd (none_in (let m : Arc = record { from = u; to = v } in m) h)
moved_in x (Some y) u v h =
    elim (in_cases (let m : Arc = record { from = x; to = y } in m) (record { from = u; to = v }) [] h) as (λ _. (x ≡ u) × (Some y ≡ Some v)) [
      | inl same ↦ (ap (λ (m : Arc). m.from) same, ap (λ (m : Arc). Some m.to) same)
      | inr rest ↦ absurd (none_in (let m : Arc = record { from = u; to = v } in m) rest)
    ]

in_moved : (x : ℕ) (o : Option ℕ) (v : ℕ) → o ≡ Some v → Contains (moved_to x o) (record { from = x; to = v })
in_moved x None v e = absurd (none-some v e)
in_moved x (Some y) v e = subst (λ w. Contains (moved_to x (Some y)) (record { from = x; to = w })) (same_Some y v e) (first_in (record { from = x; to = y }) [])

pub move_from : (written : List (Option ℕ)) (reads : List Use) (u v : ℕ) → Contains (moves_from written reads) (record { from = u; to = v })
    → (s : ℕ) × Contains reads (use_of s u) × (noted written s ≡ Some v)
move_from written [] u v h = absurd (none_in (let m : Arc = record { from = u; to = v } in m) h)
move_from written (read ∷ reads) u v h =
    elim (Contains-append_cases (moved_to read.var.0 (noted written read.at.0)) (moves_from written reads) (record { from = u; to = v }) h) as (λ _. (s : ℕ) × Contains (read ∷ reads) (use_of s u) × (noted written s ≡ Some v)) [
      | inl here ↦
          let found = moved_in read.var.0 (noted written read.at.0) u v here in
          (read.at.0, subst (λ x. Contains (read ∷ reads) (use_of read.at.0 x)) found.0 (first_in read reads), found.1)
      | inr rest ↦ let found = move_from written reads u v rest in (found.0, later_in read (use_of found.0 u) reads found.1, found.2)
    ]

pub move_in : (written : List (Option ℕ)) (reads : List Use) (s u v : ℕ) → Contains reads (use_of s u) → noted written s ≡ Some v → Contains (moves_from written reads) (record { from = u; to = v })
move_in written [] s u v h e = absurd (none_in (use_of s u) h)
move_in written (read ∷ reads) s u v h e =
    elim (in_cases read (use_of s u) reads h) as (λ _. Contains (moves_from written (read ∷ reads)) (record { from = u; to = v })) [
      | inl same ↦
          Contains-append_left (moved_to read.var.0 (noted written read.at.0)) (moves_from written reads) (record { from = u; to = v })
          (subst (λ x. Contains (moved_to read.var.0 (noted written read.at.0)) (record { from = x; to = v })) (ap (λ (w : Use). w.var.0) same)
          (in_moved read.var.0 (noted written read.at.0) v (ap (λ (w : Use). noted written w.at.0) same ∙ e)))
      | inr rest ↦ Contains-append_right (moved_to read.var.0 (noted written read.at.0)) (moves_from written reads) (record { from = u; to = v }) (move_in written reads s u v rest e)
    ]

-- ---- where they lead

module _ (written : List (Option ℕ)) (transient : List ℕ) (loads : List Pos) (reads : List Use) where
  abbrev pub roots : List ℕ
  roots = transient ++ roots_from written loads

  pub moves_within : (n : ℕ) → All (λ r. r.var.0 < n) reads → All (λ move. move.from < n) (moves_from written reads)
  moves_within n all = all_from (λ move. move.from < n) (moves_from written reads) (λ m h.
      let found = move_from written reads m.from m.to h in
      All-contains (λ r. r.var.0 < n) reads (use_of found.0 m.from) all found.1)

  module _ (n : ℕ) (within : (s x : ℕ) → noted written s ≡ Some x → x < n) where
    pub roots_within : All (λ x. x < n) transient → All (λ x. x < n) roots
    roots_within all =
        All-append (λ x. x < n) transient (roots_from written loads) all
        (all_from (λ x. x < n) (roots_from written loads) (λ x h. let found = root_from written loads x h in within found.0 x found.2))

    pub rows_within : (rows : List (List ℕ)) → RowsOf (moves_from written reads) rows → (u v : ℕ) → Contains (row_at rows u) v → v < n
    rows_within rows hold u v h = let found = move_from written reads u v (hold.sound u v h) in within found.0 v found.2

  module _ (rows : List (List ℕ)) (hold : RowsOf (moves_from written reads) rows) where
    reached_spread : (x : ℕ) → Reached rows roots x → Spread written transient loads reads x
    reached_spread x (root _ h) =
        elim (Contains-append_cases transient (roots_from written loads) x h) as (λ _. Spread written transient loads reads x) [
          | inl there ↦ begun x there
          | inr load ↦ let found = root_from written loads x load in filled found.0 x found.1 found.2
        ]
    reached_spread x (step u _ before h) = let found = move_from written reads u x (hold.sound u x h) in led found.0 u x found.1 found.2 (reached_spread u before)

    spread_reached : (x : ℕ) → Spread written transient loads reads x → Reached rows roots x
    spread_reached x (begun _ h) = root x (Contains-append_left transient (roots_from written loads) x h)
    spread_reached x (filled s _ h e) = root x (Contains-append_right transient (roots_from written loads) x (root_in written loads s x h e))
    spread_reached x (led s y _ h e t) = step y x (spread_reached y t) (hold.full y x (move_in written reads s y x h e))

    pub spread_are : (marks : List Bool) → ((x : ℕ) → IsTrue (is_in marks x) ↔ Reached rows roots x) → (x : ℕ) → IsTrue (is_in marks x) ↔ Spread written transient loads reads x
    spread_are marks exact x = ((λ h. reached_spread x ((exact x).0 h)), (λ t. (exact x).1 (spread_reached x t)))

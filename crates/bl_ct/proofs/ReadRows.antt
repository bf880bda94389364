-- Rows of reads.
use Rattle.std.proofs.Common.{◌≡◌, ℕ, ◌<◌, List, [], length, sym, ap, subst, map, arith, inl, inr}
use Rattle.std.specs.Prelude.{◌↔◌}
use Rattle.std.specs.List.{All, Contains, slice_index_or}
use Rattle.std.proofs.lemmas.Bool.{cases_lt}
use Rattle.std.proofs.lemmas.List.{get_or_past}
use Rattle.std.proofs.lemmas.List.Elements.{Contains-get_or}
use Rattle.bl_base.proofs.Members.{in_map, from_map, none_in}
use Rattle.bl_program.specs.Sites.{Reads}
use Rattle.bl_graph.specs.Graphs.{use_of}
use Rattle.bl_graph.specs.Names.{place_of}
use Rattle.bl_graph.specs.declared.facts.Use.{Use}
use Rattle.bl_ct.specs.declared.facts.Known.{Known}
use Rattle.bl_graph.specs.declared.arcs.Arc.{Arc}
use Rattle.bl_ct.specs.Facts.{IsKnown}
use Rattle.bl_graph.specs.Arcs.{RowsOf, row_at}
use Rattle.bl_ct.specs.SecretSearch.{from_name}
use Rattle.bl_graph.proofs.NameLemmas.{Rise, place_within}
use Rattle.bl_ct.proofs.KnownRanges.{reads_in}
use Rattle.bl_ct.proofs.NameTables.{place_own, within_has}

-- an element by its place, in an equal list
pub elem : {A : Type 0} (xs ys : List A) → xs ≡ ys → (k : ℕ) (d : A) → k < length xs → Contains ys (slice_index_or xs k d)
elem xs ys e k d lt = subst (λ l. Contains l (slice_index_or xs k d)) e (Contains-get_or xs k d lt)

-- a read, from an arc of it
arc_read : (names : List ℕ) (rs : List Use) (x s : ℕ) → Rise names → Contains names x → Contains (map (from_name names) rs) (record { from = place_of names x; to = s })
    → Contains rs (use_of s x)
arc_read names rs x s rise has h =
    let w = from_map (from_name names) rs (record { from = place_of names x; to = s }) h in
    let same : w.0.var.0 ≡ x = place_own names x w.0.var.0 rise has (ap (λ (a : Arc). a.from) w.2) in
    subst (λ v. Contains rs (use_of s v)) same (subst (λ p. Contains rs (use_of p w.0.var.0)) (ap (λ (a : Arc). a.to) w.2) w.1)

-- a row with something in it is within
row_within : (rows : List (List ℕ)) (place s : ℕ) → Contains (row_at rows place) s → place < length rows
row_within rows place s h = elim (cases_lt place (length rows)) as (λ _. place < length rows) [
  | inl lt ↦ lt
  | inr past ↦ absurd (none_in s (subst (λ l. Contains l s) (get_or_past rows place [] (omega arith)) h))
]

module _ (known : Known) (is : IsKnown known) (arcs : List Arc) where
  abbrev names : List ℕ
  names = known.names.now

  pub arcs_within : (n : ℕ) → arcs ≡ map (from_name names) known.graph.now.reads → n ≡ length names → All (λ arc. arc.from < n) arcs
  arcs_within n same e = λ k d lt.
      let arc : Arc = slice_index_or arcs k d in
      let w = from_map (from_name names) known.graph.now.reads arc (elem arcs (map (from_name names) known.graph.now.reads) same k d lt) in
      let from : place_of names w.0.var.0 ≡ arc.from = ap (λ (a : Arc). a.from) w.2 in
      let within = place_within names w.0.var.0 is.names.are.rise (reads_in known is w.0 w.1).1 in
      omega arith

  -- the row of a variable that is no name is empty
  pub reader_rows : (rows : List (List ℕ)) → length rows ≡ length names → arcs ≡ map (from_name names) known.graph.now.reads → RowsOf arcs rows
      → (x s : ℕ) → Contains (row_at rows (place_of names x)) s ↔ Reads known.program.now s x
  reader_rows rows places same hold x s = (
    (λ h.
        let within = row_within rows (place_of names x) s h in
        let has = within_has names x (omega arith) in
        (is.graph.reads.each s x).0 (arc_read names known.graph.now.reads x s is.names.are.rise has
        (subst (λ l. Contains l (record { from = place_of names x; to = s })) same (hold.sound (place_of names x) s h)))),
    (λ h. hold.full (place_of names x) s (subst (λ l. Contains l (record { from = place_of names x; to = s })) (sym same)
        (in_map (from_name names) known.graph.now.reads (use_of s x) ((is.graph.reads.each s x).1 h)))),
  )

-- The rows of arcs, arc by arc.
use Rattle.std.proofs.Common.{◌≡◌, ℕ, ◌<◌, List, [], ◌∷◌, ◌++◌, length, set, sym, ap, subst, ◌∙◌, inl, inr}
use Rattle.std.specs.List.{Contains}
use Rattle.std.proofs.lemmas.Bool.{cases_eq}
use Rattle.std.proofs.lemmas.List.{get_or-set_same, get_or-set_other}
use Rattle.std.proofs.lemmas.List.Elements.{Contains-push_cases, Contains-append_left, Contains-push}
use Rattle.bl_graph.specs.declared.arcs.Arc.{Arc}
use Rattle.bl_graph.specs.Arcs.{RowsOf, row_at}

module _ (arcs : List Arc) (rows : List (List ℕ)) (so_far : RowsOf arcs rows) (arc : Arc) where
  module _ (within : arc.from < length rows) where
    abbrev longer : List ℕ
    longer = row_at rows arc.from ++ arc.to ∷ []

    abbrev more : List (List ℕ)
    more = set rows arc.from longer

    here_ : row_at more arc.from ≡ longer
    here_ = get_or-set_same rows arc.from longer [] within

    elsewhere : (u : ℕ) → (u ≡ arc.from → ⊥) → row_at more u ≡ row_at rows u
    elsewhere u apart = get_or-set_other rows arc.from u longer [] apart

    kept : (u v : ℕ) → Contains (row_at rows u) v → Contains (row_at more u) v
    kept u v there =
        elim (cases_eq u arc.from) as (λ _. Contains (row_at more u) v) [
          | inl e ↦
              let row : row_at more u ≡ longer = ap (row_at more) e ∙ here_ in
              subst (λ r. Contains r v) (sym row) (Contains-append_left (row_at rows arc.from) (arc.to ∷ []) v (subst (λ w. Contains (row_at rows w) v) e there))
          | inr apart ↦ subst (λ r. Contains r v) (sym (elsewhere u apart)) there
        ]

    abbrev Sound : ℕ → ℕ → Type 0
    Sound u v = Contains (arcs ++ arc ∷ []) (record { from = u; to = v })

    old_sound : (u v : ℕ) → Contains (row_at rows u) v → Sound u v
    old_sound u v h = Contains-append_left arcs (arc ∷ []) (record { from = u; to = v }) (so_far.sound u v h)

    longer_sound : (v : ℕ) → Contains longer v → Sound arc.from v
    longer_sound v h =
        elim (Contains-push_cases (row_at rows arc.from) arc.to v h) as (λ _. Sound arc.from v) [
          | inl there ↦ old_sound arc.from v there
          | inr e ↦ subst (λ w. Sound arc.from w) e (Contains-push arcs arc)
        ]

    -- an arc from a node that may be left
    pub row_yes : RowsOf (arcs ++ arc ∷ []) more
    row_yes = record {
      sound = λ u v h.
          elim (cases_eq u arc.from) as (λ _. Sound u v) [
            | inl e ↦
                let row : row_at more u ≡ longer = ap (row_at more) e ∙ here_ in
                subst (λ w. Sound w v) (sym e) (longer_sound v (subst (λ r. Contains r v) row h))
            | inr apart ↦ old_sound u v (subst (λ r. Contains r v) (elsewhere u apart) h)
          ];
      full = λ u v h.
          elim (Contains-push_cases arcs arc (record { from = u; to = v }) h) as (λ _. Contains (row_at more u) v) [
            | inl there ↦ kept u v (so_far.full u v there)
            | inr e ↦
                subst (λ a. Contains (row_at more a.from) a.to) e (subst (λ r. Contains r arc.to) (sym here_) (Contains-push (row_at rows arc.from) arc.to))
          ];
    }

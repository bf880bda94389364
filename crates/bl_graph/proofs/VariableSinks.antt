-- A sink for each variable that some sink reads.
use Rattle.std.proofs.Common.{◌≡◌, ℕ, ◌+◌, ◌<◌, List, length, take, set, sym, ap, subst, ◌∙◌, inl, inr, slice_index}
use Rattle.std.specs.List.{Contains, slice_index_or}
use Rattle.std.proofs.lemmas.Bool.{cases_eq}
use Rattle.std.proofs.lemmas.List.{take_more, get_or-set_same, get_or-set_other}
use Rattle.std.proofs.lemmas.List.Elements.{Contains-get_or, Contains-push_cases}
use Rattle.bl_graph.specs.Graphs.{use_of}
use Rattle.bl_graph.specs.declared.facts.Use.{Use}
use Rattle.bl_graph.specs.Names.{place_of}
use Rattle.bl_graph.proofs.NameLemmas.{Rise, place_inj, place_within}

-- what the first so many sinks say
abbrev pub KnowsFirst : List ℕ → List Use → ℕ → List ℕ → Type 0
KnowsFirst names sinks i found = (position x : ℕ) → Contains names x → Contains (take i sinks) (use_of position x) → Contains sinks (use_of (slice_index found (place_of names x)) x)

pub knows_more : (names : List ℕ) → Rise names → (sinks : List Use) (i : ℕ) (found : List ℕ) (d : Use) → i < length sinks → Contains names (slice_index_or sinks i d).var.0 → length found ≡ length names → KnowsFirst names sinks i found
    → KnowsFirst names sinks (i + 1) (set found (place_of names (slice_index_or sinks i d).var.0) (slice_index_or sinks i d).at.0)
knows_more names rise sinks i found d lt held long knows position x has h =
    let next : Use = slice_index_or sinks i d in
    let place : ℕ = place_of names next.var.0 in
    let within : place < length found = subst (λ n. place < n) (sym long) (place_within names next.var.0 rise held) in
    let new : List ℕ = set found place next.at.0 in
    elim (cases_eq x next.var.0) as (λ _. Contains sinks (use_of (slice_index new (place_of names x)) x)) [
      | inl same ↦
          let value : slice_index new (place_of names x) ≡ next.at.0 = ap (λ v. slice_index new (place_of names v)) same ∙ get_or-set_same found place next.at.0 0 within in
          subst (λ a. Contains sinks (use_of a x)) (sym value) (subst (λ v. Contains sinks (use_of next.at.0 v)) (sym same) (Contains-get_or sinks i d lt))
      | inr other ↦
          let value : slice_index new (place_of names x) ≡ slice_index found (place_of names x) =
          get_or-set_other found place (place_of names x) next.at.0 0 (λ e. other (place_inj names x next.var.0 rise has held e)) in
          let before : Contains (take i sinks) (use_of position x) =
          elim (Contains-push_cases (take i sinks) next (use_of position x) (subst (λ l. Contains l (use_of position x)) (take_more sinks i d lt) h)) as (λ _. Contains (take i sinks) (use_of position x)) [
            | inl there ↦ there
            | inr e ↦ absurd (other (sym (ap (λ (u : Use). u.var.0) e)))
          ] in
          subst (λ a. Contains sinks (use_of a x)) (sym value) (knows position x has before)
    ]

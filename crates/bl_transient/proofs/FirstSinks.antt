-- The first sink that reads a marked variable, sink by sink.
use Rattle.std.proofs.Common.{◌≡◌, ℕ, ◌≤◌, Bool, false, List, [], ◌∷◌, ◌++◌, Option, Some, None, sym, ap, subst, ◌∙◌, arith, inl, inr}
use Rattle.std.specs.Prelude.{IsTrue}
use Rattle.std.specs.List.{Contains}
use Rattle.std.proofs.lemmas.Bool.{false≢true}
use Rattle.std.proofs.lemmas.List.Elements.{Contains-push_cases, Contains-append_left, Contains-push}
use Rattle.bl_graph.specs.Graphs.{use_of}
use Rattle.bl_graph.specs.declared.facts.Use.{Use}
use Rattle.bl_graph.specs.Arcs.{is_in}
use Rattle.bl_transient.specs.Reachability.{FirstSink, IsLower}

module _ (marks : List Bool) (sinks : List Use) (use_ : Use) where
  no_more : (position x : ℕ) → is_in marks use_.var.0 ≡ false → IsTrue (is_in marks x) → use_ ≡ use_of position x → ⊥
  no_more position x cold transient e = false≢true (sym cold ∙ subst (λ v. IsTrue (is_in marks v)) (sym (ap (λ (u : Use). u.var.0) e)) transient)

  -- a sink that reads no marked variable
  pub first_no : (first : Option ℕ) → is_in marks use_.var.0 ≡ false → FirstSink marks sinks first → FirstSink marks (sinks ++ use_ ∷ []) first
  first_no None cold none = λ position x h transient.
      elim (Contains-push_cases sinks use_ (use_of position x) h) as (λ _. ⊥) [
        | inl there ↦ none position x there transient
        | inr e ↦ no_more position x cold transient e
      ]
  first_no (Some p) cold first = record {
    var = first.var;
    sink = Contains-append_left sinks (use_ ∷ []) (use_of p first.var) first.sink;
    transient = first.transient;
    least = λ position x h transient.
        elim (Contains-push_cases sinks use_ (use_of position x) h) as (λ _. p ≤ position) [
          | inl there ↦ first.least position x there transient
          | inr e ↦ absurd (no_more position x cold transient e)
        ];
  }

  here_ : IsTrue (is_in marks use_.var.0) → (r : ℕ) → r ≡ use_.at.0 → ((position x : ℕ) → Contains sinks (use_of position x) → IsTrue (is_in marks x) → r ≤ position) → FirstSink marks (sinks ++ use_ ∷ []) (Some r)
  here_ transient r e least = record {
    var = use_.var.0;
    sink = subst (λ a. Contains (sinks ++ use_ ∷ []) (use_of a use_.var.0)) (sym e) (Contains-push sinks use_);
    transient = transient;
    least = λ position x h marked.
        elim (Contains-push_cases sinks use_ (use_of position x) h) as (λ _. r ≤ position) [
          | inl there ↦ least position x there marked
          | inr same ↦ let at_ : use_.at.0 ≡ position = ap (λ (u : Use). u.at.0) same in omega arith
        ];
  }

  there_ : (p : ℕ) → p ≤ use_.at.0 → FirstSink marks sinks (Some p) → (r : ℕ) → r ≡ p → FirstSink marks (sinks ++ use_ ∷ []) (Some r)
  there_ p le first r e = record {
    var = first.var;
    sink = subst (λ a. Contains (sinks ++ use_ ∷ []) (use_of a first.var)) (sym e) (Contains-append_left sinks (use_ ∷ []) (use_of p first.var) first.sink);
    transient = first.transient;
    least = λ position x h marked.
        elim (Contains-push_cases sinks use_ (use_of position x) h) as (λ _. r ≤ position) [
          | inl there ↦ let least = first.least position x there marked in omega arith
          | inr same ↦ let at_ : use_.at.0 ≡ position = ap (λ (u : Use). u.at.0) same in omega arith
        ];
  }

  -- a sink that reads one
  pub first_yes : (first : Option ℕ) (r : ℕ) → IsTrue (is_in marks use_.var.0) → IsLower first use_.at.0 r → FirstSink marks sinks first → FirstSink marks (sinks ++ use_ ∷ []) (Some r)
  first_yes None r transient lower none = here_ transient r lower (λ position x h marked. absurd (none position x h marked))
  first_yes (Some p) r transient lower first =
      elim (Rattle.std.proofs.lemmas.Bool.cases_lt use_.at.0 p) as (λ _. FirstSink marks (sinks ++ use_ ∷ []) (Some r)) [
        | inl less ↦ here_ transient r (omega arith) (λ position x h marked. let least = first.least position x h marked in omega arith)
        | inr le ↦ there_ p le first r (omega arith)
      ]

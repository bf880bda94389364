-- For each position what the site there writes, use by use.
use Rattle.std.proofs.Common.{◌≡◌, ℕ, ◌+◌, ◌<◌, Bool, true, not, List, [], ◌∷◌, ◌++◌, length, take, drop, set, replicate, Option, Some, None, sym, ap, subst, ◌∙◌, inl, inr}
use Rattle.std.specs.Prelude.{◌↔◌, IsTrue}
use Rattle.std.specs.List.{Contains, slice_index_or}
use Rattle.std.proofs.lemmas.Bool.{cases_eq}
use Rattle.std.proofs.lemmas.Option.{none-some, same_Some}
use Rattle.std.proofs.lemmas.List.{take-append-drop, take_more, get_or-set_same, get_or-set_other}
use Rattle.std.proofs.lemmas.List.Elements.{Contains-append_left, Contains-push, Contains-push_cases, Contains-get_or}
use Rattle.bl_base.proofs.BoolLemmas.{never_both}
use Rattle.bl_base.proofs.Lists.{replicate_or}
use Rattle.bl_base.proofs.Members.{none_in}
use Rattle.bl_graph.specs.Graphs.{use_of}
use Rattle.bl_graph.specs.WrittenVariables.{AreUnprotected, noted}
use Rattle.bl_graph.specs.declared.facts.Use.{Use}

pub free_none : (writes : List Use) (chosen : ℕ → Bool) (count : ℕ) (written : List (Option ℕ)) → written ≡ replicate count None → AreUnprotected (take 0 writes) chosen written
free_none writes chosen count written e = record {
  each = λ s x. (
    (λ h. absurd (none-some x (sym (nothing s) ∙ h))),
    (λ h. absurd (none_in (use_of s x) h.0)),
  );
}
  where
    nothing : (s : ℕ) → noted written s ≡ None
    nothing s = ap (λ l. noted l s) e ∙ replicate_or count s None

module _ (writes : List Use) (chosen : ℕ → Bool) (i : ℕ) (d : Use) (lt : i < length writes) (written : List (Option ℕ)) (so_far : AreUnprotected (take i writes) chosen written) where
  abbrev next : Use
  next = slice_index_or writes i d

  more : take (i + 1) writes ≡ take i writes ++ next ∷ []
  more = take_more writes i d lt

  -- the next one is protected
  pub free_no : chosen next.at.0 ≡ true → AreUnprotected (take (i + 1) writes) chosen written
  free_no e = record {
    each = λ s x. (
      (λ h. let had = (so_far.each s x).0 h in (subst (λ l. Contains l (use_of s x)) (sym more) (Contains-append_left (take i writes) (next ∷ []) (use_of s x) had.0), had.1)),
      (λ h. elim (Contains-push_cases (take i writes) next (use_of s x) (subst (λ l. Contains l (use_of s x)) more h.0)) as (λ _. noted written s ≡ Some x) [
        | inl there ↦ (so_far.each s x).1 (there, h.1)
        | inr same ↦ absurd (never_both (chosen s) (sym (ap (λ (u : Use). chosen u.at.0) same) ∙ e) h.1)
      ]),
    );
  }

  -- it isn't
  pub free_yes : not (chosen next.at.0) ≡ true → next.at.0 < length written → ((s x y : ℕ) → Contains writes (use_of s x) → Contains writes (use_of s y) → x ≡ y)
      → AreUnprotected (take (i + 1) writes) chosen (set written next.at.0 (Some next.var.0))
  free_yes e within one = record {
    each = λ s x.
        elim (cases_eq s next.at.0) as (λ _. (noted (set written next.at.0 (Some next.var.0)) s ≡ Some x) ↔ (Contains (take (i + 1) writes) (use_of s x) × IsTrue (not (chosen s)))) [
          | inl same ↦
              let value : noted (set written next.at.0 (Some next.var.0)) s ≡ Some next.var.0 =
              ap (noted (set written next.at.0 (Some next.var.0))) same ∙ get_or-set_same written next.at.0 (Some next.var.0) None within in (
                (λ h.
                    let var : next.var.0 ≡ x = same_Some next.var.0 x (sym value ∙ h) in (
                      subst (λ l. Contains l (use_of s x)) (sym more) (subst (λ v. Contains (take i writes ++ next ∷ []) (use_of s v)) var
                          (subst (λ p. Contains (take i writes ++ next ∷ []) (use_of p next.var.0)) (sym same) (Contains-push (take i writes) next))),
                      ap (λ p. not (chosen p)) same ∙ e,
                    )),
                (λ h. value ∙ ap Some (one s next.var.0 x (subst (λ p. Contains writes (use_of p next.var.0)) (sym same) (Contains-get_or writes i d lt)) (subst (λ l. Contains l (use_of s x)) (take-append-drop (i + 1) writes) (Contains-append_left (take (i + 1) writes) (drop (i + 1) writes) (use_of s x) h.0)))),
              )
          | inr other ↦
              let value : noted (set written next.at.0 (Some next.var.0)) s ≡ noted written s =
              get_or-set_other written next.at.0 s (Some next.var.0) None other in (
                (λ h. let had = (so_far.each s x).0 (sym value ∙ h) in (subst (λ l. Contains l (use_of s x)) (sym more) (Contains-append_left (take i writes) (next ∷ []) (use_of s x) had.0), had.1)),
                (λ h. value ∙ elim (Contains-push_cases (take i writes) next (use_of s x) (subst (λ l. Contains l (use_of s x)) more h.0)) as (λ _. noted written s ≡ Some x) [
                  | inl there ↦ (so_far.each s x).1 (there, h.1)
                  | inr same ↦ absurd (other (sym (ap (λ (u : Use). u.at.0) same)))
                ]),
              )
        ];
  }

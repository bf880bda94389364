-- Verdicts from a whole search and a table of ends.
use Rattle.std.proofs.Common.{◌≡◌, ℕ, zero, suc, ◌<◌, Bool, false, List, [], ◌∷◌, ◌++◌, length, set, refl, sym, ap, subst, ◌∙◌, inl, inr, not, ◌||◌, nat_eq, Option, Some, None}
use Rattle.std.specs.Prelude.{IsTrue, ◌↔◌, is_some}
use Rattle.std.specs.List.{All, Contains, slice_index_or}
use Rattle.std.proofs.Math.Bool.{or-false}
use Rattle.std.proofs.lemmas.Bool.{cases_eq, eqb-true, false≢true, not_from_false, false_from_ne_true}
use Rattle.std.proofs.lemmas.List.{get_or-set_same, get_or-set_other}
use Rattle.std.proofs.lemmas.List.Elements.{All-contains, Contains-get_or, Contains-push}
use Rattle.std.proofs.lemmas.List.Folds.{list_any-append}
use Rattle.bl_base.specs.declared.names.Label.{Label}
use Rattle.bl_base.specs.declared.names.Label.TheVariants as label
use Rattle.bl_program.specs.declared.definitions.ProgramParts.{ProgramParts as Program}
use Rattle.bl_ct.specs.declared.search.Step.{Step}
use Rattle.bl_ct.specs.declared.search.Cause.{Cause}
use Rattle.bl_ct.specs.declared.search.Cause.TheVariants.{Declared, Loaded, Moved}
use Rattle.bl_ct.specs.declared.verdict.Leak.{Leak}
use Rattle.bl_graph.specs.Secrets.{Demands}
use Rattle.bl_ct.specs.Facts.{AreFacts, AreSecretsInRange, IsKnown}
use Rattle.bl_ct.specs.declared.facts.Known.{Known}
use Rattle.bl_ct.specs.declared.facts.Facts.{Facts}
use Rattle.bl_graph.specs.Labels.{Secret, declared, loaded, moved}
use Rattle.bl_graph.specs.Ranges.{variables}
use Rattle.bl_graph.specs.SecretChains.{Ends, sunk, stored, given}
use Rattle.bl_ct.specs.SecretSearch.{Has, IsJustifiedBy, Searched, AreEnds, IsLeak, entry_of, is_found, mark_of}
use Rattle.bl_ct.specs.Leaks.{LeakOf, LeakFound}
use Rattle.bl_ct.specs.Verdicts.{AreSecrets, IsLeastLabelling, is_secret, labelling_of}
use Rattle.bl_ct.proofs.KnownRanges.{secret_in}
use Rattle.bl_ct.proofs.SearchVisits.{found_step, step_found, in_has, has_in}

none_some : (o : Option ℕ) → o ≡ None → IsTrue (is_some o) → ⊥
none_some o e h = false≢true (sym (ap is_some e) ∙ h)

module _ (program : Program) (is : AreSecretsInRange program) (names : List ℕ) (demanded : List Bool) (queue : List Step) (ends : List (Option ℕ))
    (searched : Searched program queue) (table : AreEnds program names ends) (exact : (x : ℕ) → IsTrue (mark_of names demanded x) ↔ Demands program x) where
  module _ (none : (step : Step) → Contains queue step → LeakOf names ends demanded step None) where
    no_end : (x end : ℕ) → Ends program x end → IsTrue (is_found queue x) → ⊥
    no_end x end h t =
        let found = found_step queue x t in
        none_some (entry_of names ends x) (ap (entry_of names ends) (sym found.2) ∙ (none found.0 found.1).0) (table.full x end h)

    -- a demanded variable, by how it was found
    by_cause : (step : Step) (place : ℕ) (cause : Cause) → Contains queue step → step.cause ≡ cause → IsJustifiedBy program queue place step.var cause → Demands program step.var → ⊥
    by_cause step place (Declared origin) there e h d = is.apart step.var origin h d
    by_cause step place (Loaded s m) there e h d = (none step there).1 s m e ((exact step.var).1 d)
    by_cause step place (Moved s before) there e h d =
        no_end h.1.0.var s (given step.var h.1.2 h.1.3 d) (step_found queue h.1.0 (has_in queue before h.1.0 h.1.1))

    no_demanded : (x : ℕ) → Demands program x → IsTrue (is_found queue x) → ⊥
    no_demanded x d t =
        let found = found_step queue x t in
        let place = in_has queue found.0 found.1 in
        by_cause found.0 place.0 found.0.cause found.1 refl (searched.sound place.0 found.0 place.2) (subst (Demands program) (sym found.2) d)

    public : (x : ℕ) → (IsTrue (is_found queue x) → ⊥) → IsTrue (not (is_found queue x))
    public x cold = not_from_false (is_found queue x) (false_from_ne_true (is_found queue x) cold)

    pub are_secrets : All (λ step. step.var < variables program) queue → AreSecrets program queue
    are_secrets small = record {
      small = small;
      labelled = record {
        assigns = record {
          declared = λ x origin h. (searched.exact x).1 (declared x origin h);
          loads = λ s m x h w. (searched.exact x).1 (loaded s m x h w);
          moves = λ s x y r w t. (searched.exact y).1 (moved s x y r w ((searched.exact x).0 t));
        };
        sinks = λ position x h. public x (no_end x position (sunk h));
        stores = λ position x h. public x (no_end x position (stored h));
        demanded = λ x d. public x (no_demanded x d);
      };
      least = searched.exact;
    }

  pub leaks : (leak : Leak) → LeakFound names queue ends demanded (Rattle.std.specs.declared.option.Option.TheVariants.Some leak) → (step : Step) × Has queue leak.place step × IsLeak program step leak.end
  leaks leak found = (
    found.0,
    found.1,
    elim found.2 as (λ _. IsLeak program found.0 leak.end) [
      | inl e ↦ inl (table.sound found.0.var leak.end e)
      | inr load ↦ inr (load.0, load.1, (exact found.0.var).0 load.2)
    ],
  )

-- marks of a list of the demanded variables are those of the demanded variables
pub demanded_exact : (program : Program) (facts : Facts) (are : AreFacts program facts) (names : List ℕ) (marks : List Bool) (list : List ℕ) → list ≡ facts.demanded
    → ((v : ℕ) → IsTrue (mark_of names marks v) ↔ Contains list v) → (x : ℕ) → IsTrue (mark_of names marks x) ↔ Demands program x
demanded_exact program facts are names marks list e exact x =
    let listed : Contains list x ↔ Demands program x = subst (λ l. Contains l x ↔ Demands program x) (sym e) (are.demanded x) in
    ((λ h. listed.0 ((exact x).0 h)), (λ d. (exact x).1 (listed.1 d)))

-- secret variables are in range
pub steps_small : (known : Known) (is : IsKnown known) (steps : List Step) → Searched known.program.now steps → All (λ step. step.var < variables known.program.now) steps
steps_small known is steps searched = λ k d lt.
    let step : Step = slice_index_or steps k d in
    let secret : Secret known.program.now step.var = (searched.exact step.var).0 (step_found steps step (Contains-get_or steps k d lt)) in
    All-contains (λ x. x < variables known.program.now) known.names.now step.var is.names.are.small (secret_in known is step.var secret)

-- ---- labels of all variables

label_at : (labels : List Label) (x : ℕ) → labelling_of labels x ≡ is_secret (Some (slice_index_or labels x label.Public))
label_at [] x = refl
label_at (one ∷ labels) zero = refl
label_at (one ∷ labels) (suc x) = label_at labels x

-- one step more
pub labels_more : (labels : List Label) (steps : List Step) (u : Step) → u.var < length labels → ((x : ℕ) → labelling_of labels x ≡ is_found steps x)
    → (x : ℕ) → labelling_of (set labels u.var label.Secret) x ≡ is_found (steps ++ u ∷ []) x
labels_more labels steps u within same x =
    let after : List Label = set labels u.var label.Secret in
    elim (cases_eq x u.var) as (λ _. labelling_of after x ≡ is_found (steps ++ u ∷ []) x) [
      | inl e ↦
          label_at after x ∙ (ap (λ y. is_secret (Some (slice_index_or after y label.Public))) e
          ∙ (ap (λ l. is_secret (Some l)) (get_or-set_same labels u.var label.Secret label.Public within)
          ∙ sym (ap (is_found (steps ++ u ∷ [])) e ∙ step_found (steps ++ u ∷ []) u (Contains-push steps u))))
      | inr apart ↦
          let cold : nat_eq u.var x ≡ false = false_from_ne_true (nat_eq u.var x) (λ h. apart (sym (eqb-true u.var x h))) in
          label_at after x ∙ (ap (λ l. is_secret (Some l)) (get_or-set_other labels u.var x label.Secret label.Public apart)
          ∙ (sym (label_at labels x) ∙ (same x ∙ sym (list_any-append (λ (s : Step). nat_eq s.var x) steps (u ∷ [])
          ∙ (ap (λ b. is_found steps x || (b || false)) cold ∙ or-false (is_found steps x))))))
    ]

-- labels of all variables, secret where a step found the variable
pub labels_are : (program : Program) (steps : List Step) (labels : List Label) → AreSecrets program steps → length labels ≡ variables program
    → ((x : ℕ) → labelling_of labels x ≡ is_found steps x) → IsLeastLabelling program labels
labels_are program steps labels secrets places same = record {
  places = places;
  labelled = record {
    assigns = record {
      declared = λ x origin h. same x ∙ secrets.labelled.assigns.declared x origin h;
      loads = λ s m x h w. same x ∙ secrets.labelled.assigns.loads s m x h w;
      moves = λ s x y r w t. same y ∙ secrets.labelled.assigns.moves s x y r w (sym (same x) ∙ t);
    };
    sinks = λ position x h. ap not (same x) ∙ secrets.labelled.sinks position x h;
    stores = λ position x h. ap not (same x) ∙ secrets.labelled.stores position x h;
    demanded = λ x d. ap not (same x) ∙ secrets.labelled.demanded x d;
  };
  least = λ x. ((λ h. (secrets.least x).0 (sym (same x) ∙ h)), (λ h. same x ∙ (secrets.least x).1 h));
}

use Rattle.std.proofs.Common.{◌≡◌, ℕ, ◌⊎◌, inl, inr, List, [], ◌∷◌, ◌++◌, refl, sym, ap, ◌∙◌, append-nil}
use Rattle.std.proofs.lemmas.Slice.Zip.{either_empty_from_Zip}
use Rattle.bl_base.specs.declared.names.ValueType.{ValueType}
use Rattle.bl_outcome.specs.Outcomes.{values_text}
use Rattle.bl_outcome.specs.Lines.{line}
use Rattle.bl_outcome.proofs.outcome.returned_line.Goals as goal

-- where no type or no value is left, no result is
no_values : (kinds : List ValueType) (values : List ℕ) → (kinds ≡ []) ⊎ (values ≡ []) → values_text kinds values ≡ []
no_values [] values e = refl
no_values (kind ∷ kinds) [] e = refl
no_values (kind ∷ kinds) (value ∷ values) (inl e) = absurd cc
no_values (kind ∷ kinds) (value ∷ values) (inr e) = absurd cc

-- so the text is whole
whole : (text all : List ℕ) (kinds : List ValueType) (values : List ℕ) → (kinds ≡ []) ⊎ (values ≡ []) → text ++ values_text kinds values ≡ all → text ≡ all
whole text all kinds values none e = sym (append-nil text) ∙ (ap (λ rest. text ++ rest) (sym (no_values kinds values none)) ∙ e)

pub returns : goal.returns
returns c = c.in_ok-push.ensures.items ∙ ap line
    (whole _ _ _ _ (either_empty_from_Zip c.loop-kind.kind-iterator c.next.new.self c.next.result c.in-None.is c.next.ensures.steps) c.loop-kind.invariant.rest)

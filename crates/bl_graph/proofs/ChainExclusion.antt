-- Secret variables are secret in each labelling, so that a chain leaves none that keeps the rules.
use Rattle.std.proofs.Common.{ℕ, Bool, List, [], ◌∷◌, inl, inr}
use Rattle.std.specs.Prelude.{IsTrue}
use Rattle.bl_base.proofs.BoolLemmas.{never_both}
use Rattle.bl_program.specs.declared.definitions.ProgramParts.{ProgramParts as Program}
use Rattle.bl_graph.specs.declared.secret.Origin.{Origin}
use Rattle.bl_graph.specs.declared.secret.Origin.TheVariants.{Parameter, Global, Memory}
use Rattle.bl_graph.specs.Labels.{AssignsLabels, KeepsLabelRules, Secret, declared, loaded, moved}
use Rattle.bl_graph.specs.SecretChains.{Ends, sunk, stored, given, LeadsToEnd, IsChainFrom}

pub least : (program : Program) (labelling : ℕ → Bool) (x : ℕ) → AssignsLabels program labelling → Secret program x → IsTrue (labelling x)
least program labelling x assigns (declared _ origin h) = assigns.declared x origin h
least program labelling x assigns (loaded s memory _ h w) = assigns.loads s memory x h w
least program labelling x assigns (moved s y _ r w t) = assigns.moves s y x r w (least program labelling y assigns t)

module _ (program : Program) (labelling : ℕ → Bool) (labelled : KeepsLabelRules program labelling) where
  ends_not : (x end : ℕ) → Ends program x end → IsTrue (labelling x) → ⊥
  ends_not x end (sunk h) t = never_both (labelling x) t (labelled.sinks end x h)
  ends_not x end (stored h) t = never_both (labelling x) t (labelled.stores end x h)
  ends_not x end (given y r w d) t = never_both (labelling y) (labelled.assigns.moves end x y r w t) (labelled.demanded y d)

  leads_not : (x : ℕ) (through : List ℕ) (end : ℕ) → LeadsToEnd program x through end → IsTrue (labelling x) → ⊥
  leads_not x [] end h t = ends_not x end h t
  leads_not x (s ∷ rest) end h t = leads_not h.1.0 rest end h.1.2 (labelled.assigns.moves s x h.1.0 h.0 h.1.1 t)

  pub chain_not : (origin : Origin) (through : List ℕ) (end : ℕ) → IsChainFrom program origin through end → ⊥
  chain_not (Parameter f i) through end h = leads_not h.0 through end h.2 (labelled.assigns.declared h.0 (Parameter f i) h.1)
  chain_not (Global i) through end h = leads_not h.0 through end h.2 (labelled.assigns.declared h.0 (Global i) h.1)
  chain_not (Memory m) [] end h = h
  chain_not (Memory m) (s ∷ rest) end h =
      let t : IsTrue (labelling h.1.0) = labelled.assigns.loads s m h.1.0 h.0 h.1.1 in
      elim h.1.2 as (λ _. ⊥) [
        | inl leads ↦ leads_not h.1.0 rest end leads t
        | inr alone ↦ never_both (labelling h.1.0) t (labelled.demanded h.1.0 alone.2)
      ]

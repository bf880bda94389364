-- Chains read back through a queue.
use Rattle.std.proofs.Common.{◌≡◌, ℕ, ◌<◌, Bool, true, false, List, [], ◌∷◌, ◌++◌, sym, ap, subst, ◌∙◌, inl, inr, map, reverse}
use Rattle.std.proofs.lemmas.Bool.{false≢true}
use Rattle.std.proofs.lemmas.List.{reverse-append}
use Rattle.bl_base.specs.declared.number.Pos.{Pos}
use Rattle.bl_program.specs.declared.definitions.ProgramParts.{ProgramParts as Program}
use Rattle.bl_graph.specs.Secrets.{Declares}
use Rattle.bl_graph.specs.SecretChains.{LeadsToEnd, LeadsLoaded, IsChainFrom}
use Rattle.bl_graph.specs.declared.secret.Origin.{Origin}
use Rattle.bl_graph.specs.declared.secret.Origin.TheVariants.{Parameter, Global, Memory}
use Rattle.bl_ct.specs.declared.search.Step.{Step}
use Rattle.bl_ct.specs.declared.search.Cause.{Cause}
use Rattle.bl_ct.specs.declared.search.Cause.TheVariants.{Declared, Loaded, Moved}
use Rattle.bl_ct.specs.SecretSearch.{Has, IsJustifiedBy, AreJustified, LeadsOn}

abbrev loaded_at : Cause → ℕ
loaded_at (Loaded s m) = s
loaded_at (Declared o) = 0
loaded_at (Moved s b) = 0

abbrev is_loaded : Cause → Bool
is_loaded (Loaded s m) = true
is_loaded (Declared o) = false
is_loaded (Moved s b) = false

-- the sites from the last one found
abbrev pub back : List Pos → List ℕ
back sites = map (λ s. s.0) (reverse sites)

module _ (program : Program) (queue : List Step) (stands : AreJustified program queue) (place : ℕ) (step : Step) (has : Has queue place step)
    (sites : List Pos) (end : ℕ) (leads : LeadsOn program step (back sites) end) where
  -- where no load found it
  plain : is_loaded step.cause ≡ false → LeadsToEnd program step.var (back sites) end
  plain cold =
      elim leads as (λ _. LeadsToEnd program step.var (back sites) end) [
        | inl h ↦ h
        | inr alone ↦ absurd (false≢true (sym cold ∙ ap is_loaded alone.1.1))
      ]

  by_cause : (cause : Cause) → step.cause ≡ cause → IsJustifiedBy program queue place step.var cause
  by_cause cause e = subst (IsJustifiedBy program queue place step.var) e (stands place step has)

  turned : (s : ℕ) → back (sites ++ record { 0 = s } ∷ []) ≡ s ∷ back sites
  turned s = ap (map (λ (p : Pos). p.0)) (reverse-append sites (record { 0 = s } ∷ []))

  pub back_moved : (s before : ℕ) → step.cause ≡ Moved s before → (before < place) × ((former : Step) × Has queue before former × LeadsOn program former (back (sites ++ record { 0 = s } ∷ [])) end)
  back_moved s before e =
      let h = by_cause (Moved s before) e in
      (h.0, (h.1.0, h.1.1, inl (subst (λ l. LeadsToEnd program h.1.0.var l end) (sym (turned s)) (h.1.2, (step.var, h.1.3, plain (ap is_loaded e))))))

  pub back_loaded : (s m : ℕ) → step.cause ≡ Loaded s m → IsChainFrom program (Memory m) (back (sites ++ record { 0 = s } ∷ [])) end
  back_loaded s m e =
      let h = by_cause (Loaded s m) e in
      subst (λ l. IsChainFrom program (Memory m) l end) (sym (turned s)) (
        h.0,
        (
          step.var,
          h.1,
          elim leads as (λ _. LeadsLoaded program s step.var (back sites) end) [
            | inl on ↦ inl on
            | inr alone ↦ inr (alone.0, ap loaded_at (sym alone.1.1 ∙ e), alone.1.2)
          ],
        ),
      )

  by_origin : (origin : Origin) → Declares program step.var origin → LeadsToEnd program step.var (back sites) end → IsChainFrom program origin (back sites) end
  by_origin (Parameter f i) h on = (step.var, h, on)
  by_origin (Global i) h on = (step.var, h, on)
  by_origin (Memory m) h on = absurd h

  pub back_declared : (origin : Origin) → step.cause ≡ Declared origin → IsChainFrom program origin (back sites) end
  back_declared origin e = by_origin origin (by_cause (Declared origin) e) (plain (ap is_loaded e))

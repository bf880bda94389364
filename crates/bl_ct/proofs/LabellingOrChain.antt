-- A labelling, or a chain.
use Rattle.std.proofs.Common.{◌≡◌, ℕ, List, [], ◌∷◌, refl, sym, ap, subst, ◌⊎◌, inl, inr, not, map}
use Rattle.std.specs.Prelude.{IsTrue}
use Rattle.std.proofs.lemmas.Bool.{not_from_false, false_from_ne_true}
use Rattle.bl_base.specs.declared.number.Pos.{Pos}
use Rattle.bl_base.proofs.Decisions.{decided_below, decided_in}
use Rattle.bl_program.specs.Sites.{Among, SinkReads, sunk_by}
use Rattle.bl_program.specs.declared.definitions.ProgramParts.{ProgramParts as Program}
use Rattle.bl_graph.specs.Labels.{AssignsLabels, ConstantTime, Secret, declared, loaded, moved}
use Rattle.bl_graph.specs.Ranges.{commands}
use Rattle.bl_graph.specs.SecretChains.{sunk, stored, given, LeadsToEnd, IsSecretChain}
use Rattle.bl_graph.specs.Secrets.{Declares, Demands, GivesPublic, Stores, demanded_by}
use Rattle.bl_graph.specs.declared.secret.Origin.{Origin}
use Rattle.bl_graph.specs.declared.secret.Origin.TheVariants.{Parameter, Global, Memory}
use Rattle.bl_graph.specs.declared.secret.SecretChain.{SecretChain}
use Rattle.bl_graph.proofs.CommandLists.{decided_sink, stands_below}
use Rattle.bl_ct.specs.Facts.{AreSecretsInRange}
use Rattle.bl_ct.proofs.DeclaredLists.{demand_stands}
use Rattle.bl_ct.proofs.SecretTest.{decided_secret, decided_store, is_tested, labelling}

abbrev place : ℕ → Pos
place s = record { 0 = s }

placed : (sites : List ℕ) → map (λ (s : Pos). s.0) (map place sites) ≡ sites
placed [] = refl
placed (s ∷ sites) = ap (λ l. s ∷ l) (placed sites)

-- the test keeps the rules on what is secret
pub assigns : (program : Program) → AssignsLabels program (labelling program)
assigns program = record {
  declared = λ x origin h. (is_tested program x).1 (declared x origin h);
  loads = λ s m x h w. (is_tested program x).1 (loaded s m x h w);
  moves = λ s x y r w t. (is_tested program y).1 (moved s x y r w ((is_tested program x).0 t));
}

abbrev SomeChain : Program → Type 0
SomeChain program = (chain : SecretChain) × IsSecretChain program chain

module _ (program : Program) (range : AreSecretsInRange program) where
  from_origin : (x : ℕ) (origin : Origin) → Declares program x origin → (rest : List ℕ) (end : ℕ) → LeadsToEnd program x rest end → SomeChain program
  from_origin x (Parameter f i) h rest end on = (record { origin = Parameter f i; through = map place rest; end = place end }, (x, h, subst (λ l. LeadsToEnd program x l end) (sym (placed rest)) on))
  from_origin x (Global i) h rest end on = (record { origin = Global i; through = map place rest; end = place end }, (x, h, subst (λ l. LeadsToEnd program x l end) (sym (placed rest)) on))
  from_origin x (Memory m) h rest end on = absurd h

  -- whatever leads a secret variable to an end makes a chain
  way : (x : ℕ) → Secret program x → (rest : List ℕ) (end : ℕ) → LeadsToEnd program x rest end → SomeChain program
  way x (declared _ origin h) rest end on = from_origin x origin h rest end on
  way x (loaded s m _ h w) rest end on = (record { origin = Memory m; through = map place (s ∷ rest); end = place end }, (h, (x, w, inl (subst (λ l. LeadsToEnd program x l end) (sym (placed rest)) on))))
  way x (moved s y _ r w t) rest end on = way y t (s ∷ rest) end (r, (x, w, on))

  demanded_way : (x : ℕ) → Secret program x → Demands program x → SomeChain program
  demanded_way x (declared _ origin h) d = absurd (range.apart x origin h d)
  demanded_way x (loaded s m _ h w) d = (record { origin = Memory m; through = place s ∷ []; end = place s }, (h, (x, w, inr (refl, refl, d))))
  demanded_way x (moved s y _ r w t) d = way y t [] s (given x r w d)

  public : (x : ℕ) → (Secret program x → ⊥) → IsTrue (not (labelling program x))
  public x none = not_from_false (labelling program x) (false_from_ne_true (labelling program x) (λ h. none ((is_tested program x).0 h)))

  pub labelling_or_chain : ConstantTime program ⊎ SomeChain program
  labelling_or_chain =
      elim (decided_below (commands program) (λ s. (x : ℕ) × SinkReads program s x × Secret program x) (λ s. decided_sink program s (Secret program) (decided_secret program)))
      as (λ _. ConstantTime program ⊎ SomeChain program) [
        | inl leak ↦ inr (way leak.2.0 leak.2.2 [] leak.0 (sunk leak.2.1))
        | inr sinks ↦
            elim (decided_below (commands program) (λ s. (x : ℕ) × Stores program s x × Secret program x) (decided_store program (Secret program) (decided_secret program)))
            as (λ _. ConstantTime program ⊎ SomeChain program) [
              | inl leak ↦ inr (way leak.2.0 leak.2.2 [] leak.0 (stored leak.2.1))
              | inr stores ↦
                  elim (decided_in (Secret program) (decided_secret program) (map (demanded_by program) program.demands)) as (λ _. ConstantTime program ⊎ SomeChain program) [
                    | inl leak ↦ inr (demanded_way leak.0 leak.2 ((demand_stands program leak.0).0 leak.1))
                    | inr demanded ↦ inl (
                      labelling program,
                      record {
                        assigns = assigns program;
                        sinks = λ s x h. public x (λ t. sinks (s, stands_below program s (λ command. Among (sunk_by command) x) h, (x, h, t)));
                        stores = λ s x h. public x (λ t. stores (s, stands_below program s (λ command. GivesPublic program command x) h, (x, h, t)));
                        demanded = λ x d. public x (λ t. demanded (x, (demand_stands program x).1 d, t));
                      },
                    )
                  ]
            ]
      ]

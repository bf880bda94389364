-- The verdict on constant time.
use Rattle.std.specs.Prelude.{◌≡◌, ◌<◌, ◌↔◌, ℕ, All, Bool, true, false, IsTrue, List, length, Option, Some, None, slice_get}
use Rattle.bl_base.specs.declared.names.Label.{Label}
use Rattle.bl_base.specs.declared.names.Label.TheVariants as label
use Rattle.bl_program.specs.declared.definitions.ProgramParts.{ProgramParts as Program}
use Rattle.bl_graph.specs.Labels.{KeepsLabelRules, ConstantTime, Secret}
use Rattle.bl_graph.specs.Ranges.{variables}
use Rattle.bl_graph.specs.SecretChains.{IsSecretChain}
use Rattle.bl_graph.specs.declared.secret.SecretChain.{SecretChain}
use Rattle.bl_ct.specs.SecretSearch.{is_found}
use Rattle.bl_ct.specs.declared.search.Step.{Step}
use Rattle.bl_ct.specs.declared.verdict.CtVerdict.{CtVerdict}
use Rattle.bl_ct.specs.declared.verdict.CtVerdict.TheVariants.{Yes, No}
use Rattle.bl_ct.specs.declared.verdict.Judged.{Judged}
use Rattle.bl_ct.specs.declared.verdict.Judged.TheVariants.{Keeps, Leads}

-- the variable is secret
abbrev pub is_secret : Option Label → Bool
is_secret (Some label.Secret) = true
is_secret (Some label.Public) = false
is_secret None = false

-- the variables that are secret by a list of labels
abbrev pub labelling_of : List Label → ℕ → Bool
labelling_of labels x = is_secret (slice_get labels x)

-- the least labelling: it keeps all rules, and has exactly the variables that are secret in each one that does
pub record IsLeastLabelling (program : Program) (labels : List Label) : Type 0 where
  pub places : length labels ≡ variables program
  pub labelled : KeepsLabelRules program (labelling_of labels)
  pub least : (x : ℕ) → IsTrue (labelling_of labels x) ↔ Secret program x

-- the least labelling, or a secret chain where there is none
abbrev pub Judges : Program → CtVerdict → Type 0
Judges program (Yes labels) = IsLeastLabelling program labels
Judges program (No chain) = IsSecretChain program chain × (ConstantTime program → ⊥)

-- the secret chain of a verdict, if there is one
abbrev pub chain_in : CtVerdict → Option SecretChain
chain_in (Yes labels) = None
chain_in (No chain) = Some chain

-- a secret chain, or none where the program is constant time
abbrev pub FindsChain : Program → Option SecretChain → Type 0
FindsChain program (Some chain) = IsSecretChain program chain × (ConstantTime program → ⊥)
FindsChain program None = ConstantTime program

-- the variables of the steps, as the secret ones, keep all rules, and they are exactly the secret variables
pub record AreSecrets (program : Program) (steps : List Step) : Type 0 where
  pub small : All (λ step. step.var < variables program) steps
  pub labelled : KeepsLabelRules program (is_found steps)
  pub least : (x : ℕ) → IsTrue (is_found steps x) ↔ Secret program x

-- such steps, or a secret chain where there are none
abbrev pub FindsSecrets : Program → Judged → Type 0
FindsSecrets program (Keeps steps) = AreSecrets program steps.items
FindsSecrets program (Leads chain) = IsSecretChain program chain × (ConstantTime program → ⊥)

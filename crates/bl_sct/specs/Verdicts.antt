-- The verdict on a program: whether two runs from starts that agree in public are observed alike.
use Rattle.std.specs.Prelude.{ℕ}
use Rattle.bl_program.specs.Sites.{is_protected}
use Rattle.bl_program.specs.declared.definitions.ProgramParts.{ProgramParts as Program}
use Rattle.bl_graph.specs.Labels.{ConstantTime}
use Rattle.bl_graph.specs.SecretChains.{IsSecretChain}
use Rattle.bl_rob.specs.Observations.{HasEqualObservations}
use Rattle.bl_sct.specs.declared.verdict.Verdict.{Verdict}
use Rattle.bl_sct.specs.declared.verdict.Verdict.TheVariants.{Safe, NotConstantTime, NotStable}
use Rattle.bl_transient.specs.Transient.{Passes}
use Rattle.bl_transient.specs.Verdicts.{IsFirstSink}

-- the program's own marks pass the transient rules
abbrev pub IsStable : Program → Type 0
IsStable program = Passes program (is_protected program)

-- some labelling keeps the label rules, but the program's own marks don't pass; the position is the least one of a sink that
-- reads a transient variable
pub record IsUnstable (program : Program) (position : ℕ) : Type 0 where
  pub constant_time : ConstantTime program
  pub passes_not : IsStable program → ⊥
  pub first : IsFirstSink program (is_protected program) position

-- no labelling keeps the label rules, by a secret chain; or one does, but the marks don't pass; or both, and then runs are
-- observed alike
abbrev pub Assesses : Program → Verdict → Type 0
Assesses program Safe = ConstantTime program × IsStable program × HasEqualObservations program
Assesses program (NotConstantTime chain) = IsSecretChain program chain × (ConstantTime program → ⊥)
Assesses program (NotStable position) = IsUnstable program position.0

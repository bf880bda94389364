-- The verdict on a program: whether two runs from starts that agree in public are observed alike where stores are forwarded.
use Rattle.bl_program.specs.declared.definitions.ProgramParts.{ProgramParts as Program}
use Rattle.bl_graph.specs.Labels.{ConstantTime}
use Rattle.bl_graph.specs.SecretChains.{IsSecretChain}
use Rattle.bl_sct.specs.Verdicts.{IsStable, IsUnstable}
use Rattle.bl_forward.specs.ForwardMachines.{HasEqualForwarding}
use Rattle.bl_sct.specs.declared.verdict.Verdict.{Verdict}
use Rattle.bl_sct.specs.declared.verdict.Verdict.TheVariants.{Safe, NotConstantTime, NotStable}

-- by the causes of `assess`; where it is safe, runs are observed alike
abbrev pub AssessesForward : Program → Verdict → Type 0
AssessesForward program Safe = ConstantTime program × IsStable program × HasEqualForwarding program
AssessesForward program (NotConstantTime chain) = IsSecretChain program chain × (ConstantTime program → ⊥)
AssessesForward program (NotStable position) = IsUnstable program position.0

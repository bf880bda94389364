-- Programs with the least protects: what hardening makes of a program, and what that says.
use Rattle.std.specs.Prelude.{◌≡◌, ◌↔◌, ℕ, Bool, IsTrue, List}
use Rattle.bl_program.specs.Rules.{IsWellFormed}
use Rattle.bl_program.specs.Sites.{is_protected}
use Rattle.bl_program.specs.declared.definitions.ProgramParts.{ProgramParts as Program}
use Rattle.bl_format.specs.Image.{Image}
use Rattle.bl_graph.specs.Certificates.{Certifies}
use Rattle.bl_graph.specs.declared.certificate.Certificate.{Certificate}
use Rattle.bl_transient.specs.Transient.{Passes}
use Rattle.bl_cut.specs.Least.{Least}
use Rattle.bl_cut.specs.Marks.{protected}
use Rattle.bl_witness.specs.Verdicts.{AreLightest}
use Rattle.bl_ct.specs.Verdicts.{Judges}
use Rattle.bl_ct.specs.declared.verdict.CtVerdict.{CtVerdict}
use Rattle.bl_ct.specs.declared.verdict.CtVerdict.TheVariants.{Yes, No}
use Rattle.bl_graph.specs.Labels.{ConstantTime}
use Rattle.bl_graph.specs.SecretChains.{IsSecretChain}
use Rattle.bl_graph.specs.declared.secret.SecretChain.{SecretChain}
use Rattle.bl_rob.specs.Observations.{HasEqualObservations}
use Rattle.bl_sct.specs.OtherSecrets.{HidesGlobals}
use Rattle.bl_report.specs.Reports.{HasReason}
use Rattle.bl_build.specs.BuildStages.{Built, compiling}
use Rattle.bl_build.specs.LoadStages.{Part}
use Rattle.bl_job.specs.Stages.{Stage}

-- a program with protects, a certificate, whether it is constant-time, and the program's image
pub record Hardened : Type 0 where
  pub program : Program
  pub certificate : Certificate
  pub verdict : CtVerdict
  pub image : List ℕ

-- the program is another one with exactly the least choice of protects; the certificate shows that no choice of less weight passes;
-- the verdict is that of the label rules, and the image is the program's. There is one such program; there may be several such
-- certificates, and several secret chains
pub record IsHardened (bare : Program) (hardened : Hardened) : Type 0 where
  pub set : ℕ → Bool
  pub least : Least bare set
  pub is_program : hardened.program ≡ protected set bare
  pub certified : Certifies hardened.program hardened.certificate
  pub judged : Judges hardened.program hardened.verdict
  pub image : Image hardened.program hardened.image

-- hardening the program of modules, whose image has few enough bytes; what is refused of compiling them is refused, and no more
abbrev pub hardening : Stage (List Part) Hardened
hardening = record {
  Passes = λ parts hardened. (built : Built) × compiling.Passes parts built × IsHardened built.program hardened;
  Refuses = compiling.Refuses;
}

-- a protected program's protects pass, no set of sites of less weight does, and each one has a reason. The program is well-formed and its certificate
-- keeps its rules, and any certificate that does tells alone that no passing set weighs less; it doesn't tell that these protects pass
pub record AreLeast (hardened : Hardened) : Type 0 where
  pub passes : Passes hardened.program (is_protected hardened.program)
  pub lightest : AreLightest hardened.program
  pub reasons : (s : ℕ) → IsTrue (is_protected hardened.program s) → HasReason hardened.program hardened.certificate s
  pub well_formed : IsWellFormed hardened.program
  pub certified : Certifies hardened.program hardened.certificate
  pub alone : (certificate : Certificate) → Certifies hardened.program certificate → AreLightest hardened.program

-- the verdict says that the program is constant-time
abbrev pub IsYes : CtVerdict → Type 0
IsYes (Yes labels) = Unit {0}
IsYes (No chain) = ⊥

-- the verdict says that a program is constant-time exactly where some labelling keeps the label rules; else it has a secret chain.
-- Where it says so, an observer of the buffer machine can't tell two runs apart whose starts agree in public, whatever the directives
-- and the size of the buffer; nor where the one run is of the same program with other first values of its secret globals
pub record IsJudged (hardened : Hardened) : Type 0 where
  pub exact : IsYes hardened.verdict ↔ ConstantTime hardened.program
  pub chain : (chain : SecretChain) → hardened.verdict ≡ No chain → IsSecretChain hardened.program chain
  pub equal : IsYes hardened.verdict → HasEqualObservations hardened.program
  pub hides : IsYes hardened.verdict → HidesGlobals hardened.program

-- From the bytes of an image to its program, with the certificate that the bytes of another file are; what verdicts on them say.
use Rattle.std.specs.Prelude.{◌≡◌, ℕ, List, [], ◌∷◌, codes, Ok, Err}
use Rattle.bl_program.specs.declared.definitions.ProgramParts.{ProgramParts as Program}
use Rattle.bl_graph.specs.declared.certificate.Certificate.{Certificate}
use Rattle.bl_transient.specs.declared.transient.FlowVerdict.{FlowVerdict}
use Rattle.bl_transient.specs.declared.transient.FlowVerdict.TheVariants as flow
use Rattle.bl_witness.specs.Shapes.{ReadsCertificate}
use Rattle.bl_witness.specs.declared.verdict.CertVerdict.{CertVerdict}
use Rattle.bl_witness.specs.declared.verdict.CertVerdict.TheVariants as rules
use Rattle.bl_witness.specs.declared.error.CertError.TheVariants.{NotJson, Shape}
use Rattle.bl_build.specs.EntryStages.{imaging}
use Rattle.bl_job.specs.Refusals.{Refusal, refusal_of}
use Rattle.bl_job.specs.declared.status.Reason.TheVariants as why
use Rattle.bl_job.specs.Stages.{Stage, chain}

-- a program, and a certificate that is given for it
pub record Certified : Type 0 where
  pub program : Program
  pub certificate : Certificate

-- the bytes are the text of that certificate
pub record IsRead (bytes : List ℕ) (program : Program) (certified : Certified) : Type 0 where
  pub same_program : certified.program ≡ program
  pub read : ReadsCertificate bytes (Ok certified.certificate)

-- the bytes of a certificate are no JSON value
abbrev pub not_json : Refusal
not_json = refusal_of why.Certificate (codes "certificate: not JSON" ∷ [])

-- they are one that is no certificate
abbrev pub other_shape : Refusal
other_shape = refusal_of why.Certificate (codes "certificate: shape" ∷ [])

pub data ReadingRefuses (bytes : List ℕ) (refusal : Refusal) : Type 0 where
  -- they are the text of no JSON value
  is_not_json : ReadsCertificate bytes (Err NotJson) → refusal ≡ not_json → ReadingRefuses bytes refusal
  -- they are that of a value that is no certificate
  is_other_shape : ReadsCertificate bytes (Err Shape) → refusal ≡ other_shape → ReadingRefuses bytes refusal

abbrev pub certifying : List ℕ → Stage Program Certified
certifying bytes = record { Passes = IsRead bytes; Refuses = λ program. ReadingRefuses bytes }

-- from the bytes of an image to its program, with the certificate that the bytes of another file are
abbrev pub verifying : List ℕ → Stage (List ℕ) Certified
verifying certificate = chain imaging (certifying certificate)

-- ---- verdicts

-- the verdict by the rules of certificates says that they are kept
abbrev pub Certain : CertVerdict → Type 0
Certain rules.Yes = Unit {0}
Certain (rules.No rule index) = ⊥

-- the verdict by the transient rules says that they are kept
abbrev pub Stable : FlowVerdict → Type 0
Stable (flow.Yes typing) = Unit {0}
Stable (flow.No position) = ⊥

-- The files of a hardened program: its image and the text of its certificate pass the stages of `verify`, and verdicts on them say yes.
use Rattle.std.proofs.Common.{◌≡◌, None, refl}
use Rattle.bl_program.specs.Programs.{IsProgram}
use Rattle.bl_program.specs.Rules.{IsWellFormed}
use Rattle.bl_program.specs.Sites.{is_protected}
use Rattle.bl_program.specs.declared.definitions.ProgramParts.{ProgramParts as Program}
use Rattle.bl_report.specs.Verdicts.{leak_in}
use Rattle.bl_transient.specs.Verdicts.{Judges}
use Rattle.bl_transient.specs.declared.transient.FlowVerdict.{FlowVerdict}
use Rattle.bl_transient.specs.declared.transient.FlowVerdict.TheVariants as flow
use Rattle.bl_witness.proofs.RoundTrip.{kept_reads_back}
use Rattle.bl_witness.specs.Texts.{certificate_text}
use Rattle.bl_witness.specs.Verdicts.{Checks}
use Rattle.bl_witness.specs.declared.verdict.CertVerdict.{CertVerdict}
use Rattle.bl_witness.specs.declared.verdict.CertVerdict.TheVariants as rules
use Rattle.bl_build.specs.CertificateStages.{Certified, verifying}
use Rattle.bl_build.specs.HardenStage.{Hardened, IsHardened}
use Rattle.bl_build.proofs.LeastLemmas.{are_least, ranges_are, well_formed}
use Rattle.bl_build.proofs.CertificateVerdicts.{stable_back}
use Rattle.bl_build.proofs.OneVerdict.{one_rules}

module _ (bare : Program) (facts : IsProgram bare) (wells : IsWellFormed bare) (hardened : Hardened) (is : IsHardened bare hardened) where
  -- the program and the certificate that are read
  abbrev pub certified : Certified
  certified = record { program = hardened.program; certificate = hardened.certificate }

  pub files_pass : (verifying (certificate_text hardened.certificate)).Passes hardened.image certified
  files_pass = (
    hardened.program,
    record { image = is.image; rules = well_formed bare facts wells hardened is },
    record { same_program = refl; read = kept_reads_back hardened.program (ranges_are bare facts wells hardened is) hardened.certificate is.certified },
  )

  pub certificate_yes : (verdict : CertVerdict) → Checks hardened.program hardened.certificate verdict → verdict ≡ rules.Yes
  certificate_yes verdict checked = one_rules hardened.program hardened.certificate verdict rules.Yes checked is.certified

  pub no_leak : (verdict : FlowVerdict) → Judges hardened.program (is_protected hardened.program) verdict → leak_in verdict ≡ None
  no_leak (flow.Yes typing) judged = refl
  no_leak (flow.No position) judged = absurd (stable_back hardened.program (flow.No position) judged (are_least bare facts wells hardened is).passes)

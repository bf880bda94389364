-- What verdicts on a program and a certificate say.
use Rattle.std.proofs.Common.{◌↔◌, ◌≡◌, refl}
use Rattle.bl_base.proofs.BoolLemmas.{never_both}
use Rattle.bl_program.specs.Programs.{IsProgram}
use Rattle.bl_program.specs.Rules.{IsWellFormed}
use Rattle.bl_program.specs.Sites.{is_protected}
use Rattle.bl_program.specs.declared.definitions.ProgramParts.{ProgramParts as Program}
use Rattle.bl_graph.specs.Certificates.{Certifies}
use Rattle.bl_graph.specs.declared.certificate.Certificate.{Certificate}
use Rattle.bl_graph.proofs.ChainLemmas.{none_lighter}
use Rattle.bl_graph.proofs.RangeLemmas.{in_range}
use Rattle.bl_ct.specs.Verdicts.{Judges as JudgesLabels}
use Rattle.bl_ct.specs.declared.verdict.CtVerdict.{CtVerdict}
use Rattle.bl_sct.specs.Verdicts.{Assesses, IsStable}
use Rattle.bl_sct.specs.declared.verdict.Verdict.{Verdict}
use Rattle.bl_sct.specs.declared.verdict.Verdict.TheVariants as assess
use Rattle.bl_sct.proofs.AssessLemmas.{transient}
use Rattle.bl_transient.proofs.ChainsMet.{chain_met}
use Rattle.bl_transient.specs.Verdicts.{Judges, typing_of}
use Rattle.bl_transient.specs.declared.transient.FlowVerdict.{FlowVerdict}
use Rattle.bl_transient.specs.declared.transient.FlowVerdict.TheVariants as flow
use Rattle.bl_witness.specs.Verdicts.{AreLightest, Checks}
use Rattle.bl_witness.specs.declared.verdict.CertVerdict.{CertVerdict}
use Rattle.bl_witness.specs.declared.verdict.CertVerdict.TheVariants as rules
use Rattle.bl_witness.proofs.CertificateVerdicts.{broken}
use Rattle.bl_build.specs.CertificateStages.{Certain, Stable}
use Rattle.bl_build.specs.HardenStage.{IsYes}
use Rattle.bl_build.proofs.ProgramVerdicts.{labelled_yes, yes_labelled}

-- a program is stable exactly where the verdict says so
module _ (program : Program) where
  pub stable_in : (verdict : FlowVerdict) → Judges program (is_protected program) verdict → Stable verdict → IsStable program
  stable_in (flow.Yes typing) h says = (typing_of typing, h.flows_hold)
  stable_in (flow.No position) h says = absurd says

  pub stable_back : (verdict : FlowVerdict) → Judges program (is_protected program) verdict → IsStable program → Stable verdict
  stable_back (flow.Yes typing) h p = tt
  stable_back (flow.No position) h p =
      absurd (never_both (p.0 h.var) (transient program (is_protected program) p.0 p.1.assigns h.var h.transient) (p.1.sinks position.0 h.var h.sink))

  -- a certificate keeps its rules exactly where the verdict says so
  module _ (certificate : Certificate) where
    pub certain_in : (verdict : CertVerdict) → Checks program certificate verdict → Certain verdict → Certifies program certificate
    certain_in rules.Yes h says = h
    certain_in (rules.No rule index) h says = absurd says

    pub certain_back : (verdict : CertVerdict) → Checks program certificate verdict → Certifies program certificate → Certain verdict
    certain_back rules.Yes h is = tt
    certain_back (rules.No rule index) h is = absurd (broken program certificate rule index h is)

  pub none_is_lighter : (certificate : Certificate) → IsProgram program → IsWellFormed program → Certifies program certificate → AreLightest program
  none_is_lighter certificate facts rules is = record {
    lightest = λ other sites p. none_lighter program (in_range program facts rules) (is_protected program) certificate is other sites (chain_met program other p);
  }

-- a program is assessed to be safe exactly where both verdicts on it say yes
pub assessed_so : (program : Program) (f : FlowVerdict) (v : CtVerdict) → Judges program (is_protected program) f → JudgesLabels program v
    → (verdict : Verdict) → Assesses program verdict → verdict ≡ assess.Safe ↔ Stable f × IsYes v
assessed_so program f v flows labels assess.Safe a = (λ e. (stable_back program f flows a.1, labelled_yes program v labels a.0), λ both. refl)
assessed_so program f v flows labels (assess.NotConstantTime chain) a =
    (λ e. absurd cc, λ both. absurd (a.1 (yes_labelled program v labels both.1)))
assessed_so program f v flows labels (assess.NotStable position) a = (λ e. absurd cc, λ both. absurd (a.passes_not (stable_in program f flows both.0)))

-- The job of `verify` keeps the laws; what is said where it is done.
use Rattle.std.proofs.Common.{◌≡◌, ℕ, List, inr, refl, ap, sym, ◌∙◌, subst, arith}
use Rattle.bl_program.specs.Programs.{IsProgram}
use Rattle.bl_program.specs.Rules.{IsWellFormed}
use Rattle.bl_program.specs.Sites.{is_protected}
use Rattle.bl_program.specs.declared.definitions.ProgramParts.{ProgramParts as Program}
use Rattle.bl_graph.proofs.RangeLemmas.{in_range}
use Rattle.bl_ct.specs.Verdicts.{FindsChain}
use Rattle.bl_report.specs.Verdicts.{verdicts_of}
use Rattle.bl_sct.proofs.OtherSecrets.{hides}
use Rattle.bl_sct.proofs.EqualObservations.{equal}
use Rattle.bl_transient.specs.Verdicts.{IsFirstLeak}
use Rattle.bl_transient.specs.declared.transient.FlowVerdict.{FlowVerdict}
use Rattle.bl_transient.specs.declared.transient.FlowVerdict.TheVariants as flow
use Rattle.bl_witness.specs.Verdicts.{Checks}
use Rattle.bl_witness.specs.declared.verdict.CertVerdict.{CertVerdict}
use Rattle.bl_witness.specs.declared.verdict.CertVerdict.TheVariants as rules
use Rattle.bl_words.specs.Requests.{VerifyRequest}
use Rattle.bl_job.specs.Jobs.{Plan, saying}
use Rattle.bl_job.specs.Status.{kind_of, of_deed}
use Rattle.bl_app.specs.VerifyJob.{AreVerdicts, Say, Shows, Verdicts, VerifyDoes, VerifyPlans, found_plan, found_status, verify_reading, verify_staged, verify_status}
use Rattle.bl_app.specs.declared.verify.Found.{Found}
use Rattle.bl_build.specs.CertificateStages.{Certified, certifying, verifying}
use Rattle.bl_build.proofs.CertificateVerdicts.{assessed_so, certain_back, certain_in, none_is_lighter, stable_back, stable_in}
use Rattle.bl_build.proofs.ProgramVerdicts.{labelled_yes, yes_labelled}
use Rattle.bl_job.proofs.StagedJobLemmas.{IsStagedCommand, read_result}
use Rattle.bl_build.proofs.CertificateLemmas.{certifying_lawful}
use Rattle.bl_build.proofs.EntryStageLemmas.{imaged_lawful}
use Rattle.bl_build.proofs.ImagesTotal.{certifying_total, imaged_total}
use Rattle.bl_job.specs.Stages.{IsLawfulStage}
use Rattle.bl_build.proofs.OneVerdict.{one_flow, one_rules}
use Rattle.bl_build.proofs.VerdictsTotal.{flow_verdict_of, label_verdict_of, some_check, some_flow_verdict, some_label_verdict}

-- ---- verdicts

deed_of_verify : (v : CertVerdict) (f : FlowVerdict) → kind_of (verify_status v f) ≡ of_deed
deed_of_verify rules.Yes (flow.Yes typing) = refl
deed_of_verify rules.Yes (flow.No position) = refl
deed_of_verify (rules.No rule index) f = refl

module _ (certified : Certified) where
  abbrev program : Program
  program = certified.program

  one_status_of : (v w : Verdicts) → AreVerdicts certified v → AreVerdicts certified w → verify_status v.rules v.flow ≡ verify_status w.rules w.flow
  one_status_of v w a b =
      λ i. verify_status (one_rules program certified.certificate v.rules w.rules a.rules b.rules i) (one_flow program (is_protected program) v.flow w.flow a.flow b.flow i)

  -- what the verdicts say
  they_say : (v : Verdicts) → IsProgram program → IsWellFormed program → AreVerdicts certified v → Say certified v
  they_say v facts rules a = record {
    certifies = (certain_in program certified.certificate v.rules a.rules, certain_back program certified.certificate v.rules a.rules);
    lightest = λ says. none_is_lighter program certified.certificate facts rules (certain_in program certified.certificate v.rules a.rules says);
    stable = (stable_in program v.flow a.flow, stable_back program v.flow a.flow);
    constant_time = (yes_labelled program v.labels a.labels, labelled_yes program v.labels a.labels);
    assessed = assessed_so program v.flow v.labels a.flow a.labels;
    safe = λ stable says. equal program facts rules (yes_labelled program v.labels a.labels says) (stable_in program v.flow a.flow stable);
    hides = λ stable says. hides program facts rules (yes_labelled program v.labels a.labels says) (stable_in program v.flow a.flow stable);
  }

-- ---- what is found

-- a first leak and a secret chain show verdicts
pub found_shows : (certified : Certified) (found : Found) → IsProgram certified.program → IsWellFormed certified.program → Checks certified.program certified.certificate found.rules
    → IsFirstLeak certified.program (is_protected certified.program) found.leak → FindsChain certified.program found.chain → Shows certified found
found_shows certified found facts rules checked first chain =
    let flow = flow_verdict_of certified.program (is_protected certified.program) (in_range certified.program facts rules) found.leak first in
    let labels = label_verdict_of certified.program facts rules found.chain chain in
    record {
      verdicts = record { rules = found.rules; flow = flow.0; labels = labels.0 };
      are_verdicts = record { rules = checked; flow = flow.1; labels = labels.1 };
      rules = refl;
      leak = flow.2;
      chain = labels.2;
    }

pub found_plans : (certified : Certified) (found : Found) (plan : Plan) → Shows certified found → plan ≡ found_plan found → VerifyPlans certified plan
found_plans certified found plan shows is = record {
  verdicts = shows.verdicts;
  are_verdicts = shows.are_verdicts;
  is_plan = is ∙ sym (λ i. saying (found_status (shows.rules i) (shows.leak i)) (verdicts_of (shows.rules i) (shows.leak i) (shows.chain i)));
}

-- ---- the command

-- the program is that of an image, and it is well-formed
module _ (image certificate : List ℕ) (c : Certified) (prepared : (verifying certificate).Passes image c) where
  facts_of : IsProgram c.program
  facts_of = subst IsProgram (sym prepared.2.same_program) prepared.1.image.is_program

  rules_of : IsWellFormed c.program
  rules_of = subst IsWellFormed (sym prepared.2.same_program) prepared.1.rules

  pub some_verdicts : ((plan : Plan) → VerifyPlans c plan → ⊥) → ⊥
  some_verdicts none =
      let range = in_range c.program facts_of rules_of in
      let labels = some_label_verdict c.program facts_of rules_of in
      some_check c.program c.certificate range (λ checked is_checked.
      some_flow_verdict c.program (is_protected c.program) range (λ flow is_flow.
      none _ (record {
        verdicts = record { rules = checked; flow = flow; labels = labels.0 };
        are_verdicts = record { rules = is_checked; flow = is_flow; labels = labels.1 };
        is_plan = refl;
      })))

one_verify_status : (certified : Certified) (p q : Plan) → VerifyPlans certified p → VerifyPlans certified q → p.status ≡ q.status
one_verify_status certified p q h k =
    ap (λ plan. plan.status) h.is_plan ∙ one_status_of certified h.verdicts k.verdicts h.are_verdicts k.are_verdicts ∙ sym (ap (λ plan. plan.status) k.is_plan)

pub verifying_lawful : (certificate : List ℕ) → IsLawfulStage (verifying certificate)
verifying_lawful certificate = imaged_lawful (certifying certificate) (certifying_lawful certificate)

pub verify_staged_is : (request : VerifyRequest) → IsStagedCommand (Unit {0}) (verify_staged request)
verify_staged_is request = record {
  small = (omega arith, (omega arith, tt));
  lawful = λ image certificate. verifying_lawful certificate;
  total = λ given image certificate. (imaged_total (certifying certificate) (certifying_total certificate)).always image tt;
  one_status = one_verify_status;
  status_of_deed = λ c plan h. ap (λ p. kind_of p.status) h.is_plan ∙ deed_of_verify h.verdicts.rules h.verdicts.flow;
  keeps_named = λ c plan h. inr (ap (λ p. p.keeps) h.is_plan);
  means = λ image certificate c prepared plan h verdicts are. they_say c verdicts (facts_of image certificate c prepared) (rules_of image certificate c prepared) are;
  planned = some_verdicts;
}

-- what is made of the same contents is one
pub one_certified : (contents : List (List ℕ)) (p q : Plan) → (h : VerifyDoes contents p) → (k : VerifyDoes contents q) → h.made ≡ k.made
one_certified contents p q h k = read_result verify_reading (λ image certificate. verifying_lawful certificate) contents h.made k.made h.passes k.passes

pub one_status : (contents : List (List ℕ)) (p q : Plan) → VerifyDoes contents p → VerifyDoes contents q → p.status ≡ q.status
one_status contents p q h k = one_verify_status k.made p q (subst (λ c. VerifyPlans c p) (one_certified contents p q h k) h.plans) k.plans

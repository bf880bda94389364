-- `verify` of the files that `harden` keeps.
use Rattle.std.proofs.Common.{◌≡◌, ℕ, List, [], ◌∷◌, ◌++◌, get_or, None, refl, ap, sym, ◌∙◌, subst, arith, flat_map}
use Rattle.bl_program.specs.Programs.{IsProgram}
use Rattle.bl_program.specs.Rules.{IsWellFormed}
use Rattle.bl_ct.specs.Verdicts.{chain_in}
use Rattle.bl_ct.specs.declared.verdict.CtVerdict.{CtVerdict}
use Rattle.bl_ct.specs.declared.verdict.CtVerdict.TheVariants as labels
use Rattle.bl_report.specs.Reports.{chain_line, counts_text, protect_text, protects}
use Rattle.bl_report.specs.Verdicts.{both_line, verdicts_of}
use Rattle.bl_witness.specs.Texts.{certificate_text}
use Rattle.bl_witness.specs.declared.verdict.CertVerdict.TheVariants as rules
use Rattle.bl_words.specs.Requests.{HardenRequest}
use Rattle.bl_job.specs.Jobs.{Plan, saying}
use Rattle.bl_job.specs.declared.status.Status.TheVariants.{Done}
use Rattle.bl_job.proofs.StagedJobLemmas.{read_result}
use Rattle.bl_build.specs.CertificateStages.{Certified, verifying}
use Rattle.bl_build.specs.HardenStage.{Hardened, IsYes}
use Rattle.bl_build.proofs.HardenedFiles.{certificate_yes, certified, files_pass, no_leak}
use Rattle.bl_build.proofs.OneVerdict.{one_yes}
use Rattle.bl_build.proofs.WeightLemmas.{are_well_formed}
use Rattle.bl_app.specs.HardenJob.{HardenDoes, HardenMeans, counts_in, harden_job}
use Rattle.bl_app.specs.VerifyJob.{AreVerdicts, IsConfirmed, IsVerified, VerifyDoes, found_status, verify_reading}
use Rattle.bl_app.proofs.HardenLemmas.{harden_means}
use Rattle.bl_app.proofs.VerifyLemmas.{some_verdicts, verifying_lawful}

-- all lines say yes exactly where the label rules do
no_chain : (verdict : CtVerdict) → IsYes verdict → chain_in verdict ≡ None
no_chain (labels.Yes found) says = refl
no_chain (labels.No chain) says = absurd says

yes_by_text : (verdict : CtVerdict) → verdicts_of rules.Yes None (chain_in verdict) ≡ verdicts_of rules.Yes None None → IsYes verdict
yes_by_text (labels.Yes found) e = tt
yes_by_text (labels.No chain) e = let letter : 110 ≡ 121 = ap (λ text. get_or text 41 0) e in absurd (omega (arith, letter))

module _ (request : HardenRequest) (contents : List (List ℕ)) (told : Plan) (h : HardenDoes request contents told) where
  abbrev hardened : Hardened
  hardened = h.plans.hardened

  abbrev files : List (List ℕ)
  files = hardened.image ∷ certificate_text hardened.certificate ∷ []

  means : HardenMeans request contents h.made told
  means = harden_means request contents h.made h.passes told

  facts : IsProgram h.made.program
  facts = means.compiled.image.is_program

  wells : IsWellFormed h.made.program
  wells = are_well_formed request.modules contents (counts_in request contents) h.made means.compiled

  -- what is read of both files
  abbrev read : Certified
  read = certified h.made.program facts wells hardened h.plans.is_hardened

  passes : (verifying (certificate_text hardened.certificate)).Passes hardened.image read
  passes = files_pass h.made.program facts wells hardened h.plans.is_hardened

  module _ (plan : Plan) (k : VerifyDoes files plan) where
    are : AreVerdicts read k.plans.verdicts
    are =
        subst (λ c. AreVerdicts c k.plans.verdicts)
        (read_result verify_reading (λ image certificate. verifying_lawful certificate) files k.made read k.passes passes) k.plans.are_verdicts

    is_plan : plan ≡ saying Done (verdicts_of rules.Yes None (chain_in k.plans.verdicts.labels))
    is_plan =
        let yes = certificate_yes h.made.program facts wells hardened h.plans.is_hardened k.plans.verdicts.rules are.rules in
        let none = no_leak h.made.program facts wells hardened h.plans.is_hardened k.plans.verdicts.flow are.flow in
        k.plans.is_plan ∙ (λ i. saying (found_status (yes i) (none i)) (verdicts_of (yes i) (none i) (chain_in k.plans.verdicts.labels)))

    confirmed : IsConfirmed hardened.verdict plan
    confirmed =
        let same = one_yes hardened.program k.plans.verdicts.labels hardened.verdict are.labels h.plans.is_hardened.judged in
        let chain = chain_in k.plans.verdicts.labels in
        let text : plan.text ≡ verdicts_of rules.Yes None chain = ap (λ p. p.text) is_plan in
        record {
          status = ap (λ p. p.status) is_plan;
          begins = (chain_line chain ++ both_line None chain, text);
          safe = (
            λ all. same.0 (yes_by_text k.plans.verdicts.labels (sym text ∙ all)),
            λ says. text ∙ ap (verdicts_of rules.Yes None) (no_chain k.plans.verdicts.labels (same.1 says)),
          );
        }

  verified_by : IsVerified request told
  verified_by = record {
    hardened = hardened;
    kept = ap (λ p. p.keeps) h.plans.is_plan;
    last = (
      counts_text hardened.program ++ flat_map (protect_text hardened.program hardened.certificate.paths) (protects hardened.program),
      ap (λ p. p.text) h.plans.is_plan,
    );
    short = (means.each hardened h.plans.is_hardened).short;
    taken = λ refusal refuses. (verifying_lawful (certificate_text hardened.certificate)).not_both hardened.image read refusal passes refuses;
    some = λ none.
        some_verdicts hardened.image (certificate_text hardened.certificate) read passes
        (λ plan plans. none plan (record { made = read; passes = passes; plans = plans }));
    confirmed = confirmed;
  }

pub verified : (request : HardenRequest) (contents : List (List ℕ)) (told : Plan) → (harden_job request).Does contents told → IsVerified request told
verified request contents told h = verified_by request contents told h

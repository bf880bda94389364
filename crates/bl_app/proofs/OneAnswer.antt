-- Two plans on the same contents: where they are one, and what they have in common where they may differ.
use Rattle.std.proofs.Common.{◌≡◌, ℕ, List, [], ◌∷◌, ◌++◌, Some, refl, ap, sym, ◌∙◌, subst, ◌↔◌, slice_get, flat_map}
use Rattle.bl_program.specs.Sites.{is_protected}
use Rattle.bl_program.specs.declared.definitions.ProgramParts.{ProgramParts as Program}
use Rattle.bl_graph.specs.Ranges.{AreInRange}
use Rattle.bl_graph.specs.declared.certificate.Certificate.{Certificate}
use Rattle.bl_graph.proofs.RangeLemmas.{in_range}
use Rattle.bl_transient.specs.declared.transient.FlowVerdict.{FlowVerdict}
use Rattle.bl_transient.specs.declared.transient.FlowVerdict.TheVariants as flow
use Rattle.bl_ct.specs.declared.verdict.CtVerdict.{CtVerdict}
use Rattle.bl_ct.specs.declared.verdict.CtVerdict.TheVariants as labels
use Rattle.bl_witness.specs.Texts.{certificate_text}
use Rattle.bl_report.specs.Reports.{constant_time_text, counts_text, protect_text, protects}
use Rattle.bl_report.specs.Verdicts.{certificate_line, safe_line, stable_line}
use Rattle.bl_words.specs.Requests.{HardenRequest}
use Rattle.bl_app.specs.HardenJob.{HardenDoes, counts_in, sources_in}
use Rattle.bl_build.specs.HardenStage.{IsHardened, IsYes}
use Rattle.bl_job.specs.Jobs.{Plan, saying}
use Rattle.bl_app.specs.VerifyJob.{AreVerdicts, VerifyDoes, verify_status}
use Rattle.bl_job.specs.declared.status.Status.TheVariants.{Done}
use Rattle.bl_build.proofs.WeightLemmas.{are_built, are_well_formed, compiling_by_lawful}
use Rattle.bl_app.proofs.VerifyLemmas.{one_certified}
use Rattle.bl_build.proofs.OneVerdict.{one_rules, one_flow, one_yes, one_program, one_bytes, one_answer}

-- ---- `verify`

one_safe : (f : FlowVerdict) (v w : CtVerdict) → (IsYes v ↔ IsYes w) → safe_line f v ≡ safe_line f w
one_safe (flow.Yes typing) (labels.Yes a) (labels.Yes b) e = refl
one_safe (flow.Yes typing) (labels.Yes a) (labels.No b) e = absurd (e.0 tt)
one_safe (flow.Yes typing) (labels.No a) (labels.Yes b) e = absurd (e.1 tt)
one_safe (flow.Yes typing) (labels.No a) (labels.No b) e = refl
one_safe (flow.No position) v w e = refl

one_line : (v w : CtVerdict) → IsYes v → IsYes w → constant_time_text v ≡ constant_time_text w
one_line (labels.Yes a) (labels.Yes b) says same = refl
one_line (labels.Yes a) (labels.No b) says same = absurd same
one_line (labels.No a) w says same = absurd says

module _ (contents : List (List ℕ)) (p q : Plan) (h : VerifyDoes contents p) (k : VerifyDoes contents q) where
  -- the verdicts of one are some on what the other one certifies
  alike : AreVerdicts k.made h.plans.verdicts
  alike = subst (λ c. AreVerdicts c h.plans.verdicts) (one_certified contents p q h k) h.plans.are_verdicts

  pub verify_rules : h.plans.verdicts.rules ≡ k.plans.verdicts.rules
  verify_rules = one_rules k.made.program k.made.certificate h.plans.verdicts.rules k.plans.verdicts.rules alike.rules k.plans.are_verdicts.rules

  pub verify_flow : h.plans.verdicts.flow ≡ k.plans.verdicts.flow
  verify_flow = one_flow k.made.program (is_protected k.made.program) h.plans.verdicts.flow k.plans.verdicts.flow alike.flow k.plans.are_verdicts.flow

  pub verify_labels : IsYes h.plans.verdicts.labels ↔ IsYes k.plans.verdicts.labels
  verify_labels = one_yes k.made.program h.plans.verdicts.labels k.plans.verdicts.labels alike.labels k.plans.are_verdicts.labels

  pub verify_safe : safe_line h.plans.verdicts.flow h.plans.verdicts.labels ≡ safe_line k.plans.verdicts.flow k.plans.verdicts.labels
  verify_safe = ap (λ f. safe_line f h.plans.verdicts.labels) verify_flow ∙ one_safe k.plans.verdicts.flow h.plans.verdicts.labels k.plans.verdicts.labels verify_labels

  -- where the label rules say yes all is one
  pub verify_whole : IsYes h.plans.verdicts.labels → p ≡ q
  verify_whole says =
      let lines = one_line h.plans.verdicts.labels k.plans.verdicts.labels says (verify_labels.0 says) in
      h.plans.is_plan
      ∙ (λ i. saying (verify_status (verify_rules i) (verify_flow i)) (certificate_line (verify_rules i) ++ stable_line (verify_flow i) ++ lines i ++ verify_safe i))
      ∙ sym k.plans.is_plan

-- ---- `harden`

module _ (request : HardenRequest) (contents : List (List ℕ)) (p q : Plan) (h : HardenDoes request contents p)
    (k : HardenDoes request contents q) where
  here : IsHardened k.made.program h.plans.hardened
  here =
      subst (λ built. IsHardened built.program h.plans.hardened)
      (compiling_by_lawful.one_result (sources_in request contents) h.made k.made h.passes k.passes) h.plans.is_hardened

  ranges : AreInRange k.made.program
  ranges =
      let is = are_built request.modules contents (counts_in request contents) k.made k.passes in
      in_range k.made.program is.image.is_program (are_well_formed request.modules contents (counts_in request contents) k.made is)

  pub harden_program : h.plans.hardened.program ≡ k.plans.hardened.program
  harden_program = one_program k.made.program ranges h.plans.hardened k.plans.hardened here k.plans.is_hardened

  pub harden_image : h.plans.hardened.image ≡ k.plans.hardened.image
  harden_image = one_bytes k.made.program ranges h.plans.hardened k.plans.hardened here k.plans.is_hardened

  pub harden_verdict : IsYes h.plans.hardened.verdict ↔ IsYes k.plans.hardened.verdict
  harden_verdict = one_answer k.made.program ranges h.plans.hardened k.plans.hardened here k.plans.is_hardened

  -- the second file that is kept
  pub harden_kept : slice_get p.keeps 1 ≡ slice_get q.keeps 1
  harden_kept = ap (λ plan. slice_get plan.keeps 1) h.plans.is_plan ∙ ap (λ bytes. Some (request.image, bytes)) harden_image ∙ sym (ap (λ plan. slice_get plan.keeps 1) k.plans.is_plan)

  -- where the label rules say yes, and the certificates are one, all is
  pub harden_whole : h.plans.hardened.certificate ≡ k.plans.hardened.certificate → IsYes h.plans.hardened.verdict → p ≡ q
  harden_whole certificates says =
      let lines = one_line h.plans.hardened.verdict k.plans.hardened.verdict says (harden_verdict.0 says) in
      let protects_of : Program → Certificate → List ℕ = λ program certificate. flat_map (protect_text program certificate.paths) (protects program) in
      h.plans.is_plan
      ∙ (λ i. record {
        status = Done;
        keeps = (request.certificate, certificate_text (certificates i)) ∷ (request.image, harden_image i) ∷ [];
        text = counts_text (harden_program i) ++ protects_of (harden_program i) (certificates i) ++ lines i;
      })
      ∙ sym k.plans.is_plan

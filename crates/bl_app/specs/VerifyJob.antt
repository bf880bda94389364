-- `verify`: its job, and what is said where it is done.
use Rattle.std.specs.Prelude.{◌≡◌, ◌≤◌, ◌↔◌, ◌++◌, ℕ, List, [], ◌∷◌, length, Option, None}
use Rattle.bl_base.specs.Quantity.{limit_of}
use Rattle.bl_base.specs.declared.number.Pos.{Pos}
use Rattle.bl_base.specs.declared.quantity.Quantity.TheVariants as quantity
use Rattle.bl_program.specs.Sites.{is_protected}
use Rattle.bl_ct.specs.Verdicts.{Judges as JudgesLabels, chain_in}
use Rattle.bl_ct.specs.declared.verdict.CtVerdict.{CtVerdict}
use Rattle.bl_graph.specs.Certificates.{Certifies}
use Rattle.bl_graph.specs.Labels.{ConstantTime}
use Rattle.bl_report.specs.Reports.{constant_time_text}
use Rattle.bl_report.specs.Verdicts.{certificate_line, leak_in, leak_line, verdicts_of, verdicts_text}
use Rattle.bl_rob.specs.Observations.{HasEqualObservations}
use Rattle.bl_sct.specs.OtherSecrets.{HidesGlobals}
use Rattle.bl_sct.specs.Verdicts.{Assesses, IsStable}
use Rattle.bl_sct.specs.declared.verdict.Verdict.{Verdict}
use Rattle.bl_sct.specs.declared.verdict.Verdict.TheVariants.{Safe}
use Rattle.bl_transient.specs.Verdicts.{Judges as JudgesFlow}
use Rattle.bl_transient.specs.declared.transient.FlowVerdict.{FlowVerdict}
use Rattle.bl_witness.specs.Verdicts.{AreLightest, Checks}
use Rattle.bl_witness.specs.declared.verdict.CertVerdict.{CertVerdict}
use Rattle.bl_witness.specs.declared.verdict.CertVerdict.TheVariants as rules
use Rattle.bl_witness.specs.Texts.{certificate_text}
use Rattle.bl_words.specs.Requests.{HardenRequest, VerifyRequest}
use Rattle.bl_app.specs.ForwardJob.{BeginsWith}
use Rattle.bl_app.specs.PredictJob.{EndsWith}
use Rattle.bl_app.specs.RunJob.{image_read}
use Rattle.bl_build.specs.HardenStage.{Hardened, IsYes}
use Rattle.bl_job.specs.Refusals.{Refusal}
use Rattle.bl_job.specs.Jobs.{Job, Plan, Read, saying}
use Rattle.bl_job.specs.StagedJobs.{Makes, Reading, Staged, all_read, contents_stage, file, staged_job}
use Rattle.bl_app.specs.declared.verify.Found.{Found}
use Rattle.bl_job.specs.declared.status.Status.{Status}
use Rattle.bl_job.specs.declared.status.Status.TheVariants.{Done, No}
use Rattle.bl_build.specs.CertificateStages.{Certain, Certified, Stable, verifying}

-- ---- verdicts

-- what is found of a program and a certificate: by the rules of certificates, by the transient rules, and by the label rules
pub record Verdicts : Type 0 where
  pub rules : CertVerdict
  pub flow : FlowVerdict
  pub labels : CtVerdict

-- the verdicts are these of the program with its own protects
pub record AreVerdicts (certified : Certified) (verdicts : Verdicts) : Type 0 where
  pub rules : Checks certified.program certified.certificate verdicts.rules
  pub flow : JudgesFlow certified.program (is_protected certified.program) verdicts.flow
  pub labels : JudgesLabels certified.program verdicts.labels

abbrev pub verify_text : Verdicts → List ℕ
verify_text verdicts = verdicts_text verdicts.rules verdicts.flow verdicts.labels

-- no where the certificate or the transient rules are broken
abbrev pub found_status : CertVerdict → Option Pos → Status
found_status rules.Yes None = Done
found_status verdict leak = No

abbrev pub verify_status : CertVerdict → FlowVerdict → Status
verify_status verdict flow = found_status verdict (leak_in flow)

abbrev pub verify_plan : Verdicts → Plan
verify_plan verdicts = saying (verify_status verdicts.rules verdicts.flow) (verify_text verdicts)

-- what is found shows verdicts on a program and a certificate: they have that first leak and that secret chain
pub record Shows (certified : Certified) (found : Found) : Type 0 where
  pub verdicts : Verdicts
  pub are_verdicts : AreVerdicts certified verdicts
  pub rules : verdicts.rules ≡ found.rules
  pub leak : leak_in verdicts.flow ≡ found.leak
  pub chain : chain_in verdicts.labels ≡ found.chain

-- what is printed then
abbrev pub found_plan : Found → Plan
found_plan found = saying (found_status found.rules found.leak) (verdicts_of found.rules found.leak found.chain)

-- a certificate that is read
abbrev pub certificate_read : List ℕ → Read
certificate_read word = record { name = word; quantity = quantity.Certificate }

-- ---- what is said

-- what the verdicts say of a program and a certificate: each yes stands exactly where its rules are kept. Where the certificate keeps its
-- rules, no passing set of sites weighs less than the program's protects; where the program is stable and constant-time, two runs from
-- starts that agree in public are observed alike, whatever the directives and the size of the buffer, also where one of them is of the same
-- program with other first values of its secret globals; and exactly there any verdict on such runs is that the program is safe
pub record Say (certified : Certified) (verdicts : Verdicts) : Type 0 where
  pub certifies : Certain verdicts.rules ↔ Certifies certified.program certified.certificate
  pub lightest : Certain verdicts.rules → AreLightest certified.program
  pub stable : Stable verdicts.flow ↔ IsStable certified.program
  pub constant_time : IsYes verdicts.labels ↔ ConstantTime certified.program
  pub safe : Stable verdicts.flow → IsYes verdicts.labels → HasEqualObservations certified.program
  pub hides : Stable verdicts.flow → IsYes verdicts.labels → HidesGlobals certified.program
  pub assessed : (verdict : Verdict) → Assesses certified.program verdict → verdict ≡ Safe ↔ Stable verdicts.flow × IsYes verdicts.labels

-- ---- the command

-- printing verdicts on a program and a certificate
pub record VerifyPlans (certified : Certified) (plan : Plan) : Type 0 where
  pub verdicts : Verdicts
  pub are_verdicts : AreVerdicts certified verdicts
  pub is_plan : plan ≡ verify_plan verdicts

-- an image, and then a certificate
abbrev pub verify_reading : Reading Certified
verify_reading = file (λ image. file (λ certificate. all_read (verifying certificate) image))

-- an image and a certificate are read, and verdicts on them are printed
abbrev pub verify_staged : VerifyRequest → Staged Certified
verify_staged request = record {
  reads = image_read request.image ∷ certificate_read request.certificate ∷ [];
  keeps = [];
  reading = verify_reading;
  Plans = VerifyPlans;
  Means = λ contents certified plan. (verdicts : Verdicts) → AreVerdicts certified verdicts → Say certified verdicts;
}

abbrev pub verify_job : VerifyRequest → Job
verify_job request = staged_job (verify_staged request)

-- what is done, by the contents of both files
abbrev pub VerifyDoes : List (List ℕ) → Plan → Type 0
VerifyDoes = Makes (contents_stage verify_reading) VerifyPlans

-- ---- the files that `harden` keeps

-- `verify` of both
abbrev pub verifying_kept : HardenRequest → VerifyRequest
verifying_kept request = record { image = request.image; certificate = request.certificate }

-- `verify` confirms a program, of which `harden` told this verdict on constant time: its status is 0, and its first lines say that the certificate keeps
-- its rules and that the protects pass; all of its lines say yes exactly where that verdict does
pub record IsConfirmed (verdict : CtVerdict) (plan : Plan) : Type 0 where
  pub status : plan.status ≡ Done
  pub begins : BeginsWith (certificate_line rules.Yes ++ leak_line None) plan.text
  pub safe : plan.text ≡ verdicts_of rules.Yes None None ↔ IsYes verdict

-- the files that are kept, of which the image is no longer than is read, and the verdict that was told last. `verify` of both files never refuses their
-- bytes; it says something of them, and all that it may say confirms the program
pub record IsVerified (request : HardenRequest) (told : Plan) : Type 0 where
  pub hardened : Hardened
  pub kept : told.keeps ≡ (request.certificate, certificate_text hardened.certificate) ∷ (request.image, hardened.image) ∷ []
  pub last : EndsWith (constant_time_text hardened.verdict) told.text
  pub short : length hardened.image ≤ limit_of quantity.Image
  pub taken : (refusal : Refusal) → (verify_job (verifying_kept request)).Against (hardened.image ∷ certificate_text hardened.certificate ∷ []) refusal → ⊥
  pub some : ((plan : Plan) → (verify_job (verifying_kept request)).Does (hardened.image ∷ certificate_text hardened.certificate ∷ []) plan → ⊥) → ⊥
  pub confirmed : (plan : Plan) → (verify_job (verifying_kept request)).Does (hardened.image ∷ certificate_text hardened.certificate ∷ []) plan
      → IsConfirmed hardened.verdict plan

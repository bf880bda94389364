-- A certificate that is read is one; why its bytes are refused.
use Rattle.std.proofs.Common.{◌≡◌, ℕ, List, Some, None, refl, ap, sym, ◌∙◌}
use Rattle.bl_program.specs.declared.definitions.ProgramParts.{ProgramParts as Program}
use Rattle.bl_witness.specs.Shapes.{certificate_of, ReadsCertificate}
use Rattle.bl_job.specs.Refusals.{Refusal}
use Rattle.bl_job.specs.Stages.{IsLawfulStage}
use Rattle.bl_build.specs.CertificateStages.{Certified, IsRead, ReadingRefuses, certifying, is_not_json, is_other_shape}
use Rattle.std.specs.Prelude.{Err}
use Rattle.std.proofs.lemmas.Option.{same_Some}
use Rattle.bl_witness.specs.declared.error.CertError.{CertError}
use Rattle.bl_witness.specs.declared.error.CertError.TheVariants as cert
use Rattle.bl_build.specs.StageAnswers.{IsCertificateOf, refusal_of_certificate}
use Rattle.bl_job.specs.WorkAnswers.{IsTold}
use Rattle.bl_job.specs.declared.refusal.WorkError.{WorkError}
use Rattle.bl_job.proofs.StageLemmas.{told_as, told_memory}

-- ---- certificates

module _ (bytes : List ℕ) where
  one_read : (program : Program) (a b : Certified) → IsRead bytes program a → IsRead bytes program b → a ≡ b
  one_read program a b p q =
      let programs = p.same_program ∙ sym q.same_program in
      let values = same_Some p.read.0 q.read.0 (sym p.read.1.value ∙ q.read.1.value) in
      let certificates = same_Some a.certificate b.certificate (sym p.read.2 ∙ ap certificate_of values ∙ q.read.2) in
      λ i. record { program = programs i; certificate = certificates i }

  reading_refusal : (a b : Refusal) → ReadingRefuses bytes a → ReadingRefuses bytes b → a ≡ b
  reading_refusal a b (is_not_json none e) (is_not_json other f) = e ∙ sym f
  reading_refusal a b (is_not_json none e) (is_other_shape there f) = absurd (none there.0 there.1)
  reading_refusal a b (is_other_shape there e) (is_not_json none f) = absurd (none there.0 there.1)
  reading_refusal a b (is_other_shape there e) (is_other_shape other f) = e ∙ sym f

  reading_not_both : (program : Program) (a : Certified) (r : Refusal) → IsRead bytes program a → ReadingRefuses bytes r → ⊥
  reading_not_both program a r p (is_not_json none e) = none p.read.0 p.read.1
  reading_not_both program a r p (is_other_shape there e) =
      let clash : None ≡ Some a.certificate = sym there.2 ∙ ap certificate_of (same_Some there.0 p.read.0 (sym there.1.value ∙ p.read.1.value)) ∙ p.read.2 in cc

  pub certifying_lawful : IsLawfulStage (certifying bytes)
  certifying_lawful = record { one_result = one_read; one_refusal = λ program. reading_refusal; not_both = reading_not_both }

-- an error of reading a certificate is why it is refused
pub not_read : (bytes : List ℕ) (e : CertError) → ReadsCertificate bytes (Err e) → (w : WorkError) → IsTold (refusal_of_certificate e) w → IsCertificateOf bytes (Err w)
not_read bytes cert.NotJson r = told_as _ (ReadingRefuses bytes) (is_not_json r refl)
not_read bytes cert.Shape r = told_as _ (ReadingRefuses bytes) (is_other_shape r refl)
not_read bytes cert.Memory r = told_memory (ReadingRefuses bytes)

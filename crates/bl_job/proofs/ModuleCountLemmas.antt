-- Requests of too many modules are lawful and always answered, and where the modules are few the job is the work on them.
use Rattle.std.proofs.Common.{◌≡◌, ℕ, ◌<◌, ◌≤◌, Bool, true, false, List, [], length, nat_le, Option, inl, inr, refl, sym, ap, ◌∙◌, subst}
use Rattle.std.proofs.lemmas.Bool.{cases_lt, false≢true, le-leb, lt-leb}
use Rattle.bl_base.specs.Quantity.{limit_of}
use Rattle.bl_base.specs.declared.quantity.Quantity.TheVariants as quantity
use Rattle.bl_outside.specs.Shelf.{Files}
use Rattle.bl_job.specs.ModuleCount.{job_if, too_many, with_modules}
use Rattle.bl_job.specs.Jobs.{AreRead, FirstRefusal, IsLawful, IsTotal, Job, Plan, against}
use Rattle.bl_job.specs.Refusals.{Refusal, limit}

too_many_lawful : (count : ℕ) → IsLawful (too_many count)
too_many_lawful count = record {
  one_refusal = λ contents a b h k. h ∙ sym k;
  none_beside_a_deed = λ contents refusal plan h d. d;
  one_status = λ contents p q d e. absurd d;
  status_of_deed = λ contents plan d. absurd d;
  keeps_named = λ contents plan d. absurd d;
}

lawful_if : (few : Bool) (count : ℕ) (job : Job) → IsLawful job → IsLawful (job_if few count job)
lawful_if true count job laws = laws
lawful_if false count job laws = too_many_lawful count

pub with_modules_lawful : (modules : List (List ℕ)) (job : Job) → IsLawful job → IsLawful (with_modules modules job)
with_modules_lawful modules job laws = lawful_if (nat_le (length modules) (limit_of quantity.Modules)) (length modules) job laws

-- what is done with modules is the work on them
done_if : (few : Bool) (count : ℕ) (job : Job) (files : Option Files) (contents : List (List ℕ)) (plan : Plan) → AreRead files (job_if few count job).reads contents → (job_if few count job).Does contents plan
    → AreRead files job.reads contents × job.Does contents plan
done_if true count job files contents plan read does = (read, does)
done_if false count job files contents plan read does = absurd does

pub work_done : (modules : List (List ℕ)) (job : Job) (files : Option Files) (contents : List (List ℕ)) (plan : Plan) → AreRead files (with_modules modules job).reads contents → (with_modules modules job).Does contents plan
    → AreRead files job.reads contents × job.Does contents plan
work_done modules job = done_if (nat_le (length modules) (limit_of quantity.Modules)) (length modules) job

-- the test of their number
pub are_few : (modules : List (List ℕ)) → length modules ≤ limit_of quantity.Modules → nat_le (length modules) (limit_of quantity.Modules) ≡ true
are_few modules few = le-leb (length modules) (limit_of quantity.Modules) few

module _ (modules : List (List ℕ)) (job : Job) (few : length modules ≤ limit_of quantity.Modules) where
  abbrev holds : true ≡ nat_le (length modules) (limit_of quantity.Modules)
  holds = sym (are_few modules few)

  pub reads_with : job.reads ≡ (with_modules modules job).reads
  reads_with = ap (λ b. (job_if b (length modules) job).reads) holds

  pub does_with : (contents : List (List ℕ)) (plan : Plan) → job.Does contents plan → (with_modules modules job).Does contents plan
  does_with contents plan does = subst (λ b. (job_if b (length modules) job).Does contents plan) holds does

  pub against_with : (contents : List (List ℕ)) (refusal : Refusal) → job.Against contents refusal → (with_modules modules job).Against contents refusal
  against_with contents refusal is = subst (λ b. (job_if b (length modules) job).Against contents refusal) holds is

-- where they are too many, that is the first error
pub too_many_first : (modules : List (List ℕ)) (job : Job) (files : Option Files) (count : ℕ) → count ≡ length modules → limit_of quantity.Modules < count
    → FirstRefusal (with_modules modules job) files (limit quantity.Modules count)
too_many_first modules job files count same many =
    let over : limit_of quantity.Modules < length modules = subst (λ (n : ℕ). limit_of quantity.Modules < n) same many in
    let fails : false ≡ nat_le (length modules) (limit_of quantity.Modules) = sym (lt-leb (length modules) (limit_of quantity.Modules) over) in
    subst (λ b. FirstRefusal (job_if b (length modules) job) files (limit quantity.Modules count)) fails (against [] tt (ap (limit quantity.Modules) same))

-- a job answers all contents that are there, however many modules are asked for
total_if : (test : Bool) (count : ℕ) (job : Job) → (test ≡ true → IsTotal job) → IsTotal (job_if test count job)
total_if true count job total = total refl
total_if false count job total = record { always = λ contents there refused made. refused (limit quantity.Modules count) refl }

pub with_modules_total : (modules : List (List ℕ)) (job : Job) → (length modules ≤ limit_of quantity.Modules → IsTotal job) → IsTotal (with_modules modules job)
with_modules_total modules job total =
    total_if (nat_le (length modules) (limit_of quantity.Modules)) (length modules) job (λ e. elim (cases_lt (limit_of quantity.Modules) (length modules)) as (λ _. IsTotal job) [
      | inl many ↦ absurd (false≢true (sym (lt-leb (length modules) (limit_of quantity.Modules) many) ∙ e))
      | inr few ↦ total few
    ])

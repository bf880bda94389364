-- The number of the modules of a request, which is tested before any file is read.
use Rattle.std.specs.Prelude.{◌≡◌, ℕ, Bool, true, false, nat_le, List, [], length}
use Rattle.bl_base.specs.Quantity.{limit_of}
use Rattle.bl_base.specs.declared.quantity.Quantity.TheVariants as quantity
use Rattle.bl_job.specs.Jobs.{Job}
use Rattle.bl_job.specs.Refusals.{limit}

-- nothing is read, and a request with so many modules is refused
abbrev pub too_many : ℕ → Job
too_many count = record {
  reads = [];
  keeps = [];
  Against = λ contents refusal. refusal ≡ limit quantity.Modules count;
  Does = λ contents plan. ⊥;
}

abbrev pub job_if : Bool → ℕ → Job → Job
job_if true count job = job
job_if false count job = too_many count

-- a job with modules, where they are few enough
abbrev pub with_modules : List (List ℕ) → Job → Job
with_modules modules job = job_if (nat_le (length modules) (limit_of quantity.Modules)) (length modules) job

-- The outcome of a run is one; the command `interp` keeps the laws.
use Rattle.std.proofs.Common.{◌≡◌, ◌≤◌, ℕ, length, Option, ap, refl, sym, ◌∙◌, arith, inr}
use Rattle.bl_base.specs.Quantity.{limit_of}
use Rattle.bl_base.specs.declared.quantity.Quantity.TheVariants as quantity
use Rattle.bl_base.specs.Runs.{Outcome}
use Rattle.bl_base.proofs.RunLemmas.{run_unique}
use Rattle.bl_reduce.specs.Outcomes.{opening as opening_of, source}
use Rattle.bl_reduce.specs.Steps.{source_step}
use Rattle.bl_app.specs.InterpJob.{HasOutcome, InterpPlans, interp_staged, printed_of}
use Rattle.bl_job.specs.Jobs.{Plan, saying}
use Rattle.bl_build.specs.LoadStages.{parts_of}
use Rattle.bl_app.specs.Outcomes.{outcome_status}
use Rattle.bl_text.specs.Names.{AreNamedApart}
use Rattle.bl_words.specs.Requests.{InterpRequest}
use Rattle.bl_build.specs.InvocationStages.{Invoked}
use Rattle.bl_job.specs.Status.{kind_of}
use Rattle.bl_app.proofs.HardenLemmas.{short_modules, small_modules}
use Rattle.bl_app.proofs.RunLemmas.{deed_of_run, one_within, some_within}
use Rattle.bl_job.proofs.StagedJobLemmas.{IsStagedCommand}
use Rattle.bl_build.proofs.LoadTotal.{preparing_total}
use Rattle.bl_build.proofs.ModuleFiles.{are_loadable}
use Rattle.bl_build.proofs.InvocationLemmas.{preparing_lawful}

-- the outcome within so many steps is one
one_outcome : (invoked : Invoked) (steps : ℕ) (a b : Option Outcome) → HasOutcome invoked steps a → HasOutcome invoked steps b → a ≡ b
one_outcome invoked steps =
    one_within (source invoked.tree invoked.function invoked.start) steps
    (λ m n o p h i. (run_unique (source_step invoked.tree) m n (opening_of invoked.tree invoked.function invoked.start) o p h.run i.run).1)

-- a run has one plan
pub one_interp_plan : (steps : ℕ) (invoked : Invoked) (p q : Plan) → InterpPlans steps invoked p → InterpPlans steps invoked q → p ≡ q
one_interp_plan steps invoked p q h k =
    h.is_plan ∙ ap (λ o. saying (outcome_status o) (printed_of invoked steps o)) (one_outcome invoked steps h.outcome k.outcome h.within k.within) ∙ sym k.is_plan

-- what is given of modules that are few enough and named apart
pub record AreInterpreted (request : InterpRequest) : Type 0 where
  pub few : length request.modules ≤ limit_of quantity.Modules
  pub apart : AreNamedApart request.modules

pub interp_staged_is : (request : InterpRequest) → IsStagedCommand (AreInterpreted request) (interp_staged request)
interp_staged_is request = record {
  small = (omega arith, small_modules request.modules);
  lawful = λ start. preparing_lawful request.export start;
  total = λ given start contents there.
      (preparing_total request.export start).always (parts_of request.modules contents) (are_loadable request.modules contents given.few given.apart (short_modules request.modules contents there.read) there.bytes);
  one_status = λ invoked p q h k. ap (λ plan. plan.status) (one_interp_plan request.steps invoked p q h k);
  status_of_deed = λ invoked plan h. ap (λ p. kind_of p.status) h.is_plan ∙ deed_of_run h.outcome;
  keeps_named = λ invoked plan h. inr (ap (λ p. p.keeps) h.is_plan);
  means = λ start contents invoked prepared plan h. tt;
  planned = λ start contents invoked prepared none.
      some_within (source invoked.tree invoked.function invoked.start) request.steps
      (λ outcome within. none _ (record { outcome = outcome; within = within; is_plan = refl }));
}

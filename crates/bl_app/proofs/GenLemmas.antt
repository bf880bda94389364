-- The command `gen` keeps the laws.
use Rattle.std.proofs.Common.{[], ◌∷◌, ap, sym, ◌∙◌, codes, refl, arith, inr}
use Rattle.std.proofs.lemmas.List.Elements.{All-cons, All-nil}
use Rattle.std.proofs.lemmas.Option.{slice_get_within}
use Rattle.bl_gen.proofs.Lengths.{made_short}
use Rattle.bl_gen.proofs.ByteRanges.{of_bytes}
use Rattle.bl_text.proofs.ModuleNames.{no_solidus}
use Rattle.bl_words.specs.Requests.{GenRequest, IsGenInRange}
use Rattle.bl_build.specs.BuildStages.{AreCompilable, Built, compiling}
use Rattle.bl_build.specs.LoadStages.{IsLoadable}
use Rattle.bl_build.proofs.BuildLemmas.{are_compiled, compiling_lawful, compiling_total}
use Rattle.bl_build.proofs.HardenExists.{some_hardened}
use Rattle.bl_build.proofs.ModuleFiles.{HasBytes, IsShort}
use Rattle.bl_app.specs.GenJob.{GenMeans, gen_staged, made_by, made_part}
use Rattle.bl_job.specs.Status.{kind_of}
use Rattle.bl_app.proofs.HardenLemmas.{hardened_means, own_of, wells_of}
use Rattle.bl_job.proofs.StagedJobLemmas.{IsStagedCommand}

pub made_compilable : (request : GenRequest) → IsGenInRange request → AreCompilable (made_part request ∷ [])
made_compilable request sized = record {
  loadable = record {
    few = omega arith;
    each = All-cons IsLoadable (made_part request) [] (no_solidus (codes "gen"), made_short request.seed request.size sized.size_is_within) (All-nil IsLoadable);
    distinct = λ i j a b e f same. omega (arith, slice_get_within (made_part request ∷ []) i a e, slice_get_within (made_part request ∷ []) j b f);
    bytes = All-cons HasBytes (made_part request) [] (of_bytes request.seed request.size) (All-nil HasBytes);
  };
  names = All-cons IsShort (made_part request) [] (omega arith) (All-nil IsShort);
}

-- it is compiled as by `lower`, and hardened as by `harden`
gen_means : (request : GenRequest) (built : Built) → compiling.Passes (made_part request ∷ []) built → GenMeans request built
gen_means request built passes =
    let is = are_compiled (codes "gen" ∷ []) (made_by request ∷ []) built passes in
    let own = own_of (made_part request ∷ []) built passes in
    record {
      compiled = is;
      each = hardened_means is.tree built (wells_of (made_part request ∷ []) built passes) own is.builds.short is.same_outcomes;
    }

pub gen_staged_is : (request : GenRequest) → IsStagedCommand (IsGenInRange request) (gen_staged request)
gen_staged_is request = record {
  small = tt;
  lawful = compiling_lawful;
  total = λ sized. compiling_total.always (made_part request ∷ []) (made_compilable request sized);
  one_status = λ built p q d e. ap (λ plan. plan.status) d.is_plan ∙ sym (ap (λ plan. plan.status) e.is_plan);
  status_of_deed = λ built plan d. ap (λ p. kind_of p.status) d.is_plan;
  keeps_named = λ built plan d. inr (ap (λ p. p.keeps) d.is_plan);
  means = λ built passes plan d. gen_means request built passes;
  planned = λ built compiled none.
      some_hardened built.program built.image (wells_of (made_part request ∷ []) built compiled) (own_of (made_part request ∷ []) built compiled)
      (λ hardened is. none _ (record { hardened = hardened; is_hardened = is; is_plan = refl }));
}

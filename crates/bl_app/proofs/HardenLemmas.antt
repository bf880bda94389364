-- The commands `harden` and `lower` keep the laws; what is said of `harden`.
use Rattle.std.proofs.Common.{◌≡◌, ℕ, List, [], ◌∷◌, ◌++◌, append-nil, Option, Some, None, refl, ap, sym, ◌∙◌, subst, map, arith, inl, length, slice_get, take, ◌≤◌}
use Rattle.std.proofs.lemmas.List.{length-append}
use Rattle.std.proofs.lemmas.List.Elements.{All-take}
use Rattle.bl_base.specs.Fits.{AreBytes}
use Rattle.std.specs.List.{AllByRecursion}
use Rattle.bl_base.specs.Quantity.{limit_of}
use Rattle.bl_base.specs.declared.quantity.Quantity.TheVariants as quantity
use Rattle.bl_wasm.specs.declared.linked.Tree.{Tree}
use Rattle.bl_program.specs.Rules.{IsWellFormed}
use Rattle.bl_format.specs.Image.{Image}
use Rattle.bl_lower.proofs.WellFormed.{rules}
use Rattle.bl_build.specs.BuildStages.{AreCompilable, AreCompiled, Built, compiling}
use Rattle.bl_build.specs.HardenStage.{Hardened, IsHardened}
use Rattle.bl_build.specs.WeightStages.{compiling_by, counted_sources}
use Rattle.bl_build.specs.LoadStages.{AreShort, Part, parts_of}
use Rattle.bl_app.specs.CompileJobs.{AreTexts, compiling_staged, module_read}
use Rattle.bl_app.specs.HardenJob.{HardenMeans, HardenPlans, HardenedMeans, Hardens, counts_among, counts_in, counts_read, harden_staged, sources_in}
use Rattle.bl_job.specs.Jobs.{AreRead, IsSmall, Plan, Read}
use Rattle.bl_app.specs.LowerJob.{LowerPlans, lower_staged}
use Rattle.bl_build.specs.ProgramMeaning.{SameOutcomes}
use Rattle.bl_text.specs.Names.{AreNamedApart, module_name}
use Rattle.bl_words.specs.Requests.{HardenRequest, LowerRequest, file_named, harden, request_of}
use Rattle.bl_job.specs.StagedJobs.{DeedMeans, Stand}
use Rattle.bl_job.specs.Status.{kind_of}
use Rattle.bl_job.specs.Worlds.{World, took, with_files}
use Rattle.bl_job.specs.declared.status.Status.{Status}
use Rattle.bl_job.specs.declared.status.Status.TheVariants.{Done}
use Rattle.bl_build.proofs.BuildLemmas.{are_compiled, builds_of, compiling_lawful, compiling_total}
use Rattle.bl_job.proofs.StagedJobLemmas.{IsStagedCommand}
use Rattle.bl_build.proofs.HardenExists.{some_hardened}
use Rattle.bl_build.proofs.ModuleFiles.{are_compilable}
use Rattle.bl_build.proofs.WeightLemmas.{are_built, are_well_formed, compiling_by_lawful, compiling_by_total}
use Rattle.bl_build.proofs.LeastLemmas.{are_least, ends_alike}
use Rattle.bl_build.proofs.ProtectedImages.{as_long}
use Rattle.bl_build.proofs.ProgramVerdicts.{is_judged}
use Rattle.bl_words.proofs.WordsLemmas.{request_differs}

-- ---- the files of modules

-- the files of modules that are read are short enough
pub short_modules : (words contents : List (List ℕ)) → AreRead None (map module_read words) contents → AreShort words contents
short_modules [] [] read = tt
short_modules [] (bytes ∷ contents) read = absurd read
short_modules (word ∷ words) [] read = absurd read
short_modules (word ∷ words) (bytes ∷ contents) read = (read.0.short, short_modules words contents read.1)

-- a shelf may be asked for the files of modules
pub small_modules : (words : List (List ℕ)) → AllByRecursion IsSmall (map module_read words)
small_modules [] = tt
small_modules (word ∷ words) = (omega arith, small_modules words)

-- the count file is read behind them
small_with : (words : List (List ℕ)) (counts : Option (List ℕ)) → AllByRecursion IsSmall (map module_read words ++ map counts_read (file_named counts))
small_with [] None = tt
small_with [] (Some word) = (omega arith, tt)
small_with (word ∷ words) counts = (omega arith, small_with words counts)

short_front : (words : List (List ℕ)) (more : List Read) (contents : List (List ℕ)) → AreRead None (map module_read words ++ more) contents → AreShort words (take (length words) contents)
short_front [] more contents read = tt
short_front (word ∷ words) more [] read = absurd read
short_front (word ∷ words) more (bytes ∷ contents) read = (read.0.short, short_front words more contents read.1)

parts_front : (words contents : List (List ℕ)) → parts_of words (take (length words) contents) ≡ parts_of words contents
parts_front [] contents = refl
parts_front (word ∷ words) [] = refl
parts_front (word ∷ words) (bytes ∷ contents) = ap (λ parts. record { name = module_name word; bytes = bytes } ∷ parts) (parts_front words contents)

-- where none is read, all are modules
pub short_alone : (words : List (List ℕ)) (counts : Option (List ℕ)) (contents : List (List ℕ)) → counts ≡ None → AreRead None (map module_read words ++ map counts_read (file_named counts)) contents
    → AreShort words contents
short_alone words counts contents none read =
    let alone = subst (λ (o : Option (List ℕ)). AreRead None (map module_read words ++ map counts_read (file_named o)) contents) none read in
    short_modules words contents (subst (λ reads. AreRead None reads contents) (append-nil (map module_read words)) alone)

-- where one is, those before it
pub short_before : (words : List (List ℕ)) (last : Read) (front : List (List ℕ)) (bytes : List ℕ) → AreRead None (map module_read words ++ last ∷ []) (front ++ bytes ∷ []) → AreShort words front
short_before [] last [] bytes read = tt
short_before [] last (one ∷ []) bytes read = absurd read.1
short_before [] last (one ∷ other ∷ front) bytes read = absurd read.1
short_before (word ∷ []) last [] bytes read = absurd read.1
short_before (word ∷ next ∷ words) last [] bytes read = absurd read.1
short_before (word ∷ words) last (one ∷ front) bytes read = (read.0.short, short_before words last front bytes read.1)

pub short_behind : (words : List (List ℕ)) (counts : Option (List ℕ)) (word : List ℕ) (contents front : List (List ℕ)) (bytes : List ℕ) → counts ≡ Some word → contents ≡ front ++ bytes ∷ []
    → AreRead None (map module_read words ++ map counts_read (file_named counts)) contents → AreShort words front
short_behind words counts word contents front bytes some are read =
    short_before words (counts_read word) front bytes
    (subst (λ (o : Option (List ℕ)). AreRead None (map module_read words ++ map counts_read (file_named o)) (front ++ bytes ∷ [])) some
    (subst (AreRead None (map module_read words ++ map counts_read (file_named counts))) are read))

-- there is a last one
pub some_last : (words : List (List ℕ)) (counts : Option (List ℕ)) (word : List ℕ) → counts ≡ Some word → 1 ≤ length (map module_read words ++ map counts_read (file_named counts))
some_last words counts word some =
    let long = length-append (map module_read words) (counts_read word ∷ []) in
    subst (λ (o : Option (List ℕ)). 1 ≤ length (map module_read words ++ map counts_read (file_named o))) (sym some) (omega (arith, long))

parts_before : (words front : List (List ℕ)) (bytes : List ℕ) → AreShort words front → parts_of words front ≡ parts_of words (front ++ bytes ∷ [])
parts_before [] [] bytes short = refl
parts_before [] (one ∷ front) bytes short = refl
parts_before (word ∷ words) [] bytes short = absurd short
parts_before (word ∷ words) (one ∷ front) bytes short = ap (λ parts. record { name = module_name word; bytes = one } ∷ parts) (parts_before words front bytes short.1)

counts_behind : (words front : List (List ℕ)) (bytes : List ℕ) → AreShort words front → Some bytes ≡ slice_get (front ++ bytes ∷ []) (length words)
counts_behind [] [] bytes short = refl
counts_behind [] (one ∷ front) bytes short = absurd short
counts_behind (word ∷ words) [] bytes short = absurd short
counts_behind (word ∷ words) (one ∷ front) bytes short = counts_behind words front bytes short.1

pub sources_behind : (words : List (List ℕ)) (counts : Option (List ℕ)) (word : List ℕ) (contents front : List (List ℕ)) (bytes : List ℕ) → counts ≡ Some word → contents ≡ front ++ bytes ∷ []
    → AreShort words front → counted_sources words front bytes ≡ record { parts = parts_of words contents; counts = counts_among (length words) counts contents }
sources_behind words counts word contents front bytes some are short =
    let parts = parts_before words front bytes short in
    let behind = counts_behind words front bytes short in
    let whole : counted_sources words front bytes ≡ record { parts = parts_of words (front ++ bytes ∷ []); counts = counts_among (length words) (Some word) (front ++ bytes ∷ []) } =
    λ i. record { parts = parts i; counts = behind i } in
    whole ∙ (λ i. record { parts = parts_of words (sym are i); counts = counts_among (length words) (sym some i) (sym are i) })

-- ---- the laws

-- what is given of modules that are few enough, named apart by texts
pub record AreModules (words : List (List ℕ)) : Type 0 where
  pub few : length words ≤ limit_of quantity.Modules
  pub apart : AreNamedApart words
  pub texts : AreTexts words

-- what is compiled is well-formed, and has an image
pub wells_of : (parts : List Part) (built : Built) → compiling.Passes parts built → IsWellFormed built.program
wells_of parts built compiled =
    let builds = builds_of compiled.0 built compiled.2 in
    subst IsWellFormed (sym builds.is_program) (rules compiled.0 compiled.1.2.2.2.can_run builds.few)

pub own_of : (parts : List Part) (built : Built) → compiling.Passes parts built → Image built.program built.image
own_of parts built compiled = let builds = builds_of compiled.0 built compiled.2 in subst (λ p. Image p built.image) (sym builds.is_program) builds.image

-- where each plan is done, keeps the files that are named and means what is said, and all that is compiled has one
compiled_is : (words keeps : List (List ℕ)) (Plans : Built → Plan → Type 0) (Means : List (List ℕ) → Built → Plan → Type 0)
    → ((built : Built) (plan : Plan) → Plans built plan → plan.status ≡ Done)
    → ((built : Built) (plan : Plan) → Plans built plan → map (λ keep. keep.0) plan.keeps ≡ keeps)
    → ((contents : List (List ℕ)) (built : Built) → compiling.Passes (parts_of words contents) built → (plan : Plan) → Plans built plan → Means contents built plan)
    → ((contents : List (List ℕ)) (built : Built) → compiling.Passes (parts_of words contents) built → ((plan : Plan) → Plans built plan → ⊥) → ⊥)
    → IsStagedCommand (AreModules words) (compiling_staged words keeps Plans Means)
compiled_is words keeps Plans Means done named means planned = record {
  small = small_modules words;
  lawful = compiling_lawful;
  total = λ given contents there.
      compiling_total.always (parts_of words contents) (are_compilable words contents given.few given.apart given.texts (short_modules words contents there.read) there.bytes);
  one_status = λ built p q d e. done built p d ∙ sym (done built q e);
  status_of_deed = λ built plan d. ap kind_of (done built plan d);
  keeps_named = λ built plan d. inl (named built plan d);
  means = means;
  planned = planned;
}

-- what is said of a program with its protects
pub hardened_means : (tree : Tree) (built : Built) → IsWellFormed built.program → Image built.program built.image → length built.image ≤ limit_of quantity.Image
    → SameOutcomes tree built.program → (hardened : Hardened) → IsHardened built.program hardened → HardenedMeans tree hardened
hardened_means tree built wells own short same hardened h =
    let long = as_long h.set built.program hardened.image built.image (subst (λ p. Image p hardened.image) h.is_program h.image) own in
    record {
      same_outcomes = subst (SameOutcomes tree) (sym h.is_program) (ends_alike tree built.program h.set same);
      least = are_least built.program own.is_program wells hardened h;
      constant_time = is_judged built.program own.is_program wells hardened h;
      short = omega (arith, long, short);
    }

pub harden_means : (request : HardenRequest) (contents : List (List ℕ)) (built : Built) → compiling_by.Passes (sources_in request contents) built → (plan : Plan) → HardenMeans request contents built plan
harden_means request contents built passes plan =
    let is = are_built request.modules contents (counts_in request contents) built passes in
    record {
      compiled = is;
      each = hardened_means is.tree built (are_well_formed request.modules contents (counts_in request contents) built is) is.image is.short is.same_outcomes;
    }

pub harden_staged_is : (request : HardenRequest) → IsStagedCommand (AreModules request.modules) (harden_staged request)
harden_staged_is request = record {
  small = small_with request.modules request.counts;
  lawful = compiling_by_lawful;
  total = λ given contents there.
      compiling_by_total.always (sources_in request contents)
      (subst AreCompilable (parts_front request.modules contents)
      (are_compilable request.modules (take (length request.modules) contents) given.few given.apart given.texts
      (short_front request.modules (map counts_read (file_named request.counts)) contents there.read) (All-take AreBytes (length request.modules) contents there.bytes)));
  one_status = λ built p q d e. ap (λ plan. plan.status) d.is_plan ∙ sym (ap (λ plan. plan.status) e.is_plan);
  status_of_deed = λ built plan d. ap (λ q. kind_of q.status) d.is_plan;
  keeps_named = λ built plan d. inl (ap (λ q. map (λ keep. keep.0) q.keeps) d.is_plan);
  means = λ contents built passes plan d. harden_means request contents built passes plan;
  planned = λ contents built passes none.
      let is = are_built request.modules contents (counts_in request contents) built passes in
      some_hardened built.program built.image (are_well_formed request.modules contents (counts_in request contents) built is) is.image
      (λ hardened h. none _ (record { hardened = hardened; is_hardened = h; is_plan = refl }));
}

pub lower_staged_is : (request : LowerRequest) → IsStagedCommand (AreModules request.modules) (lower_staged request)
lower_staged_is request =
    compiled_is request.modules (request.image ∷ []) (LowerPlans request) (λ contents built plan. AreCompiled request.modules contents built)
    (λ built plan e. ap (λ q. q.status) e) (λ built plan e. ap (λ q. map (λ keep. keep.0) q.keeps) e)
    (λ contents built compiled plan e. are_compiled request.modules contents built compiled) (λ contents built compiled none. none _ refl)

-- ---- what is said of `harden`

pub hardens : (words : List (List ℕ)) (request : HardenRequest) (old new : World) (status : Status)
    → request_of words ≡ Some (harden request) → DeedMeans (harden_staged request) old new status → Hardens request old new
hardens words request old new status is deed =
    let d = deed.done in
    let plans : HardenPlans request d.does.made d.plan = d.does.plans in
    let means : HardenMeans request d.contents d.does.made d.plan = deed.means in
    let each = means.each plans.hardened plans.is_hardened in
    let stand = subst (λ plan. Stand new.files plan.keeps) plans.is_plan deed.stand in
    record {
      contents = d.contents;
      built = d.does.made;
      hardened = plans.hardened;
      read = d.read;
      compiled = means.compiled;
      is_hardened = plans.is_hardened;
      same_outcomes = each.same_outcomes;
      least = each.least;
      constant_time = each.constant_time;
      short = each.short;
      kept = d.kept ∙ ap (λ plan. with_files old.files plan.keeps) plans.is_plan;
      image = stand.1.0 tt;
      certificate = stand.0 (request_differs words request is, tt);
      printed = d.printed ∙ ap (λ plan. took old.sink.taken plan.text) plans.is_plan;
    }

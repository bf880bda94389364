-- The command `part` keeps the laws; what is said where it is done.
use Rattle.std.proofs.Common.{◌≡◌, ℕ, Bool, List, ◌∷◌, Result, Ok, Err, refl, ap, sym, ◌∙◌, subst, map, arith, inl}
use Rattle.bl_base.specs.declared.names.Role.{Role}
use Rattle.bl_base.specs.declared.names.Role.TheVariants.{Client, Library}
use Rattle.bl_program.specs.Sites.{is_protected}
use Rattle.bl_program.specs.declared.definitions.ProgramParts.{ProgramParts as Program}
use Rattle.bl_cut.specs.Marks.{protected}
use Rattle.bl_cut.proofs.MarkedPrograms.{marks_are}
use Rattle.bl_cut.proofs.MarksAndPassing.{flows_on}
use Rattle.bl_iface.specs.InterfaceFunctions.{Matches}
use Rattle.bl_iface.specs.Roles.{KeepsRole, PassesAs}
use Rattle.bl_iface.specs.RoleTests.{asked}
use Rattle.bl_iface.specs.declared.iface.FnIface.{FnIface}
use Rattle.bl_iface.specs.declared.iface.Iface.{Iface}
use Rattle.bl_iface.proofs.RoleTestLemmas.{as_from_under}
use Rattle.bl_format.specs.Image.{Image}
use Rattle.bl_transient.specs.Transient.{PassesUnder, nothing}
use Rattle.bl_words.specs.Requests.{PartRequest}
use Rattle.bl_build.specs.BuildStages.{AreCompiled, Built, compiling}
use Rattle.bl_build.specs.InterfaceStages.{IsFileOf, IsParted, Parted, Side, parting, side_of}
use Rattle.bl_build.specs.LoadStages.{parts_of}
use Rattle.bl_build.specs.ProgramMeaning.{SameOutcomes}
use Rattle.bl_build.specs.StageAnswers.{parted_in}
use Rattle.bl_build.specs.declared.part.Parted.{Parted as PartedMade}
use Rattle.bl_build.proofs.BuildLemmas.{are_compiled}
use Rattle.bl_build.proofs.LeastLemmas.{ends_alike}
use Rattle.bl_build.proofs.InterfaceLemmas.{parting_lawful}
use Rattle.bl_build.proofs.InterfaceTotal.{parting_total}
use Rattle.bl_build.proofs.ProtectedImages.{as_long}
use Rattle.bl_build.proofs.ModuleFiles.{are_compilable}
use Rattle.bl_job.specs.Jobs.{Plan}
use Rattle.bl_job.specs.StagedJobs.{contents_stage}
use Rattle.bl_job.specs.Status.{kind_of}
use Rattle.bl_job.specs.WorkAnswers.{IsStaged}
use Rattle.bl_job.specs.declared.refusal.WorkError.{WorkError}
use Rattle.bl_job.proofs.StagedJobLemmas.{IsStagedCommand}
use Rattle.bl_app.specs.PartJob.{PartMeans, part_staged}
use Rattle.bl_app.proofs.HardenLemmas.{AreModules, own_of, short_modules, small_modules}

-- ---- what is meant

-- what a role asks of a function it asks with other protects
keeps_role : (role : Role) (one : FnIface) (bare : Program) (set typing : ℕ → Bool) (f : ℕ) → KeepsRole role one bare typing f → KeepsRole role one (protected set bare) typing f
keeps_role Client one bare set typing f h = h
keeps_role Library one bare set typing f h = h

-- a choice that passes on a side passes there in the program with those protects
passes_as : (role : Role) (iface : Iface) (bare : Program) (set : ℕ → Bool) → PassesUnder (asked role iface bare) bare set
    → PassesAs role iface (protected set bare) set
passes_as role iface bare set passes =
    let flows = as_from_under iface bare passes.0 set role passes.1 in
    (passes.0, record { flows = flows_on set bare nothing passes.0 set flows.flows; sides = λ k d lt f e. keeps_role role _ bare set passes.0 f (flows.sides k d lt f e) })

module _ (request : PartRequest) (bytes : List ℕ) (modules : List (List ℕ)) (built : Built) (compiled : compiling.Passes (parts_of request.modules modules) built) (iface : Iface)
    (is_file : IsFileOf bytes iface) (matches : Matches built.program iface) (parted : Parted) (is : IsParted request.role (side_of built.program iface) parted) where
  are : AreCompiled request.modules modules built
  are = are_compiled request.modules modules built compiled

  own : Image built.program built.image
  own = own_of (parts_of request.modules modules) built compiled

  passes : PassesAs request.role iface parted.program (is_protected parted.program)
  passes =
      let same : is_protected (protected is.set built.program) ≡ is.set = λ i s. marks_are is.set built.program is.least.sites s i in
      subst (λ p. PassesAs request.role iface p (is_protected p)) (sym is.is_program)
      (subst (PassesAs request.role iface (protected is.set built.program)) (sym same) (passes_as request.role iface built.program is.set is.least.passes))

  meant : (plan : Plan) → PartMeans request (bytes ∷ modules) parted plan
  meant plan =
      let compiled : AreCompiled request.modules modules built = are in
      let long = as_long is.set built.program parted.image built.image (subst (λ p. Image p parted.image) is.is_program is.image) own in
      let short = compiled.builds.short in
      record {
        bytes = bytes;
        modules = modules;
        are = refl;
        iface = iface;
        is_file = is_file;
        built = built;
        compiled = compiled;
        matches = matches;
        set = is.set;
        least = is.least;
        is_program = is.is_program;
        passes = passes;
        same_outcomes = subst (SameOutcomes compiled.tree) (sym is.is_program) (ends_alike compiled.tree built.program is.set compiled.same_outcomes);
        image = is.image;
        short = omega (arith, long, short);
      }

pub part_means : (request : PartRequest) (bytes : List ℕ) (modules : List (List ℕ)) (parted : Parted) → (parting request.role bytes).Passes (parts_of request.modules modules) parted
    → (plan : Plan) → PartMeans request (bytes ∷ modules) parted plan
part_means request bytes modules parted passes plan =
    let built : Built = passes.0 in
    let made : Parted = passes.2.0 in
    let side : Side = passes.2.1.0 in
    let iface : Iface = passes.2.1.1.0 in
    let is_side : side ≡ side_of built.program iface = passes.2.1.1.2 in
    let chosen = passes.2.1.2 in
    subst (λ m. PartMeans request (bytes ∷ modules) m plan) (sym passes.2.2)
    (meant request bytes modules built passes.1 iface passes.2.1.1.1 (subst (λ s. Matches s.program s.iface) is_side chosen.1.1) made
    (subst (λ s. IsParted request.role s made) (chosen.1.0 ∙ is_side) chosen.2) plan)

-- what comes of the modules and the interface file is what comes of the contents of all files
pub staged_so : (request : PartRequest) (bytes : List ℕ) (modules : List (List ℕ)) (result : Result PartedMade WorkError)
    → IsStaged (parting request.role bytes) parted_in (parts_of request.modules modules) result → IsStaged (contents_stage (part_staged request).reading) parted_in (bytes ∷ modules) result
staged_so request bytes modules (Ok parted) h = h
staged_so request bytes modules (Err e) h = h

-- ---- the command

pub part_staged_is : (request : PartRequest) → IsStagedCommand (AreModules request.modules) (part_staged request)
part_staged_is request = record {
  small = (omega arith, small_modules request.modules);
  lawful = λ iface. parting_lawful request.role iface;
  total = λ given iface contents there.
      (parting_total request.role iface).always (parts_of request.modules contents)
      (are_compilable request.modules contents given.few given.apart given.texts (short_modules request.modules contents there.read) there.bytes);
  one_status = λ parted p q d e. ap (λ plan. plan.status) (d ∙ sym e);
  status_of_deed = λ parted plan d. ap (λ q. kind_of q.status) d;
  keeps_named = λ parted plan d. inl (ap (λ q. map (λ keep. keep.0) q.keeps) d);
  means = λ iface contents parted passes plan d. part_means request iface contents parted passes plan;
  planned = λ iface contents parted passes none. none _ refl;
}

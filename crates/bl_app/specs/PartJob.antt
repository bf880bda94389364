-- `part`: its job, and what is said where it is done.
use Rattle.std.specs.Prelude.{◌≡◌, ◌≤◌, ℕ, Bool, List, [], ◌∷◌, length, map}
use Rattle.bl_base.specs.Quantity.{limit_of}
use Rattle.bl_base.specs.declared.quantity.Quantity.TheVariants as quantity
use Rattle.bl_cut.specs.Least.{LeastUnder}
use Rattle.bl_cut.specs.Marks.{protected}
use Rattle.bl_program.specs.Sites.{is_protected}
use Rattle.bl_iface.specs.InterfaceFunctions.{Matches}
use Rattle.bl_iface.specs.Roles.{PassesAs}
use Rattle.bl_iface.specs.RoleTests.{asked}
use Rattle.bl_iface.specs.declared.iface.Iface.{Iface}
use Rattle.bl_format.specs.Image.{Image}
use Rattle.bl_report.specs.Reports.{protects_text}
use Rattle.bl_words.specs.Requests.{PartRequest}
use Rattle.bl_app.specs.CompileJobs.{module_read}
use Rattle.bl_build.specs.BuildStages.{AreCompiled, Built}
use Rattle.bl_build.specs.InterfaceStages.{IsFileOf, Parted, parting}
use Rattle.bl_build.specs.LoadStages.{parts_of}
use Rattle.bl_build.specs.ProgramMeaning.{SameOutcomes}
use Rattle.bl_job.specs.Jobs.{Job, Plan, Read}
use Rattle.bl_job.specs.StagedJobs.{Staged, file, others, staged_job}
use Rattle.bl_job.specs.declared.status.Status.TheVariants.{Done}

-- an interface file
abbrev pub interface_read : List ℕ → Read
interface_read word = record { name = word; quantity = quantity.Interface }

-- keeping the image of a program with protects, and printing its counts and its protects
abbrev pub part_plan : PartRequest → Parted → Plan
part_plan request parted = record {
  status = Done;
  keeps = (request.image, parted.image) ∷ [];
  text = protects_text parted.program;
}

abbrev pub PartPlans : PartRequest → Parted → Plan → Type 0
PartPlans request parted plan = plan ≡ part_plan request parted

-- the contents are those of an interface file and of modules, which are linked to a tree, which is lowered; the program has all functions of the
-- interface, and its protects are the least choice on that side of it, with which it passes. With them it ends exactly as the linked tree
-- does, and its image is short enough
pub record PartMeans (request : PartRequest) (contents : List (List ℕ)) (parted : Parted) (plan : Plan) : Type 0 where
  pub bytes : List ℕ
  pub modules : List (List ℕ)
  pub are : contents ≡ bytes ∷ modules
  pub iface : Iface
  pub is_file : IsFileOf bytes iface
  pub built : Built
  pub compiled : AreCompiled request.modules modules built
  pub matches : Matches built.program iface
  pub set : ℕ → Bool
  pub least : LeastUnder (asked request.role iface built.program) built.program set
  pub is_program : parted.program ≡ protected set built.program
  pub passes : PassesAs request.role iface parted.program (is_protected parted.program)
  pub same_outcomes : SameOutcomes compiled.tree parted.program
  pub image : Image parted.program parted.image
  pub short : length parted.image ≤ limit_of quantity.Image

-- an interface file and modules are read; the modules are compiled, and the image of their program with the least protects on that side of the
-- interface is kept
abbrev pub part_staged : PartRequest → Staged Parted
part_staged request = record {
  reads = interface_read request.iface ∷ map module_read request.modules;
  keeps = request.image ∷ [];
  reading = file (λ iface. others (parting request.role iface) (parts_of request.modules));
  Plans = PartPlans request;
  Means = PartMeans request;
}

abbrev pub part_job : PartRequest → Job
part_job request = staged_job (part_staged request)

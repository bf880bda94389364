-- `join`: its job, and what is said where it is done.
use Rattle.std.specs.Prelude.{◌≡◌, ◌≤◌, ℕ, List, [], ◌∷◌, ◌++◌, codes, length}
use Rattle.std.specs.Fmt.{decimal}
use Rattle.bl_base.specs.Quantity.{limit_of}
use Rattle.bl_base.specs.declared.quantity.Quantity.TheVariants as quantity
use Rattle.bl_base.specs.declared.names.Role.{Role}
use Rattle.bl_base.specs.declared.names.Role.TheVariants.{Client, Library}
use Rattle.bl_program.specs.Rules.{IsWellFormed}
use Rattle.bl_program.specs.Sites.{is_protected}
use Rattle.bl_program.specs.declared.definitions.ProgramParts.{ProgramParts as Program}
use Rattle.bl_iface.specs.JoinedProgram.{joined}
use Rattle.bl_format.specs.Image.{Image}
use Rattle.bl_outcome.specs.Lines.{line}
use Rattle.bl_transient.specs.Transient.{Passes}
use Rattle.bl_words.specs.Requests.{JoinRequest}
use Rattle.bl_app.specs.RunJob.{image_read}
use Rattle.bl_app.specs.PartJob.{interface_read}
use Rattle.bl_build.specs.BuildStages.{Built}
use Rattle.bl_build.specs.EntryStages.{IsImaged}
use Rattle.bl_build.specs.InterfaceStages.{IsFileOf}
use Rattle.bl_build.specs.JoinStages.{BothPass, ClientFails, LibraryFails, ClientPasses, Sides, Union, fails, joining, whole}
use Rattle.bl_job.specs.Jobs.{Job, Plan, saying}
use Rattle.bl_job.specs.StagedJobs.{Reading, Staged, all_read, contents_stage, file, others, staged_job}
use Rattle.bl_job.specs.declared.status.Status.TheVariants.{Done, No}

-- ---- the command

abbrev pub role_text : Role → List ℕ
role_text Client = codes "client"
role_text Library = codes "library"

-- the one that doesn't pass, and the position that tells why
abbrev pub fails_text : Role → ℕ → List ℕ
fails_text role position = line (role_text role ++ codes " no " ++ decimal position)

-- how many functions and commands the joined program has
abbrev pub joined_text : Program → List ℕ
joined_text program = line (codes "joined functions " ++ decimal (length program.functions) ++ codes " commands " ++ decimal (length program.commands))

-- printing which one doesn't pass; or keeping the image of the joined program, and printing its size
abbrev pub join_plan : JoinRequest → Union → Plan
join_plan request (fails role position) = saying No (fails_text role position)
join_plan request (whole built) = record {
  status = Done;
  keeps = (request.image, built.image) ∷ [];
  text = joined_text built.program;
}

abbrev pub JoinPlans : JoinRequest → Union → Plan → Type 0
JoinPlans request union plan = plan ≡ join_plan request union

-- ---- what is said

-- the program is the one that the client and the library are joined to; it is well-formed, and passes with its own marks; the image is its own, and
-- short enough
pub record AreJoined (sides : Sides) (built : Built) : Type 0 where
  pub both : BothPass sides
  pub is_program : built.program ≡ joined sides.client sides.library sides.iface
  pub rules : IsWellFormed built.program
  pub passes : Passes built.program (is_protected built.program)
  pub image : Image built.program built.image
  pub short : length built.image ≤ limit_of quantity.Image

-- the client doesn't pass on its side of the interface, or else the library doesn't; or they are joined
abbrev pub JoinSays : Sides → Union → Type 0
JoinSays sides (fails Client position) = ClientFails sides position
JoinSays sides (fails Library position) = ClientPasses sides × LibraryFails sides position
JoinSays sides (whole built) = AreJoined sides built

-- the contents are those of an interface file, of the client's image and of the library's
pub record JoinMeans (contents : List (List ℕ)) (union : Union) (plan : Plan) : Type 0 where
  pub bytes : List ℕ
  pub client : List ℕ
  pub library : List ℕ
  pub are : contents ≡ bytes ∷ client ∷ library ∷ []
  pub sides : Sides
  pub is_file : IsFileOf bytes sides.iface
  pub is_client : IsImaged client sides.client
  pub is_library : IsImaged library sides.library
  pub says : JoinSays sides union

-- what comes of the images of a client and of a library, by the bytes of an interface file
abbrev pub both_images : List ℕ → Reading Union
both_images iface = file (λ client. file (λ library. all_read (joining iface library) client))

-- an interface file and the images of a client and of a library are read; the image of what they are joined to is kept, or it is printed which
-- one doesn't pass
abbrev pub join_staged : JoinRequest → Staged Union
join_staged request = record {
  reads = interface_read request.iface ∷ image_read request.client ∷ image_read request.library ∷ [];
  keeps = request.image ∷ [];
  reading = file (λ iface. others (contents_stage (both_images iface)) (λ contents. contents));
  Plans = JoinPlans request;
  Means = JoinMeans;
}

abbrev pub join_job : JoinRequest → Job
join_job request = staged_job (join_staged request)

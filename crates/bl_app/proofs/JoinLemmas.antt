-- The command `join` keeps the laws; what is said where it is done.
use Rattle.std.proofs.Common.{◌≡◌, ℕ, List, [], ◌∷◌, refl, ap, sym, ◌∙◌, subst, arith, inl, inr}
use Rattle.bl_program.specs.Programs.{IsProgram}
use Rattle.bl_program.specs.Rules.{IsWellFormed}
use Rattle.bl_program.specs.Sites.{is_protected}
use Rattle.bl_program.specs.declared.definitions.ProgramParts.{ProgramParts as Program}
use Rattle.bl_iface.specs.JoinedProgram.{CanJoin, joined}
use Rattle.bl_iface.specs.InterfaceFunctions.{Matches}
use Rattle.bl_iface.specs.declared.iface.Iface.{Iface}
use Rattle.bl_iface.proofs.JoinedTyping.{joined_flows, joint}
use Rattle.bl_iface.proofs.JoinedWellFormed.{joined_well}
use Rattle.bl_format.specs.Image.{Image}
use Rattle.bl_transient.specs.Transient.{Passes}
use Rattle.bl_words.specs.Requests.{JoinRequest}
use Rattle.bl_build.specs.BuildStages.{Built, IsSized}
use Rattle.bl_build.specs.EntryStages.{IsImaged}
use Rattle.bl_build.specs.JoinStages.{BothPass, Pair, Sides, Union, Unites, are_joined, client_fails, fails, joining, library_fails, pair_of, sides_of, whole}
use Rattle.bl_build.proofs.InterfaceLemmas.{joining_lawful}
use Rattle.bl_build.proofs.InterfaceTotal.{joining_total}
use Rattle.bl_job.specs.Jobs.{AreThere, KeepsNamed, Plan, Read}
use Rattle.bl_job.specs.Refusals.{Refusal}
use Rattle.bl_job.specs.StagedJobs.{ReadPasses, ReadRefuses, contents_stage}
use Rattle.bl_job.specs.Stages.{IsLawfulStage}
use Rattle.bl_job.specs.Status.{kind_of, of_deed}
use Rattle.bl_job.proofs.StagedJobLemmas.{Answers, IsStagedCommand, read_result}
use Rattle.bl_app.specs.RunJob.{image_read}
use Rattle.bl_app.specs.JoinJob.{AreJoined, JoinMeans, JoinSays, both_images, join_plan, join_staged}

-- ---- what is meant

module _ (sides : Sides) (client : IsProgram sides.client) (client_well : IsWellFormed sides.client) (library : IsProgram sides.library) (library_well : IsWellFormed sides.library)
    (matches : Matches sides.client sides.iface) where
  abbrev whole_of : Program
  whole_of = joined sides.client sides.library sides.iface

  pass : CanJoin sides.client sides.library sides.iface → BothPass sides → Passes whole_of (is_protected whole_of)
  pass can both = (
    joint sides.client sides.library both.client.0 both.library.0,
    joined_flows sides.client sides.library sides.iface client client_well library library_well can matches both.client.0 both.library.0 both.client.1 both.library.1,
  )

  joined_so : (built : Built) → BothPass sides → CanJoin sides.client sides.library sides.iface → IsSized whole_of built → AreJoined sides built
  joined_so built both can sized = record {
    both = both;
    is_program = sized.is_program;
    rules = subst IsWellFormed (sym sized.is_program) (joined_well sides.client sides.library sides.iface client library client_well library_well can);
    passes = subst (λ p. Passes p (is_protected p)) (sym sized.is_program) (pass can both);
    image = subst (λ p. Image p built.image) (sym sized.is_program) sized.image;
    short = sized.short;
  }

  say : (union : Union) → Unites sides union → JoinSays sides union
  say union (client_fails position h) = h
  say union (library_fails position passes h) = (passes, h)
  say union (are_joined built both can sized) = joined_so built both can sized

join_means : (bytes client library : List ℕ) (union : Union) → (joining bytes library).Passes client union → (plan : Plan)
    → JoinMeans (bytes ∷ client ∷ library ∷ []) union plan
join_means bytes client library union passes plan =
    let pair : Pair = passes.0 in
    let ours : Program = passes.1.0 in
    let theirs : Program = passes.1.2.0 in
    let is_client : IsImaged client ours = passes.1.1 in
    let is_library : IsImaged library theirs = passes.1.2.1 in
    let is_pair : pair ≡ pair_of ours theirs = passes.1.2.2 in
    let rest = passes.2 in
    let iface : Iface = rest.1.0 in
    let found : Sides = rest.0 in
    let sides : Sides = sides_of (pair_of ours theirs) iface in
    let is_found : found ≡ sides = rest.1.2 ∙ ap (λ p. sides_of p iface) is_pair in
    let matched = rest.2 in
    let same : matched.2.0 ≡ sides = matched.2.1.0 ∙ matched.1.2.2 ∙ matched.1.1.2 ∙ is_found in
    let matches : Matches ours iface = subst (λ (s : Sides). Matches s.client s.iface) is_found matched.1.1.1.1 in
    record {
      bytes = bytes;
      client = client;
      library = library;
      are = refl;
      sides = sides;
      is_file = rest.1.1;
      is_client = is_client;
      is_library = is_library;
      says = say sides is_client.image.is_program is_client.rules is_library.image.is_program is_library.rules matches union
          (subst (λ s. Unites s union) same matched.2.2);
    }

-- ---- the images of both

abbrev reads_both : JoinRequest → List Read
reads_both request = image_read request.client ∷ image_read request.library ∷ []

module _ (iface : List ℕ) where
  one_union : (contents : List (List ℕ)) (a b : Union) → ReadPasses (both_images iface) contents a → ReadPasses (both_images iface) contents b → a ≡ b
  one_union = read_result (both_images iface) (λ client library. joining_lawful iface library)

  one_refused : (contents : List (List ℕ)) (r s : Refusal) → ReadRefuses (both_images iface) contents r → ReadRefuses (both_images iface) contents s → r ≡ s
  one_refused [] r s h k = absurd h
  one_refused (client ∷ []) r s h k = absurd h
  one_refused (client ∷ library ∷ []) r s h k = (joining_lawful iface library).one_refusal client r s h k
  one_refused (client ∷ library ∷ more ∷ contents) r s h k = absurd h

  not_both : (contents : List (List ℕ)) (a : Union) (r : Refusal) → ReadPasses (both_images iface) contents a → ReadRefuses (both_images iface) contents r → ⊥
  not_both [] a r p h = h
  not_both (client ∷ []) a r p h = h
  not_both (client ∷ library ∷ []) a r p h = (joining_lawful iface library).not_both client a r p h
  not_both (client ∷ library ∷ more ∷ contents) a r p h = h

  both_lawful : IsLawfulStage (contents_stage (both_images iface))
  both_lawful = record { one_result = one_union; one_refusal = one_refused; not_both = not_both }

  both_total : (request : JoinRequest) (contents : List (List ℕ)) → AreThere (reads_both request) contents → Answers (contents_stage (both_images iface)) contents
  both_total request [] there = absurd there.read
  both_total request (client ∷ []) there = absurd there.read.1
  both_total request (client ∷ library ∷ []) there = (joining_total iface library there.read.1.0.short).always client there.read.0.short
  both_total request (client ∷ library ∷ more ∷ contents) there = absurd there.read.1.1

  both_mean : (contents : List (List ℕ)) (union : Union) → ReadPasses (both_images iface) contents union → (plan : Plan) → JoinMeans (iface ∷ contents) union plan
  both_mean [] union passes plan = absurd passes
  both_mean (client ∷ []) union passes plan = absurd passes
  both_mean (client ∷ library ∷ []) union passes plan = join_means iface client library union passes plan
  both_mean (client ∷ library ∷ more ∷ contents) union passes plan = absurd passes

-- ---- the command

deed_of_join : (request : JoinRequest) (union : Union) → kind_of (join_plan request union).status ≡ of_deed
deed_of_join request (fails role position) = refl
deed_of_join request (whole built) = refl

join_keeps : (request : JoinRequest) (union : Union) → KeepsNamed (request.image ∷ []) (join_plan request union).keeps
join_keeps request (fails role position) = inr refl
join_keeps request (whole built) = inl refl

pub join_staged_is : (request : JoinRequest) → IsStagedCommand (Unit {0}) (join_staged request)
join_staged_is request = record {
  small = (omega arith, (omega arith, (omega arith, tt)));
  lawful = both_lawful;
  total = λ given iface. both_total iface request;
  one_status = λ union p q d e. ap (λ plan. plan.status) (d ∙ sym e);
  status_of_deed = λ union plan d. ap (λ p. kind_of p.status) d ∙ deed_of_join request union;
  keeps_named = λ union plan d. subst (λ p. KeepsNamed (request.image ∷ []) p.keeps) (sym d) (join_keeps request union);
  means = λ iface contents union passes plan d. both_mean iface contents union passes plan;
  planned = λ iface contents union passes none. none _ refl;
}

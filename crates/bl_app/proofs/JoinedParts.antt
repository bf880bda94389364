-- What is joined of two parts is the program of the joined tree, but for marks and weights.
use Rattle.std.proofs.Common.{◌≡◌, ℕ, List, [], ◌∷◌, Bool, Some, sym, ap, ◌∙◌, subst, drop, get_or}
use Rattle.std.specs.Prelude.{IsSomeAnd}
use Rattle.std.specs.List.{All}
use Rattle.bl_base.proofs.Lists.{all_from, all_get}
use Rattle.bl_base.proofs.OptionLemmas.{some_with}
use Rattle.bl_wasm.specs.Exports.{value_named}
use Rattle.bl_wasm.specs.Linked.{IsLinked}
use Rattle.bl_wasm.specs.declared.linked.Tree.{Tree}
use Rattle.bl_reduce.specs.Runnable.{IsRunnable}
use Rattle.bl_program.specs.declared.definitions.ProgramParts.{ProgramParts as Program}
use Rattle.bl_cut.specs.Marks.{protected}
use Rattle.bl_counts.specs.RunCounts.{bare}
use Rattle.bl_counts.proofs.BarePrograms.{bare_protected}
use Rattle.bl_format.specs.Image.{Image}
use Rattle.bl_image.proofs.Prefixes.{one_program}
use Rattle.bl_lower.specs.Trees.{low_tree}
use Rattle.bl_iface.specs.InterfaceFunctions.{Fits, IsMatched, Matches}
use Rattle.bl_iface.specs.JoinedProgram.{CanJoin, exported, joined}
use Rattle.bl_iface.specs.declared.iface.FnIface.{FnIface}
use Rattle.bl_iface.specs.declared.iface.Iface.{Iface}
use Rattle.bl_whole.specs.JoinedTree.{joined_tree}
use Rattle.bl_whole.proofs.JoinedPlaces.{exported_same}
use Rattle.bl_whole.proofs.JoinedRuns.{alike, is_linked}
use Rattle.bl_words.specs.Requests.{JoinRequest, PartRequest}
use Rattle.bl_job.specs.Jobs.{Plan}
use Rattle.bl_job.specs.StagedJobs.{Makes, contents_stage}
use Rattle.bl_job.specs.declared.status.Status.TheVariants.{Done, No}
use Rattle.bl_build.specs.BuildStages.{AreCompiled, Built}
use Rattle.bl_build.specs.EntryStages.{IsImaged}
use Rattle.bl_build.specs.InterfaceStages.{IsFileOf, Parted}
use Rattle.bl_build.specs.JoinStages.{Pair, Sides, Union, Unites, are_joined, client_fails, fails, joining, library_fails, pair_of, sides_of, whole}
use Rattle.bl_build.proofs.InterfaceLemmas.{reading_lawful}
use Rattle.bl_app.specs.JoinJob.{JoinPlans, join_job, join_plan, join_staged}
use Rattle.bl_app.specs.JoinedModules.{File, Keeps}
use Rattle.bl_app.specs.PartJob.{PartMeans, PartPlans, part_job, part_staged}
use Rattle.bl_app.proofs.JoinedUsers.{AreBoth}
use Rattle.bl_app.proofs.PartLemmas.{part_means}

-- ---- a part

-- an image is that of the program of modules with some protects
pub record IsPart (words contents : List (List ℕ)) (image : List ℕ) : Type 0 where
  pub built : Built
  pub compiled : AreCompiled words contents built
  pub set : ℕ → Bool
  pub is_image : Image (protected set built.program) image

-- the bytes of the one file that is kept
only : (one other : List ℕ) (name bytes : List ℕ) → ◌≡◌ {A = List (List ℕ × List ℕ)} ((one, other) ∷ []) ((name, bytes) ∷ []) → other ≡ bytes
only one other name bytes e = ap (λ (l : List (List ℕ × List ℕ)). (get_or l 0 ([], [])).1) e

pub is_part : (request : PartRequest) (iface : List ℕ) (contents : List (List ℕ)) (file : File) → Keeps (part_job request) (iface ∷ contents) file → IsPart request.modules contents file.bytes
is_part request iface contents file kept =
    let does : Makes (contents_stage (part_staged request).reading) (PartPlans request) (iface ∷ contents) kept.plan = kept.does in
    let parted : Parted = does.made in
    let means : PartMeans request (iface ∷ contents) parted kept.plan = part_means request iface contents parted does.passes kept.plan in
    let same : means.modules ≡ contents = ap (λ (l : List (List ℕ)). drop 1 l) (sym means.are) in
    let image_is : parted.image ≡ file.bytes = only request.image parted.image file.word file.bytes (sym (ap (λ (p : Plan). p.keeps) does.plans) ∙ kept.kept) in
    record {
      built = means.built;
      compiled = subst (λ (modules : List (List ℕ)). AreCompiled request.modules modules means.built) same means.compiled;
      set = means.set;
      is_image = subst (λ (bytes : List ℕ). Image (protected means.set means.built.program) bytes) image_is (subst (λ (p : Program). Image p parted.image) means.is_program means.image);
    }

-- ---- what is joined

pub record IsJoin (iface client library image : List ℕ) : Type 0 where
  pub built : Built
  pub passes : (joining iface library).Passes client (whole built)
  pub image_is : built.image ≡ image

from_plan : (request : JoinRequest) (iface client library : List ℕ) (file : File) (union : Union) (plan : Plan) → (joining iface library).Passes client union → plan ≡ join_plan request union
    → plan.status ≡ Done → plan.keeps ≡ (file.word, file.bytes) ∷ [] → IsJoin iface client library file.bytes
from_plan request iface client library file (fails role position) plan passes is done kept = let clash : No ≡ Done = sym (ap (λ (p : Plan). p.status) is) ∙ done in absurd (cc clash)
from_plan request iface client library file (whole built) plan passes is done kept = record {
  built = built;
  passes = passes;
  image_is = only request.image built.image file.word file.bytes (sym (ap (λ (p : Plan). p.keeps) is) ∙ kept);
}

pub is_join : (request : JoinRequest) (iface client library : List ℕ) (file : File) → Keeps (join_job request) (iface ∷ client ∷ library ∷ []) file → IsJoin iface client library file.bytes
is_join request iface client library file kept =
    let does : Makes (contents_stage (join_staged request).reading) (JoinPlans request) (iface ∷ client ∷ library ∷ []) kept.plan = kept.does in
    from_plan request iface client library file does.made kept.plan does.passes does.plans kept.status kept.kept

record AreJoined (sides : Sides) (built : Built) : Type 0 where
  can : CanJoin sides.client sides.library sides.iface
  is_program : built.program ≡ joined sides.client sides.library sides.iface
  is_image : Image (joined sides.client sides.library sides.iface) built.image

abbrev Says : Sides → Union → Type 0
Says sides (fails role position) = Unit {0}
Says sides (whole built) = AreJoined sides built

says : (sides : Sides) (union : Union) → Unites sides union → Says sides union
says sides union (client_fails position h) = tt
says sides union (library_fails position passes h) = tt
says sides union (are_joined built both can sized) = record { can = can; is_program = sized.is_program; is_image = sized.image }

-- ---- the tree of both

-- a program that is a tree's, but for marks and weights, exports what the tree does
found_in : (tree : Tree) (program : Program) (name : List ℕ) (P : ℕ → Type 0) → bare program ≡ bare (low_tree tree) → IsSomeAnd (exported program.exports name) P
    → (function : ℕ) × (value_named name tree.exports ≡ Some function)
found_in tree program name P is h =
    let found = some_with (exported program.exports name) P h in
    (found.0, sym (exported_same tree.exports name) ∙ sym (ap (λ (p : Program). exported p.exports name) is) ∙ found.1)

-- the program is that of the joined tree, which can be run, and both trees export the functions of the interface
pub record IsWhole (client library : Tree) (iface : Iface) (program : Program) : Type 0 where
  pub can_run : IsRunnable (joined_tree client library iface)
  pub same : bare program ≡ bare (low_tree (joined_tree client library iface))
  pub both : All (λ (one : FnIface). AreBoth client library one.name) iface.functions

module _ (client library : Tree) (linked : IsLinked client) (others : IsLinked library) (ours theirs : Program) (iface : Iface) (is_ours : bare ours ≡ bare (low_tree client))
    (is_theirs : bare theirs ≡ bare (low_tree library)) where
  matched : Matches ours iface → Matches theirs iface → All (λ (one : FnIface). AreBoth client library one.name) iface.functions
  matched first second = all_from (λ (one : FnIface). AreBoth client library one.name) iface.functions (λ i one e.
      let here = found_in client ours one.name (Fits ours one) is_ours (all_get (IsMatched ours) iface.functions i one first e) in
      let there = found_in library theirs one.name (Fits theirs one) is_theirs (all_get (IsMatched theirs) iface.functions i one second e) in
      record { function = here.0; callee = there.0; here = here.1; there = there.1 })

  is_whole : (program : Program) → Matches ours iface → Matches theirs iface → CanJoin ours theirs iface → program ≡ joined ours theirs iface → IsWhole client library iface program
  is_whole program first second can is = record {
    can_run = is_linked client library ours theirs iface linked others is_ours is_theirs can;
    same = ap bare is ∙ alike client library ours theirs iface linked others is_ours is_theirs can;
    both = matched first second;
  }

pub parts_joined : (words contents other_words other_contents : List (List ℕ)) (one : List ℕ) (other : List ℕ) (bytes image : List ℕ) (iface : Iface) (own : Program)
    → (c : IsPart words contents one) → (l : IsPart other_words other_contents other) → IsJoin bytes one other image → IsFileOf bytes iface → Image own image
    → IsWhole c.compiled.tree l.compiled.tree iface own
parts_joined words contents other_words other_contents one other bytes image iface own c l join file is_own =
    let passes = join.passes in
    let ours : Program = passes.1.0 in
    let theirs : Program = passes.1.2.0 in
    let is_client : IsImaged one ours = passes.1.1 in
    let is_library : IsImaged other theirs = passes.1.2.1 in
    let rest = passes.2 in
    let sides : Sides = sides_of (pair_of ours theirs) iface in
    let is_found : rest.0 ≡ sides = rest.1.2 ∙ ap (λ (p : Pair). sides_of p rest.1.0) passes.1.2.2 ∙ ap (λ (i : Iface). sides_of (pair_of ours theirs) i) (reading_lawful.one_result bytes rest.1.0 iface rest.1.1 file) in
    let both = rest.2 in
    let again : both.1.0 ≡ sides = both.1.1.2 ∙ is_found in
    let same : both.2.0 ≡ sides = both.2.1.0 ∙ both.1.2.2 ∙ again in
    let said : AreJoined sides join.built = subst (λ (s : Sides). Says s (whole join.built)) same (says both.2.0 (whole join.built) both.2.2) in
    let first : Matches ours iface = subst (λ (s : Sides). Matches s.client s.iface) is_found both.1.1.1.1 in
    let second : Matches theirs iface = subst (λ (s : Sides). Matches s.library s.iface) again both.1.2.1.1 in
    let is_ours : bare ours ≡ bare (low_tree c.compiled.tree) =
    ap bare (one_program ours (protected c.set c.built.program) one is_client.image c.is_image) ∙ bare_protected c.set c.built.program ∙ ap bare c.compiled.builds.is_program in
    let is_theirs : bare theirs ≡ bare (low_tree l.compiled.tree) =
    ap bare (one_program theirs (protected l.set l.built.program) other is_library.image l.is_image) ∙ bare_protected l.set l.built.program ∙ ap bare l.compiled.builds.is_program in
    let own_is : own ≡ joined ours theirs iface = one_program own (joined ours theirs iface) image is_own (subst (λ (b : List ℕ). Image (joined ours theirs iface) b) join.image_is said.is_image) in
    is_whole c.compiled.tree l.compiled.tree c.compiled.linked l.compiled.linked ours theirs iface is_ours is_theirs own first second said.can own_is

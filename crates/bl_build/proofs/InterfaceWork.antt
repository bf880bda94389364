-- What the functions of the work by interfaces answer.
use Rattle.std.proofs.Common.{◌≡◌, ℕ, Bool, List, refl, sym, ap, ◌∙◌, subst}
use Rattle.std.specs.Prelude.{Result, Ok, Err}
use Rattle.std.specs.List.{All}
use Rattle.bl_base.specs.declared.names.Role.{Role}
use Rattle.bl_text.specs.Lines.{lines_of}
use Rattle.bl_program.specs.Sites.{is_protected, weight_of}
use Rattle.bl_program.specs.declared.definitions.ProgramParts.{ProgramParts as Program}
use Rattle.bl_graph.specs.Ranges.{AreSites}
use Rattle.bl_cut.specs.Marks.{protected}
use Rattle.bl_cut.proofs.MarkedPrograms.{marks_are, weighs}
use Rattle.bl_iface.specs.Answers.{JoinAnswers}
use Rattle.bl_iface.specs.Files.{IsIface}
use Rattle.bl_iface.specs.JoinedProgram.{HasSameTypes}
use Rattle.bl_iface.specs.InterfaceFunctions.{IsTargetsError, Matches}
use Rattle.bl_iface.specs.RoleTests.{IsUnderError, asked}
use Rattle.bl_iface.specs.declared.choice.UnderError.{UnderError}
use Rattle.bl_iface.specs.declared.choice.UnderError.TheVariants as under
use Rattle.bl_iface.specs.declared.error.IfaceError.{IfaceError}
use Rattle.bl_iface.specs.declared.error.IfaceError.TheVariants as interface
use Rattle.bl_iface.specs.declared.error.JoinError.{JoinError}
use Rattle.bl_iface.specs.declared.error.JoinError.TheVariants as join
use Rattle.bl_iface.specs.declared.error.TargetsError.{TargetsError}
use Rattle.bl_iface.specs.declared.error.TargetsError.TheVariants as targets
use Rattle.bl_iface.specs.declared.iface.Iface.{Iface}
use Rattle.bl_iface.proofs.OneAnswer.{none_of_all}
use Rattle.bl_build.specs.BuildStages.{Built, compiling, sizing}
use Rattle.bl_build.specs.EntryStages.{imaging}
use Rattle.bl_build.specs.InterfaceStages.{HasBadLine, IsFileOf, IsGivenToSink, IsUnmatched, Side, choosing, interfacing, matching, parting, reading, side_of, siding}
use Rattle.bl_build.specs.JoinStages.{BothPass, Sides, Unites, UnitingRefuses, are_joined, client_side, export_taken, interfacing_both, joining, library_side, matching_both, pair_joining, pair_of, pairing, taken_export, too_large, too_long, typing, uniting, with_library}
use Rattle.bl_build.specs.LoadStages.{Part}
use Rattle.bl_build.specs.StageAnswers.{IsWhole, refusal_of_interface, parted_in, sides_in, refusal_of_targets, refusal_of_choice, union_in}
use Rattle.bl_build.specs.declared.join.Union.{Union as UnionMade}
use Rattle.bl_build.specs.declared.part.Parted.{Parted as PartedMade}
use Rattle.bl_job.specs.Refusals.{Refusal, limit}
use Rattle.bl_job.specs.Stages.{Stage, ThenRefuses, at_first, at_second, beside, chain}
use Rattle.bl_job.specs.WorkAnswers.{IsStaged, IsTold, Tells}
use Rattle.bl_job.specs.declared.refusal.WorkError.{WorkError}
use Rattle.bl_job.proofs.StageLemmas.{tells_on, told_as, told_memory}
use Rattle.bl_build.proofs.BuildLemmas.{staged_behind}

-- ---- why work is refused

pub not_read : (bytes : List ℕ) (e : IfaceError) → IsIface (lines_of bytes) (Err e) → (w : WorkError) → IsTold (refusal_of_interface e) w → IsStaged reading (λ (iface : Iface). iface) bytes (Err w)
not_read bytes (interface.Line number) first = told_as _ (HasBadLine bytes) (record { number = number; first = first; is_refusal = refl })
not_read bytes interface.Memory none = told_memory (HasBadLine bytes)

pub not_matched : (side : Side) (e : TargetsError) → IsTargetsError side.program side.iface e → (w : WorkError) → IsTold (refusal_of_targets e) w → Tells (IsUnmatched side.program side.iface) w
not_matched side (targets.Unmatched index) first = told_as _ (IsUnmatched side.program side.iface) (record { index = index; first = first; is_refusal = refl })
not_matched side targets.Memory none = told_memory (IsUnmatched side.program side.iface)

pub not_chosen : (role : Role) (side : Side) (e : UnderError) → IsUnderError (asked role side.iface side.program) side.program e → (w : WorkError) → IsTold (refusal_of_choice e) w → Tells (IsGivenToSink role side) w
not_chosen role side (under.Sink position) first = told_as _ (IsGivenToSink role side) (record { position = position.0; first = first; is_refusal = refl })
not_chosen role side under.Memory none = told_memory (IsGivenToSink role side)

-- ---- one side of an interface

-- what a stage makes of a part of a value is what is made beside the value, where nothing is joined to it
module _ {A B C X : Type 0} (part : C → A) (stage : Stage A B) (f : X → B) (c : C) where
  pub staged_beside : (result : Result X WorkError) → IsStaged stage f (part c) result → IsStaged (beside part stage (λ c b. b)) f c result
  staged_beside (Ok x) h = (f x, h, refl)
  staged_beside (Err e) h = h

module _ (role : Role) (bytes : List ℕ) (program : Program) (iface : Iface) (file : IsFileOf bytes iface) where
  pub sided : (result : Result PartedMade WorkError) → Matches program iface → IsStaged (choosing role) parted_in (side_of program iface) result → IsStaged (siding role bytes) parted_in program result
  sided result matches h =
      staged_behind (interfacing bytes) (chain matching (choosing role)) parted_in program (side_of program iface) result (iface, file, refl)
      (staged_behind matching (choosing role) parted_in (side_of program iface) (side_of program iface) result (refl, matches) h)

  pub not_sided : (e : WorkError) → Tells (IsUnmatched program iface) e → Tells ((siding role bytes).Refuses program) e
  not_sided e h =
      staged_behind (interfacing bytes) (chain matching (choosing role)) parted_in program (side_of program iface) (Err e) (iface, file, refl)
      (tells_on (IsUnmatched program iface) ((chain matching (choosing role)).Refuses (side_of program iface)) (λ refusal r. at_first r) e h)

-- what is made on a side of the program that modules are compiled to is what parting makes of them
pub parted : (role : Role) (bytes : List ℕ) (parts : List Part) (built : Built) (program : Program) (result : Result PartedMade WorkError) → compiling.Passes parts built → program ≡ built.program
    → IsStaged (siding role bytes) parted_in program result → IsStaged (parting role bytes) parted_in parts result
parted role bytes parts built program result compiled same h =
    staged_behind compiling (beside (λ (one : Built). one.program) (siding role bytes) (λ one parted. parted)) parted_in parts built result compiled
    (staged_beside (λ (one : Built). one.program) (siding role bytes) parted_in built result (subst (λ p. IsStaged (siding role bytes) parted_in p result) same h))

-- what a set weighs is what the protects of the program with that set weigh
pub marked_weight : (set : ℕ → Bool) (bare : Program) → AreSites bare set → weight_of (protected set bare) (is_protected (protected set bare)) ≡ weight_of bare set
marked_weight set bare sites = ap (weight_of (protected set bare)) (λ i s. marks_are set bare sites s i) ∙ weighs set bare set

-- ---- two programs

module _ (bytes client_bytes library_bytes : List ℕ) where
  pub client_refused : (e : WorkError) → Tells (imaging.Refuses client_bytes) e → Tells ((joining bytes library_bytes).Refuses client_bytes) e
  client_refused = tells_on (imaging.Refuses client_bytes) ((joining bytes library_bytes).Refuses client_bytes) (λ refusal r. at_first (at_first r))

  module _ (client : Program) (imaged : imaging.Passes client_bytes client) where
    refused_later : (refusal : Refusal) → ThenRefuses (with_library library_bytes) (pair_joining bytes) client refusal → ThenRefuses (pairing library_bytes) (pair_joining bytes) client_bytes refusal
    refused_later refusal (at_first r) = at_first (at_second client imaged r)
    refused_later refusal (at_second pair p r) = at_second pair (client, imaged, p) r

    pub client_joined : (result : Result UnionMade WorkError) → IsStaged (chain (with_library library_bytes) (pair_joining bytes)) union_in client result
        → IsStaged (joining bytes library_bytes) union_in client_bytes result
    client_joined (Ok made) h = (h.0, (client, imaged, h.1), h.2)
    client_joined (Err e) h =
        tells_on (ThenRefuses (with_library library_bytes) (pair_joining bytes) client) (ThenRefuses (pairing library_bytes) (pair_joining bytes) client_bytes) refused_later e h

module _ (bytes library_bytes : List ℕ) (client : Program) where
  pub library_refused : (e : WorkError) → Tells (imaging.Refuses library_bytes) e → Tells ((chain (with_library library_bytes) (pair_joining bytes)).Refuses client) e
  library_refused = tells_on (imaging.Refuses library_bytes) ((chain (with_library library_bytes) (pair_joining bytes)).Refuses client) (λ refusal r. at_first r)

  pub library_joined : (library : Program) (result : Result UnionMade WorkError) → imaging.Passes library_bytes library → IsStaged (pair_joining bytes) union_in (pair_of client library) result
      → IsStaged (chain (with_library library_bytes) (pair_joining bytes)) union_in client result
  library_joined library result imaged h = staged_behind (with_library library_bytes) (pair_joining bytes) union_in client (pair_of client library) result (library, imaged, refl) h

module _ (bytes : List ℕ) (client library : Program) where
  pub file_refused : (e : WorkError) → Tells (reading.Refuses bytes) e → Tells ((pair_joining bytes).Refuses (pair_of client library)) e
  file_refused = tells_on (reading.Refuses bytes) ((pair_joining bytes).Refuses (pair_of client library)) (λ refusal r. at_first r)

  pub pair_joined : (iface : Iface) (result : Result UnionMade WorkError) → IsFileOf bytes iface
      → IsStaged (chain matching_both (chain typing uniting)) union_in (sides_in client library iface) result → IsStaged (pair_joining bytes) union_in (pair_of client library) result
  pair_joined iface result file h =
      staged_behind (interfacing_both bytes) (chain matching_both (chain typing uniting)) union_in (pair_of client library) (sides_in client library iface) result (iface, file, refl) h

module _ (sides : Sides) where
  pub client_unmatched : (e : WorkError) → Tells (IsUnmatched sides.client sides.iface) e → Tells (matching_both.Refuses sides) e
  client_unmatched = tells_on (IsUnmatched sides.client sides.iface) (matching_both.Refuses sides) (λ refusal r. at_first r)

  pub matched_both : {X : Type 0} → (result : Result X WorkError) → Matches sides.client sides.iface → IsStaged matching (λ _. library_side sides) (library_side sides) result
      → IsStaged matching_both (λ _. sides) sides result
  matched_both (Ok x) first h = (sides, (client_side sides, (refl, first), refl), (library_side sides, h, refl))
  matched_both (Err e) first h =
      tells_on (IsUnmatched sides.library sides.iface) (matching_both.Refuses sides) (λ refusal r. at_second sides (client_side sides, (refl, first), refl) r) e h

  pub client_matches : matching_both.Passes sides sides → Matches sides.client sides.iface
  client_matches p = p.1.1.1

  pub library_matches : matching_both.Passes sides sides → Matches sides.library sides.iface
  library_matches p = subst (λ (s : Sides). Matches s.library s.iface) p.1.2 p.2.1.1

  pub match_refused : (e : WorkError) → Tells (matching_both.Refuses sides) e → Tells ((chain matching_both (chain typing uniting)).Refuses sides) e
  match_refused = tells_on (matching_both.Refuses sides) ((chain matching_both (chain typing uniting)).Refuses sides) (λ refusal r. at_first r)

  pub sides_joined : (result : Result UnionMade WorkError) → matching_both.Passes sides sides → IsStaged (chain typing uniting) union_in sides result
      → IsStaged (chain matching_both (chain typing uniting)) union_in sides result
  sides_joined result matched h = staged_behind matching_both (chain typing uniting) union_in sides sides result matched h

  pub typed : (result : Result UnionMade WorkError) → All (HasSameTypes sides.client sides.library) sides.iface.functions → IsStaged uniting union_in sides result
      → IsStaged (chain typing uniting) union_in sides result
  typed result types h = staged_behind typing uniting union_in sides sides result (refl, types) h

module _ (sides : Sides) (both : BothPass sides) (types : All (HasSameTypes sides.client sides.library) sides.iface.functions) where
  pub united : (joined : Result Program JoinError) (result : Result UnionMade WorkError) → JoinAnswers sides.client sides.library sides.iface joined → IsWhole joined result
      → IsStaged uniting union_in sides result
  united (Ok program) (Ok made) answers whole =
      subst (Unites sides) (sym whole.2) (are_joined whole.0 both answers.0 (subst (λ p. sizing.Passes p whole.0) answers.1 whole.1))
  united (Ok program) (Err e) answers long =
      tells_on (sizing.Refuses program) (UnitingRefuses sides) (λ refusal r. too_long both answers.0 (subst (λ p. sizing.Refuses p refusal) answers.1 r)) e long
  united (Err error) (Ok made) answers none = absurd none
  united (Err (join.Types index)) (Err e) stands told = absurd (none_of_all (HasSameTypes sides.client sides.library) sides.iface.functions index stands types)
  united (Err (join.Export index)) (Err e) stands told = told_as (taken_export index) (UnitingRefuses sides) (export_taken index both stands refl) e told
  united (Err (join.Limit which value)) (Err e) stands told = told_as (limit which value) (UnitingRefuses sides) (too_large which value both stands refl) e told
  united (Err join.Memory) (Err e) stands told = told_memory (UnitingRefuses sides) e told

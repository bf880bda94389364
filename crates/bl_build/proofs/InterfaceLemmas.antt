-- Interfaces and what is made by them keep the laws of stages.
use Rattle.std.proofs.Common.{◌≡◌, ℕ, Bool, List, sym, ap, ◌∙◌, subst, arith}
use Rattle.std.specs.Prelude.{Ok, Err, Result}
use Rattle.std.proofs.Math.Path.{fun_ext}
use Rattle.bl_base.specs.declared.quantity.Quantity.{Quantity}
use Rattle.bl_base.specs.declared.names.Role.{Role}
use Rattle.bl_base.specs.declared.names.Role.TheVariants.{Client, Library}
use Rattle.bl_text.specs.Lines.{lines_of}
use Rattle.bl_program.specs.declared.definitions.ProgramParts.{ProgramParts as Program}
use Rattle.bl_program.specs.Sites.{is_protected}
use Rattle.bl_format.specs.Image.{Image}
use Rattle.bl_image.proofs.Prefixes.{one_image}
use Rattle.bl_transient.specs.Verdicts.{IsFirstBad}
use Rattle.bl_cut.specs.Marks.{protected}
use Rattle.bl_cut.proofs.LeastSites.{only_one}
use Rattle.bl_iface.specs.Answers.{StandsAgainst}
use Rattle.bl_iface.specs.Files.{IsIface}
use Rattle.bl_iface.specs.JoinedProgram.{CanJoin, HasSameTypes, IsNew, IsWithin, joined, kept, sums}
use Rattle.bl_iface.specs.InterfaceFunctions.{IsMatched}
use Rattle.bl_iface.specs.Roles.{PassesAs}
use Rattle.bl_iface.specs.RoleTests.{asked}
use Rattle.bl_iface.specs.declared.error.IfaceError.{IfaceError}
use Rattle.bl_iface.specs.declared.error.IfaceError.TheVariants.{Line, Memory as NoRoom}
use Rattle.bl_iface.specs.declared.error.JoinError.{JoinError}
use Rattle.bl_iface.specs.declared.error.JoinError.TheVariants.{Export, Limit}
use Rattle.bl_iface.specs.declared.iface.Iface.{Iface}
use Rattle.bl_iface.proofs.RoleTestLemmas.{bad_fails, under_from_as}
use Rattle.bl_iface.proofs.LeastChoice.{none_given}
use Rattle.bl_iface.proofs.OneAnswer.{first_one, limits_one, none_of_all}
use Rattle.bl_iface.proofs.OneFile.{one_file}
use Rattle.bl_iface.proofs.OneVerdict.{one_given}
use Rattle.bl_build.specs.BuildStages.{Built, compiling, sizing}
use Rattle.bl_build.specs.EntryStages.{imaging}
use Rattle.bl_build.specs.InterfaceStages.{HasBadLine, IsFileOf, IsGivenToSink, IsParted, Parted, Side, bad_interface_line, choosing, given_sink, interfacing, matching, reading, side_of, siding, unmatched_function, parting}
use Rattle.bl_build.specs.JoinStages.{Pair, Sides, Union, Unites, UnitingRefuses, are_joined, client_fails, client_side, export_taken, fails, interfacing_both, joining, library_fails, library_side, matching_both, other_types, pair_joining, pair_of, pairing, sides_of, taken_export, too_large, too_long, typing, uniting, whole, with_library}
use Rattle.bl_job.specs.Refusals.{Refusal, limit}
use Rattle.bl_job.specs.Stages.{IsLawfulStage, beside, chain}
use Rattle.bl_job.proofs.StageLemmas.{beside_lawful, chain_lawful}
use Rattle.bl_build.proofs.BuildLemmas.{compiling_lawful, sizing_lawful}
use Rattle.bl_build.proofs.EntryStageLemmas.{imaging_lawful}

-- ---- interface files

module _ (bytes : List ℕ) where
  one_answer : (a b : Result Iface IfaceError) → IsIface (lines_of bytes) a → IsIface (lines_of bytes) b → (a ≡ Err NoRoom → ⊥) → (b ≡ Err NoRoom → ⊥) → a ≡ b
  one_answer = one_file (lines_of bytes)

  file_once : (a b : Iface) → IsFileOf bytes a → IsFileOf bytes b → a ≡ b
  file_once a b p q = let same : Ok a ≡ Ok b = one_answer (Ok a) (Ok b) p q (λ e. cc) (λ e. cc) in cc

  line_once : (r s : Refusal) → HasBadLine bytes r → HasBadLine bytes s → r ≡ s
  line_once r s h k =
      let same : Err (Line h.number) ≡ Err (Line k.number) = one_answer (Err (Line h.number)) (Err (Line k.number)) h.first k.first (λ e. cc) (λ e. cc) in
      let number : h.number ≡ k.number = cc in
      h.is_refusal ∙ ap bad_interface_line number ∙ sym k.is_refusal

  no_bad_line : (a : Iface) (r : Refusal) → IsFileOf bytes a → HasBadLine bytes r → ⊥
  no_bad_line a r p h =
      let same : Ok a ≡ Err (Line h.number) = one_answer (Ok a) (Err (Line h.number)) p h.first (λ e. cc) (λ e. cc) in
      cc

pub reading_lawful : IsLawfulStage reading
reading_lawful = record { one_result = file_once; one_refusal = line_once; not_both = no_bad_line }

-- ---- functions of an interface

pub matching_lawful : IsLawfulStage matching
matching_lawful = record {
  one_result = λ side a b p q. p.0 ∙ sym q.0;
  one_refusal = λ side r s h k.
      h.is_refusal ∙ ap unmatched_function (first_one (IsMatched side.program) side.iface.functions h.index k.index h.first k.first) ∙ sym k.is_refusal;
  not_both = λ side same r p h. none_of_all (IsMatched side.program) side.iface.functions h.index h.first p.1;
}

pub typing_lawful : IsLawfulStage typing
typing_lawful = record {
  one_result = λ sides a b p q. p.0 ∙ sym q.0;
  one_refusal = λ sides r s h k.
      h.is_refusal ∙ ap other_types (first_one (HasSameTypes sides.client sides.library) sides.iface.functions h.index k.index h.first k.first) ∙ sym k.is_refusal;
  not_both = λ sides same r p h. none_of_all (HasSameTypes sides.client sides.library) sides.iface.functions h.index h.first p.1;
}

-- ---- one side of an interface

module _ (role : Role) (side : Side) where
  one_parted : (a b : Parted) → IsParted role side a → IsParted role side b → a ≡ b
  one_parted a b p q =
      let sets = fun_ext (λ s. only_one (asked role side.iface side.program) side.program p.range p.set q.set p.least q.least s) in
      let programs : a.program ≡ b.program = p.is_program ∙ ap (λ set. protected set side.program) sets ∙ sym q.is_program in
      let images = one_image b.program a.image b.image (subst (λ program. Image program a.image) programs p.image) q.image in
      λ i. record { program = programs i; image = images i }

  given_once : (r s : Refusal) → IsGivenToSink role side r → IsGivenToSink role side s → r ≡ s
  given_once r s h k = h.is_refusal ∙ ap given_sink (one_given role side.iface side.program h.position k.position h.first k.first) ∙ sym k.is_refusal

pub choosing_lawful : (role : Role) → IsLawfulStage (choosing role)
choosing_lawful role = record {
  one_result = one_parted role;
  one_refusal = given_once role;
  not_both = λ side parted r p h. none_given role side.iface side.program p.set h.position p.least h.first;
}

-- ---- the joined program

-- marks don't pass where a position tells why they don't
passes_not : (role : Role) (iface : Iface) (program : Program) (set : ℕ → Bool) (position : ℕ) → PassesAs role iface program set → IsFirstBad (asked role iface program) program set position → ⊥
passes_not role iface program set position passes first =
    bad_fails (asked role iface program) program set passes.0 position (under_from_as iface program passes.0 set role passes.1) first.bad

first_bad_once : (role : Role) (iface : Iface) (program : Program) (set : ℕ → Bool) (p q : ℕ) → IsFirstBad (asked role iface program) program set p
    → IsFirstBad (asked role iface program) program set q → p ≡ q
first_bad_once role iface program set p q h k =
    let below = h.least q k.bad in
    let above = k.least p h.bad in
    omega arith

module _ (sides : Sides) where
  abbrev client : Program
  client = sides.client

  abbrev library : Program
  library = sides.library

  abbrev iface : Iface
  iface = sides.iface

  client_not : (position : ℕ) → PassesAs Client iface client (is_protected client) → IsFirstBad (asked Client iface client) client (is_protected client) position → ⊥
  client_not position = passes_not Client iface client (is_protected client) position

  library_not : (position : ℕ) → PassesAs Library iface library (is_protected library) → IsFirstBad (asked Library iface library) library (is_protected library) position → ⊥
  library_not position = passes_not Library iface library (is_protected library) position

  one_union : (a b : Union) → Unites sides a → Unites sides b → a ≡ b
  one_union _ _ (client_fails p h) (client_fails q k) = ap (fails Client) (first_bad_once Client iface client (is_protected client) p q h k)
  one_union _ _ (client_fails p h) (library_fails q passes k) = absurd (client_not p passes h)
  one_union _ _ (client_fails p h) (are_joined b both can sized) = absurd (client_not p both.client h)
  one_union _ _ (library_fails p passes h) (client_fails q k) = absurd (client_not q passes k)
  one_union _ _ (library_fails p passes h) (library_fails q passes' k) = ap (fails Library) (first_bad_once Library iface library (is_protected library) p q h k)
  one_union _ _ (library_fails p passes h) (are_joined b both can sized) = absurd (library_not p both.library h)
  one_union _ _ (are_joined a both can sized) (client_fails q k) = absurd (client_not q both.client k)
  one_union _ _ (are_joined a both can sized) (library_fails q passes k) = absurd (library_not q both.library k)
  one_union _ _ (are_joined a both can sized) (are_joined b both' can' sized') = ap whole (sizing_lawful.one_result (joined client library iface) a b sized sized')

  -- what tells why two programs can't be joined
  abbrev NewExports : Type 0
  NewExports = Rattle.std.specs.List.All (IsNew (kept iface client)) library.exports

  no_export : (index : ℕ) → StandsAgainst client library iface (Export index) → NewExports → ⊥
  no_export index h = none_of_all (IsNew (kept iface client)) library.exports index h.1

  no_limit : (which : Quantity) (value : ℕ) → StandsAgainst client library iface (Limit which value) → CanJoin client library iface → ⊥
  no_limit which value h can = none_of_all IsWithin (sums client library) h.2.1.0 h.2.1.2 can.limits

  one_refusal : (r s : Refusal) → UnitingRefuses sides r → UnitingRefuses sides s → r ≡ s
  one_refusal r s (export_taken i both h e) (export_taken j both' k f) =
      e ∙ ap taken_export (first_one (IsNew (kept iface client)) library.exports i j h.1 k.1) ∙ sym f
  one_refusal r s (export_taken i both h e) (too_large w v both' k f) = absurd (no_export i h k.1)
  one_refusal r s (export_taken i both h e) (too_long both' can k) = absurd (no_export i h can.exports)
  one_refusal r s (too_large w v both h e) (export_taken j both' k f) = absurd (no_export j k h.1)
  one_refusal r s (too_large w v both h e) (too_large w' v' both' k f) =
      e ∙ ap told (limits_one client library iface w w' v v' h k) ∙ sym f
    where
      told : JoinError → Refusal
      told (Limit which value) = limit which value
      told (Export index) = taken_export index
      told _ = taken_export 0
  one_refusal r s (too_large w v both h e) (too_long both' can k) = absurd (no_limit w v h can)
  one_refusal r s (too_long both can h) (export_taken j both' k f) = absurd (no_export j k can.exports)
  one_refusal r s (too_long both can h) (too_large w v both' k f) = absurd (no_limit w v k can)
  one_refusal r s (too_long both can h) (too_long both' can' k) = sizing_lawful.one_refusal (joined client library iface) r s h k

  -- both pass where a refusal is told
  both_of : (r : Refusal) → UnitingRefuses sides r → PassesAs Client iface client (is_protected client) × PassesAs Library iface library (is_protected library)
  both_of r (export_taken i both h e) = (both.client, both.library)
  both_of r (too_large w v both h e) = (both.client, both.library)
  both_of r (too_long both can h) = (both.client, both.library)

  not_joined : (b : Built) (r : Refusal) → CanJoin client library iface → sizing.Passes (joined client library iface) b → UnitingRefuses sides r → ⊥
  not_joined b r can sized (export_taken i both h e) = no_export i h can.exports
  not_joined b r can sized (too_large w v both h e) = no_limit w v h can
  not_joined b r can sized (too_long both can' h) = sizing_lawful.not_both (joined client library iface) b r sized h

  united_not_both : (a : Union) (r : Refusal) → Unites sides a → UnitingRefuses sides r → ⊥
  united_not_both _ r (client_fails p h) k = client_not p (both_of r k).0 h
  united_not_both _ r (library_fails p passes h) k = library_not p (both_of r k).1 h
  united_not_both _ r (are_joined b both can sized) k = not_joined b r can sized k

pub uniting_lawful : IsLawfulStage uniting
uniting_lawful = record { one_result = one_union; one_refusal = one_refusal; not_both = united_not_both }

-- ---- all stages

pub siding_lawful : (role : Role) (bytes : List ℕ) → IsLawfulStage (siding role bytes)
siding_lawful role bytes =
    chain_lawful (interfacing bytes) (chain matching (choosing role)) (beside_lawful (λ (program : Program). bytes) reading side_of reading_lawful)
    (chain_lawful matching (choosing role) matching_lawful (choosing_lawful role))

pub parting_lawful : (role : Role) (bytes : List ℕ) → IsLawfulStage (parting role bytes)
parting_lawful role bytes =
    chain_lawful compiling (beside (λ (built : Built). built.program) (siding role bytes) (λ built parted. parted)) compiling_lawful
    (beside_lawful (λ (built : Built). built.program) (siding role bytes) (λ built parted. parted) (siding_lawful role bytes))

matching_both_lawful : IsLawfulStage matching_both
matching_both_lawful =
    chain_lawful (beside client_side matching (λ (sides : Sides) same. sides)) (beside library_side matching (λ (sides : Sides) same. sides))
    (beside_lawful client_side matching (λ (sides : Sides) same. sides) matching_lawful) (beside_lawful library_side matching (λ (sides : Sides) same. sides) matching_lawful)

pub pair_joining_lawful : (bytes : List ℕ) → IsLawfulStage (pair_joining bytes)
pair_joining_lawful bytes =
    chain_lawful (interfacing_both bytes) (chain matching_both (chain typing uniting)) (beside_lawful (λ (pair : Pair). bytes) reading sides_of reading_lawful)
    (chain_lawful matching_both (chain typing uniting) matching_both_lawful (chain_lawful typing uniting typing_lawful uniting_lawful))

pairing_lawful : (library : List ℕ) → IsLawfulStage (pairing library)
pairing_lawful library = chain_lawful imaging (with_library library) imaging_lawful (beside_lawful (λ (client : Program). library) imaging pair_of imaging_lawful)

pub joining_lawful : (bytes library : List ℕ) → IsLawfulStage (joining bytes library)
joining_lawful bytes library = chain_lawful (pairing library) (pair_joining bytes) (pairing_lawful library) (pair_joining_lawful bytes)

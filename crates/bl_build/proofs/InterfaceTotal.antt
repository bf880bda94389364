-- Stages by interfaces always answer: lines are an interface or there is a first bad one; functions are all there or a first one isn't; some set
-- is least where no sink reads what is given; and two programs are joined, or something stands against it.
use Rattle.std.proofs.Common.{◌≡◌, ℕ, suc, ◌<◌, ◌≤◌, Bool, true, List, [], ◌∷◌, ◌++◌, length, take, Option, Some, None, slice_get, inl, inr, refl, sym, ap, ◌∙◌, subst, arith, append_assoc}
use Rattle.std.specs.Prelude.{IsTrue}
use Rattle.std.specs.List.{All}
use Rattle.std.proofs.lemmas.Bool.{cases_Bool}
use Rattle.std.proofs.Math.Seq.{take-append_seam}
use Rattle.std.proofs.lemmas.List.{append-nil, length-take}
use Rattle.std.proofs.lemmas.Option.{none-some, same_Some, slice_get_within}
use Rattle.bl_base.proofs.Lists.{all_from, within_get}
use Rattle.bl_base.specs.Quantity.{limit_of}
use Rattle.bl_base.specs.declared.quantity.Quantity.TheVariants as quantity
use Rattle.bl_base.specs.declared.names.Role.{Role}
use Rattle.bl_base.specs.declared.names.Role.TheVariants.{Client, Library}
use Rattle.bl_base.proofs.Classical.{all_or_first, some_first}
use Rattle.bl_text.specs.Lines.{lines_of}
use Rattle.bl_program.specs.Rules.{IsWellFormed}
use Rattle.bl_program.specs.Sites.{is_protected}
use Rattle.bl_program.specs.declared.definitions.ProgramParts.{ProgramParts as Program}
use Rattle.bl_program.proofs.AppendLemmas.{get_right, get_take}
use Rattle.bl_graph.specs.Ranges.{AreInRange}
use Rattle.bl_graph.proofs.RangeLemmas.{in_range}
use Rattle.bl_transient.specs.Verdicts.{IsBad, IsFirstBad}
use Rattle.bl_transient.proofs.LeastTypings.{is_trans, least_typing, typing_trans}
use Rattle.bl_cut.specs.Marks.{protected}
use Rattle.bl_cut.proofs.MarkedPrograms.{is_program}
use Rattle.bl_format.specs.Image.{Image}
use Rattle.bl_iface.specs.Answers.{IsFirstWithout}
use Rattle.bl_iface.specs.Files.{IsFirstBadLine, Say, function_in}
use Rattle.bl_iface.specs.JoinedProgram.{CanJoin, HasSameTypes, IsNew, IsWithin, is_named, joined, kept, sums}
use Rattle.bl_iface.specs.InterfaceFunctions.{IsMatched, Matches}
use Rattle.bl_iface.specs.Roles.{PassesAs}
use Rattle.bl_iface.specs.RoleTests.{IsGiven, asked}
use Rattle.bl_iface.specs.declared.iface.FnIface.{FnIface}
use Rattle.bl_iface.specs.declared.iface.Iface.{Iface}
use Rattle.bl_iface.proofs.RoleTestLemmas.{as_from_under, asked_apart, none_passes}
use Rattle.bl_iface.proofs.FileLines.{said_more}
use Rattle.bl_iface.proofs.LeastChoice.{some_choice}
use Rattle.bl_build.specs.BuildStages.{AreCompilable, Built, compiling}
use Rattle.bl_build.specs.EntryStages.{imaging}
use Rattle.bl_build.specs.InterfaceStages.{IsGivenToSink, IsMatchable, IsParted, Parted, Side, bad_interface_line, choosing, given_sink, interfacing, matching, parting, reading, side_of, siding, unmatched_function}
use Rattle.bl_build.specs.JoinStages.{AreMatchable, BothPass, Pair, Sides, Union, Unites, UnitingRefuses, are_joined, client_fails, client_side, export_taken, fails, interfacing_both, joining, library_fails, library_side, matching_both, other_types, pair_joining, pair_of, pairing, sides_of, taken_export, too_large, too_long, typing, uniting, whole, with_library}
use Rattle.bl_build.specs.LoadStages.{Part}
use Rattle.bl_job.specs.Refusals.{Refusal, limit}
use Rattle.bl_job.specs.Stages.{Anything, IsTotalStage, beside, chain}
use Rattle.bl_lower.proofs.WellFormed.{rules}
use Rattle.bl_job.proofs.StageLemmas.{beside_total, chain_total}
use Rattle.bl_build.proofs.BuildLemmas.{builds_of, compiling_total, sizing_total}
use Rattle.bl_build.proofs.ImagesTotal.{imaging_total}
use Rattle.bl_build.proofs.JoinImages.{joined_image}
use Rattle.bl_build.proofs.ProtectedImages.{protected_image}

-- ---- interface files

module _ (lines : List (List ℕ)) (made : (functions : List FnIface) → Say lines functions → ⊥) (bad : (number : ℕ) → IsFirstBadLine lines number → ⊥) where
  -- the line behind some that say functions says another one, or is bad
  bad_one : (front : List (List ℕ)) (functions : List FnIface) (line : List ℕ) (rest : List (List ℕ)) → lines ≡ front ++ line ∷ rest → Say front functions
      → ((one : FnIface) → function_in line ≡ Some one → IsTrue (is_named functions one.name)) → ⊥
  bad_one front functions line rest split say wrong = bad (suc (length front)) (record {
    before = length front;
    functions = functions;
    line = line;
    counted = refl;
    say = subst (λ l. Say l functions) (sym (ap (take (length front)) split ∙ take-append_seam front (line ∷ rest))) say;
    stands = ap (λ l. slice_get l (length front)) split ∙ get_right front (line ∷ rest) (length front) 0 (omega arith);
    bad = wrong;
  })

  by_line : (line : List ℕ) (rest front : List (List ℕ)) (functions : List FnIface) → lines ≡ front ++ line ∷ rest → Say front functions → (found : Option FnIface) → function_in line ≡ found
      → ((functions : List FnIface) → lines ≡ (front ++ line ∷ []) ++ rest → Say (front ++ line ∷ []) functions → ⊥) → ⊥
  by_line line rest front functions split say None e on = bad_one front functions line rest split say (λ one is. absurd (none-some one (sym e ∙ is)))
  by_line line rest front functions split say (Some one) e on =
      elim (cases_Bool (is_named functions one.name)) as (λ _. ⊥) [
        | inl named ↦ bad_one front functions line rest split say (λ other is. subst (λ (o : FnIface). is_named functions o.name ≡ true) (same_Some one other (sym e ∙ is)) named)
        | inr new ↦ on (functions ++ one ∷ []) (split ∙ sym (append_assoc front (line ∷ []) rest)) (said_more front functions line one say e new)
      ]

  scan : (rest front : List (List ℕ)) (functions : List FnIface) → lines ≡ front ++ rest → Say front functions → ⊥
  scan [] front functions split say = made functions (subst (λ l. Say l functions) (sym (split ∙ append-nil front)) say)
  scan (line ∷ rest) front functions split say =
      by_line line rest front functions split say (function_in line) refl (λ functions e say. scan rest (front ++ line ∷ []) functions e say)

  pub some_said : ⊥
  some_said = scan lines [] [] refl (record { says = refl; distinct = λ i j d less lt. absurd (omega arith) })

pub reading_total : IsTotalStage Anything reading
reading_total = record {
  always = λ bytes given made refused.
      some_said (lines_of bytes) (λ functions say. made (record { functions = functions }) say)
      (λ number first. refused (bad_interface_line number) (record { number = number; first = first; is_refusal = refl }));
}

-- ---- the first that lacks a property

module _ {A : Type 0} (P : A → Type 0) (xs : List A) (every : All P xs → ⊥) (first : (index : ℕ) → IsFirstWithout P xs index → ⊥) where
  abbrev Has : ℕ → Type 0
  Has i = (x : A) → slice_get xs i ≡ Some x → P x

  before : (index : ℕ) → ((m : ℕ) → m < index → Has m) → All P (take index xs)
  before index below = all_from P (take index xs) (λ i x stands.
      let inside = slice_get_within (take index xs) i x stands in
      let long = length-take index xs in
      let lt : i < index = omega arith in
      below i lt x (sym (get_take index xs i lt) ∙ stands))

  pub all_or_one : ⊥
  all_or_one =
      all_or_first Has (length xs)
      (λ all. every (all_from P xs (λ i x stands. all i (slice_get_within xs i x stands) x stands)))
      (λ index lt without below.
      let found = within_get xs index lt in
      first index (record {
        item = found.0;
        stands = found.1;
        without = λ holds. without (λ x stands. subst P (same_Some found.0 x (sym found.1 ∙ stands)) holds);
        before = before index below;
      }))

pub matching_total : IsTotalStage Anything matching
matching_total = record {
  always = λ side given made refused.
      all_or_one (IsMatched side.program) side.iface.functions (λ matches. made side (refl, matches))
      (λ index first. refused (unmatched_function index) (record { index = index; first = first; is_refusal = refl }));
}

pub typing_total : IsTotalStage Anything typing
typing_total = record {
  always = λ sides given made refused.
      all_or_one (HasSameTypes sides.client sides.library) sides.iface.functions (λ types. made sides (refl, types))
      (λ index first. refused (other_types index) (record { index = index; first = first; is_refusal = refl }));
}

-- ---- one side of an interface

module _ (role : Role) (side : Side) (given : IsMatchable side) where
  abbrev program : Program
  program = side.program

  range : AreInRange program
  range = in_range program given.image.is_program given.rules

  -- where no sink reads what is given some set is least
  chosen : ((position : ℕ) → IsGiven (asked role side.iface program) program position → ⊥) → (parted : Parted) × IsParted role side parted
  chosen none =
      let least = some_choice role side.iface program range given.rules given.matches none in
      let image = protected_image least.0 program given.bytes (is_program least.0 program given.image.is_program) given.image in (
        record { program = protected least.0 program; image = image.0 },
        record { range = range; set = least.0; least = least.1; is_program = refl; image = image.1 },
      )

  some_parted : ((parted : Parted) → IsParted role side parted → ⊥) → ((refusal : Refusal) → IsGivenToSink role side refusal → ⊥) → ⊥
  some_parted made refused =
      let done = chosen (λ position sink.
      some_first (IsGiven (asked role side.iface program) program) position sink (λ found.
      refused (given_sink found.0) (record { position = found.0; first = record { given = found.1.is; least = found.1.least }; is_refusal = refl }))) in
      made done.0 done.1

pub choosing_total : (role : Role) → IsTotalStage IsMatchable (choosing role)
choosing_total role = record { always = some_parted role }

-- ---- the joined program

-- marks pass on a side, or there is a least position that tells why they don't
module _ (role : Role) (side : Side) (given : IsMatchable side) (set : ℕ → Bool) where
  some_verdict : (PassesAs role side.iface side.program set → ⊥) → ((position : ℕ) → IsFirstBad (asked role side.iface side.program) side.program set position → ⊥) → ⊥
  some_verdict passes told =
      let asks = asked role side.iface side.program in
      let typing : ℕ → Bool = least_typing asks side.program set in
      passes (
        typing,
        as_from_under side.iface side.program typing set role
            (none_passes asks side.program set (asked_apart side.iface side.program given.rules.rule2 given.rules.rule3 given.matches role) typing
            (λ x. (typing_trans asks side.program set x, is_trans asks side.program set x))
            (λ position bad. some_first (IsBad asks side.program set) position bad (λ found. told found.0 (record { bad = found.1.is; least = found.1.least })))),
      )

module _ (sides : Sides) (given : AreMatchable sides) (made : (union : Union) → Unites sides union → ⊥) (refused : (refusal : Refusal) → UnitingRefuses sides refusal → ⊥) where
  abbrev client : Program
  client = sides.client

  abbrev library : Program
  library = sides.library

  abbrev iface : Iface
  iface = sides.iface

  of_joined : BothPass sides → CanJoin client library iface → ⊥
  of_joined both can =
      let image = joined_image client library iface given.client.bytes given.library.bytes given.client.image given.library.image given.client.short given.library.short
      given.client.rules given.library.rules can in
      sizing_total.always (joined client library iface) image (λ built sized. made (whole built) (are_joined built both can sized)) (λ refusal long. refused refusal (too_long both can long))

  of_both : BothPass sides → ⊥
  of_both both =
      all_or_one (IsNew (kept iface client)) library.exports
      (λ exports. all_or_one IsWithin (sums client library)
      (λ limits. of_joined both (record { types = given.types; exports = exports; limits = limits }))
      (λ place first. refused (limit first.item.which first.item.value)
      (too_large first.item.which first.item.value both (given.types, exports, (first.item, (place, first.stands, first), refl, refl)) refl)))
      (λ index first. refused (taken_export index) (export_taken index both (given.types, first) refl))

  pub some_union : ⊥
  some_union =
      some_verdict Client (client_side sides) given.client (is_protected client)
      (λ ours. some_verdict Library (library_side sides) given.library (is_protected library)
      (λ theirs. of_both (record { client = ours; library = theirs }))
      (λ position first. made (fails Library position) (library_fails position ours first)))
      (λ position first. made (fails Client position) (client_fails position first))

pub uniting_total : IsTotalStage AreMatchable uniting
uniting_total = record { always = some_union }

-- ---- all stages

-- a program that is well-formed and has an image of few enough bytes
pub record IsOfImage (program : Program) : Type 0 where
  pub rules : IsWellFormed program
  pub bytes : List ℕ
  pub image : Image program bytes
  pub short : length bytes ≤ limit_of quantity.Image

pub siding_total : (role : Role) (bytes : List ℕ) → IsTotalStage IsOfImage (siding role bytes)
siding_total role bytes =
    chain_total IsOfImage (λ side. IsOfImage side.program) (interfacing bytes) (chain matching (choosing role))
    (record { always = λ program given. (beside_total (λ (program : Program). bytes) reading side_of Anything reading_total).always program tt })
    (chain_total (λ side. IsOfImage side.program) IsMatchable matching (choosing role) (record { always = λ side given. matching_total.always side tt }) (choosing_total role)
    (λ side same given passed. subst IsMatchable (sym passed.0)
    (record { rules = given.rules; bytes = given.bytes; image = given.image; short = given.short; matches = passed.1 })))
    (λ program side given passed. subst (λ (s : Side). IsOfImage s.program) (sym passed.2) given)

-- what is compiled is such a program
compiled_image : (parts : List Part) (built : Built) → compiling.Passes parts built → IsOfImage built.program
compiled_image parts built p =
    let builds = builds_of p.0 built p.2 in
    record {
      rules = subst IsWellFormed (sym builds.is_program) (rules p.0 p.1.2.2.2.can_run builds.few);
      bytes = built.image;
      image = subst (λ program. Image program built.image) (sym builds.is_program) builds.image;
      short = builds.short;
    }

pub parting_total : (role : Role) (bytes : List ℕ) → IsTotalStage AreCompilable (parting role bytes)
parting_total role bytes =
    chain_total AreCompilable (λ built. IsOfImage built.program) compiling (beside (λ (built : Built). built.program) (siding role bytes) (λ built parted. parted)) compiling_total
    (beside_total (λ (built : Built). built.program) (siding role bytes) (λ built parted. parted) IsOfImage (siding_total role bytes)) (λ parts built given p. compiled_image parts built p)

-- bytes are few enough to be those of an image
abbrev pub IsShort : List ℕ → Type 0
IsShort bytes = length bytes ≤ limit_of quantity.Image

pub record ArePairOfImages (pair : Pair) : Type 0 where
  pub client : IsOfImage pair.client
  pub library : IsOfImage pair.library

module _ (library : List ℕ) (short : IsShort library) where
  with_library_total : IsTotalStage IsOfImage (with_library library)
  with_library_total = record { always = λ client given. (beside_total (λ (program : Program). library) imaging pair_of Anything imaging_total).always client tt }

  pairing_total : IsTotalStage IsShort (pairing library)
  pairing_total =
      chain_total IsShort IsOfImage imaging (with_library library) (record { always = λ bytes given. imaging_total.always bytes tt }) with_library_total
      (λ bytes program given imaged. record { rules = imaged.rules; bytes = bytes; image = imaged.image; short = given })

  paired : (bytes : List ℕ) (pair : Pair) → IsShort bytes → (pairing library).Passes bytes pair → ArePairOfImages pair
  paired bytes pair given p =
      let second = p.2 in
      subst ArePairOfImages (sym second.2) (record {
        client = record { rules = p.1.rules; bytes = bytes; image = p.1.image; short = given };
        library = record { rules = second.1.rules; bytes = library; image = second.1.image; short = short };
      })

-- of a client, a library and an interface
record AreOfImages (sides : Sides) : Type 0 where
  client : IsOfImage sides.client
  library : IsOfImage sides.library

matchable : (side : Side) → IsOfImage side.program → Matches side.program side.iface → IsMatchable side
matchable side given matches = record { rules = given.rules; bytes = given.bytes; image = given.image; short = given.short; matches = matches }

record AreMatched (sides : Sides) : Type 0 where
  client : IsMatchable (client_side sides)
  library : IsMatchable (library_side sides)

record IsHalfMatched (sides : Sides) : Type 0 where
  client : IsMatchable (client_side sides)
  library : IsOfImage sides.library

matching_both_total : IsTotalStage AreOfImages matching_both
matching_both_total =
    chain_total AreOfImages IsHalfMatched (beside client_side matching (λ (sides : Sides) same. sides)) (beside library_side matching (λ (sides : Sides) same. sides))
    (record { always = λ sides given. (beside_total client_side matching (λ (sides : Sides) same. sides) Anything matching_total).always sides tt })
    (record { always = λ sides given. (beside_total library_side matching (λ (sides : Sides) same. sides) Anything matching_total).always sides tt })
    (λ sides same given p. subst IsHalfMatched (sym p.2) (record { client = matchable (client_side sides) given.client p.1.1; library = given.library }))

matched_both : (sides same : Sides) → AreOfImages sides → matching_both.Passes sides same → AreMatched same
matched_both sides same given p =
    let second = p.2 in
    let here : AreMatched sides = record {
      client = matchable (client_side sides) given.client p.1.1.1;
      library = matchable (library_side sides) given.library (subst (λ (s : Sides). Matches s.library s.iface) p.1.2 second.1.1);
    } in
    subst AreMatched (sym (second.2 ∙ p.1.2)) here

pair_joining_total : (bytes : List ℕ) → IsTotalStage ArePairOfImages (pair_joining bytes)
pair_joining_total bytes =
    chain_total ArePairOfImages AreOfImages (interfacing_both bytes) (chain matching_both (chain typing uniting))
    (record { always = λ pair given. (beside_total (λ (pair : Pair). bytes) reading sides_of Anything reading_total).always pair tt })
    (chain_total AreOfImages AreMatched matching_both (chain typing uniting) matching_both_total
    (chain_total AreMatched AreMatchable typing uniting (record { always = λ sides given. typing_total.always sides tt }) uniting_total
    (λ sides same given p. subst AreMatchable (sym p.0) (record { client = given.client; library = given.library; types = p.1 })))
    (λ sides same given p. matched_both sides same given p))
    (λ pair sides given p. subst AreOfImages (sym p.2) (record { client = given.client; library = given.library }))

-- files that are few enough bytes are joined, or refused
pub joining_total : (bytes library : List ℕ) → IsShort library → IsTotalStage IsShort (joining bytes library)
joining_total bytes library short =
    chain_total IsShort ArePairOfImages (pairing library) (pair_joining bytes) (pairing_total library short) (pair_joining_total bytes) (λ client pair given p. paired library short client pair given p)

-- An image, an exported function of its program and a start of it are one; why bytes are refused.
use Rattle.std.proofs.Common.{◌≡◌, ℕ, List, Some, refl, ap, sym, ◌∙◌, subst, arith}
use Rattle.std.specs.Prelude.{Ok, Err, slice_get, Result}
use Rattle.std.proofs.lemmas.Option.{same_Some}
use Rattle.bl_program.specs.Rules.{IsFirstBroken}
use Rattle.bl_program.specs.declared.definitions.ProgramParts.{ProgramParts as Program}
use Rattle.bl_program.proofs.BrokenRules.{unbroken}
use Rattle.bl_image.proofs.Prefixes.{one_program}
use Rattle.bl_trace.specs.declared.error.StartError.TheVariants.{Line, Count}
use Rattle.bl_build.specs.EntryStages.{Entered, Entry, Finds, FindingRefuses, ImagingRefuses, IsImaged, Starts, StartingRefuses, bad_line, broken_rule, few_arguments, finding, ill_formed, imaging, line_is_bad, no_image, starting, too_few, kinds_of, pages_of}
use Rattle.bl_job.specs.Refusals.{Refusal}
use Rattle.bl_job.specs.Stages.{IsLawfulStage, Stage, chain}
use Rattle.bl_job.proofs.StageLemmas.{chain_lawful, told_as, told_memory}
use Rattle.bl_base.specs.declared.names.ValueType.{ValueType}
use Rattle.bl_base.specs.declared.start.Start.{Start}
use Rattle.bl_image.specs.ReaderAnswers.{IsReason}
use Rattle.bl_image.specs.declared.error.ImageError.{ImageError}
use Rattle.bl_image.specs.declared.error.ImageError.TheVariants as image_reason
use Rattle.bl_trace.specs.StartFiles.{IsAnswer, answer_of}
use Rattle.bl_trace.specs.declared.error.StartError.{StartError}
use Rattle.bl_trace.specs.declared.error.StartError.TheVariants as start_reason
use Rattle.bl_job.specs.WorkAnswers.{IsStaged, IsTold}
use Rattle.bl_job.specs.declared.refusal.WorkError.{WorkError}
use Rattle.bl_build.specs.StageAnswers.{entered_in, refusal_of_image, refusal_of_start}

-- ---- images

-- one rule is the first that is broken, at one position
one_broken : (program : Program) (r s p q : ℕ) → IsFirstBroken r p program → IsFirstBroken s q program → broken_rule r p ≡ broken_rule s q
one_broken program r s p q f g = at_same p q places f g
  where
    places : p ≡ q
    places = let low = f.least_position s q g.broken in let high = g.least_position r p f.broken in omega arith

    at_same : (p q : ℕ) → p ≡ q → IsFirstBroken r p program → IsFirstBroken s q program → broken_rule r p ≡ broken_rule s q
    at_same p q same f g =
        let here = subst (λ p. IsFirstBroken r p program) same f in
        let low = here.least_rule s g.broken in
        let high = g.least_rule r here.broken in
        let rules : r ≡ s = omega arith in
        λ i. broken_rule (rules i) (same i)

module _ (bytes : List ℕ) where
  image_refusal : (a b : Refusal) → ImagingRefuses bytes a → ImagingRefuses bytes b → a ≡ b
  image_refusal a b (no_image none e) (no_image other f) = e ∙ sym f
  image_refusal a b (no_image none e) (ill_formed program r p image first f) = absurd (none program image)
  image_refusal a b (ill_formed program r p image first e) (no_image none f) = absurd (none program image)
  image_refusal a b (ill_formed program r p image first e) (ill_formed other s q image' first' f) =
      let here = subst (IsFirstBroken s q) (one_program other program bytes image' image) first' in
      e ∙ (one_broken program r s p q first here ∙ sym f)

  image_not_both : (program : Program) (r : Refusal) → IsImaged bytes program → ImagingRefuses bytes r → ⊥
  image_not_both program r i (no_image none e) = none program i.image
  image_not_both program r i (ill_formed other s p image first e) =
      let here = subst (IsFirstBroken s p) (one_program other program bytes image i.image) first in
      unbroken program s p i.rules here.broken

pub imaging_lawful : IsLawfulStage imaging
imaging_lawful = record { one_result = λ bytes p q i j. one_program p q bytes i.image j.image; one_refusal = image_refusal; not_both = image_not_both }

-- ---- exported functions

module _ (export : List ℕ) (program : Program) where
  one_entry : (a b : Entry) → Finds export program a → Finds export program b → a ≡ b
  one_entry a b f g =
      let programs = f.same_program ∙ sym g.same_program in
      let functions = same_Some a.function b.function (sym f.exported ∙ g.exported) in
      let defined = same_Some a.defined b.defined (sym (subst (λ n. slice_get program.functions n ≡ Some a.defined) functions f.defined) ∙ g.defined) in
      λ i. record { program = programs i; function = functions i; defined = defined i }

  not_found : (a : Entry) (r : Refusal) → Finds export program a → FindingRefuses export program r → ⊥
  not_found a r f n = let is = f.exported in let none = n.not_exported in cc

pub finding_lawful : (export : List ℕ) → IsLawfulStage (finding export)
finding_lawful export = record {
  one_result = one_entry export;
  one_refusal = λ program a b f g. f.is_refusal ∙ sym g.is_refusal;
  not_both = not_found export;
}

-- ---- starts

module _ (bytes : List ℕ) (entry : Entry) where
  one_start : (a b : Entered) → Starts bytes entry a → Starts bytes entry b → a ≡ b
  one_start a b s t =
      let entries = s.same_entry ∙ sym t.same_entry in
      let read : Ok a.start ≡ Ok b.start = sym s.read ∙ t.read in
      let starts : a.start ≡ b.start = cc in
      λ i. record { entry = entries i; start = starts i }

  start_refusal : (a b : Refusal) → StartingRefuses bytes entry a → StartingRefuses bytes entry b → a ≡ b
  start_refusal a b (line_is_bad line read e) (line_is_bad other read' f) =
      let same : Err (Line line) ≡ Err (Line other) = sym read ∙ read' in
      let number : line ≡ other = cc in
      e ∙ (ap bad_line number ∙ sym f)
  start_refusal a b (line_is_bad line read e) (too_few count read' f) = let no : Err (Line line) ≡ Err (Count count) = sym read ∙ read' in cc
  start_refusal a b (too_few count read e) (line_is_bad line read' f) = let no : Err (Count count) ≡ Err (Line line) = sym read ∙ read' in cc
  start_refusal a b (too_few count read e) (too_few other read' f) =
      let same : Err (Count count) ≡ Err (Count other) = sym read ∙ read' in
      let number : count ≡ other = cc in
      e ∙ (ap few_arguments number ∙ sym f)

  start_not_both : (a : Entered) (r : Refusal) → Starts bytes entry a → StartingRefuses bytes entry r → ⊥
  start_not_both a r s (line_is_bad line read e) = let no : Ok a.start ≡ Err (Line line) = sym s.read ∙ read in cc
  start_not_both a r s (too_few count read e) = let no : Ok a.start ≡ Err (Count count) = sym s.read ∙ read in cc

pub starting_lawful : (bytes : List ℕ) → IsLawfulStage (starting bytes)
starting_lawful bytes = record { one_result = one_start bytes; one_refusal = start_refusal bytes; not_both = start_not_both bytes }

-- a stage on the program of an image
pub imaged_lawful : {B : Type 0} (stage : Stage Program B) → IsLawfulStage stage → IsLawfulStage (chain imaging stage)
imaged_lawful stage s = chain_lawful imaging stage imaging_lawful s

-- the answer of a start file, by the types of the parameters and the first pages
asked : (entry : Entry) (bytes : List ℕ) (kinds : List ValueType) (pages : List ℕ) (answer : Result Start StartError) → kinds ≡ kinds_of entry.defined → pages ≡ pages_of entry.program
    → answer ≡ answer_of kinds pages bytes → answer_of (kinds_of entry.defined) (pages_of entry.program) bytes ≡ answer
asked entry bytes kinds pages answer are sizes e = (λ i. answer_of (sym are i) (sym sizes i) bytes) ∙ sym e

-- why there is no program is why the bytes are refused
pub not_imaged : (bytes : List ℕ) (e : ImageError) → IsReason bytes e → (w : WorkError) → IsTold (refusal_of_image e) w → IsStaged imaging (λ (p : Program). p) bytes (Err w)
not_imaged bytes image_reason.NotAnImage none = told_as _ (ImagingRefuses bytes) (no_image none refl)
not_imaged bytes (image_reason.IllFormed rule position) broken = told_as _ (ImagingRefuses bytes) (ill_formed broken.0 rule position.0 broken.1 broken.2 refl)
not_imaged bytes image_reason.Memory none = told_memory (ImagingRefuses bytes)

-- an error of reading a start file is why it is refused
pub not_started : (entry : Entry) (bytes : List ℕ) (kinds : List ValueType) (pages : List ℕ) (e : StartError) → kinds ≡ kinds_of entry.defined → pages ≡ pages_of entry.program
    → IsAnswer (answer_of kinds pages bytes) (Err e) → (w : WorkError) → IsTold (refusal_of_start e) w → IsStaged (starting bytes) (entered_in entry) entry (Err w)
not_started entry bytes kinds pages (start_reason.Line number) are sizes answer =
    told_as _ (StartingRefuses bytes entry) (line_is_bad number (asked entry bytes kinds pages (Err (start_reason.Line number)) are sizes answer) refl)
not_started entry bytes kinds pages (start_reason.Count count) are sizes answer =
    told_as _ (StartingRefuses bytes entry) (too_few count (asked entry bytes kinds pages (Err (start_reason.Count count)) are sizes answer) refl)
not_started entry bytes kinds pages start_reason.Memory are sizes answer = told_memory (StartingRefuses bytes entry)

-- An exported function of a linked tree and its start are one; exported functions exist; why start files are refused.
use Rattle.std.proofs.Common.{◌≡◌, ℕ, List, Option, Some, ap, sym, ◌∙◌, subst, ◌<◌, None, refl}
use Rattle.std.specs.Prelude.{Result, Ok, Err, slice_get, option_and_then}
use Rattle.bl_base.specs.declared.start.Start.{Start}
use Rattle.bl_wasm.specs.Exports.{value_named, Pairs}
use Rattle.bl_wasm.specs.declared.linked.Signature.{Signature}
use Rattle.bl_wasm.specs.declared.linked.Tree.{Tree}
use Rattle.bl_trace.specs.StartFiles.{answer_of, IsAnswer}
use Rattle.bl_trace.specs.declared.error.StartError.{StartError}
use Rattle.bl_trace.specs.declared.error.StartError.TheVariants.{Line, Count, Memory}
use Rattle.bl_wasm.specs.Linked.{type_of}
use Rattle.bl_wasm.proofs.NamedLemmas.{stands_at}
use Rattle.bl_build.specs.InvocationStages.{preparing, Invoked, Invokes, InvokingRefuses, invoking, line_is_bad, not_exported, sizes_of, too_few}
use Rattle.bl_build.specs.LoadStages.{loading}
use Rattle.bl_job.specs.Refusals.{Refusal}
use Rattle.bl_build.specs.EntryStages.{bad_line, few_arguments}
use Rattle.bl_job.specs.Stages.{IsLawfulStage}
use Rattle.bl_build.proofs.LoadLemmas.{loading_lawful}
use Rattle.bl_job.proofs.StageLemmas.{chain_lawful, told_as, told_memory}
use Rattle.std.specs.List.{All}
use Rattle.std.proofs.lemmas.Option.{same_Some}
use Rattle.bl_base.specs.Fits.{Fits}
use Rattle.bl_base.proofs.Lists.{all_get}
use Rattle.bl_wasm.specs.declared.linked.Function.{Function}
use Rattle.bl_reduce.specs.Outcomes.{IsStart}
use Rattle.bl_job.specs.WorkAnswers.{IsStaged, IsTold}
use Rattle.bl_job.specs.declared.refusal.WorkError.{WorkError}
use Rattle.bl_build.specs.StageAnswers.{refusal_of_start}

module _ (export bytes : List ℕ) (tree : Tree) where
  -- an exported name has one type
  one_type : (f g : ℕ) (t u : Signature) → value_named export tree.exports ≡ Some f → value_named export tree.exports ≡ Some g → type_of tree f ≡ Some t → type_of tree g ≡ Some u → t ≡ u
  one_type f g t u is other typed typed' =
      let same = same_Some f g (sym is ∙ other) in
      same_Some t u (sym (subst (λ n. type_of tree n ≡ Some t) same typed) ∙ typed')

  -- and a start file one answer
  one_answer : (f g : ℕ) (t u : Signature) (a b : Result Start StartError) → value_named export tree.exports ≡ Some f → value_named export tree.exports ≡ Some g → type_of tree f ≡ Some t → type_of tree g ≡ Some u
      → answer_of t.params (sizes_of tree) bytes ≡ a → answer_of u.params (sizes_of tree) bytes ≡ b → a ≡ b
  one_answer f g t u a b is other typed typed' e e' = sym e ∙ (ap (λ t. answer_of t.params (sizes_of tree) bytes) (one_type f g t u is other typed typed') ∙ e')

  one_invoked : (a b : Invoked) → Invokes export bytes tree a → Invokes export bytes tree b → a ≡ b
  one_invoked a b o p =
      let trees = o.same_tree ∙ sym p.same_tree in
      let functions = same_Some a.function b.function (sym o.exported ∙ p.exported) in
      let types = one_type a.function b.function a.type b.type o.exported p.exported o.typed p.typed in
      let read : Ok a.start ≡ Ok b.start = one_answer a.function b.function a.type b.type (Ok a.start) (Ok b.start) o.exported p.exported o.typed p.typed o.read p.read in
      let starts : a.start ≡ b.start = cc in
      λ i. record { tree = trees i; function = functions i; type = types i; start = starts i }

  -- what opens is not refused
  invokes_against : (a : Invoked) (refusal : Refusal) → Invokes export bytes tree a → InvokingRefuses export bytes tree refusal → ⊥
  invokes_against a refusal o (not_exported none e) = let is = o.exported in cc
  invokes_against a refusal o (line_is_bad g line u is typed read e) =
      let no : Ok a.start ≡ Err (Line line) = one_answer a.function g a.type u (Ok a.start) (Err (Line line)) o.exported is o.typed typed o.read read in cc
  invokes_against a refusal o (too_few g count u is typed read e) =
      let no : Ok a.start ≡ Err (Count count) = one_answer a.function g a.type u (Ok a.start) (Err (Count count)) o.exported is o.typed typed o.read read in cc

  start_one : (a b : Refusal) → InvokingRefuses export bytes tree a → InvokingRefuses export bytes tree b → a ≡ b
  start_one a b (not_exported none e) (not_exported none' e') = e ∙ sym e'
  start_one a b (not_exported none e) (line_is_bad g line u is typed read e') = cc
  start_one a b (not_exported none e) (too_few g count u is typed read e') = cc
  start_one a b (line_is_bad f line t is typed read e) (not_exported none e') = cc
  start_one a b (line_is_bad f line t is typed read e) (line_is_bad g other u is' typed' read' e') =
      let same : Err (Line line) ≡ Err (Line other) = one_answer f g t u (Err (Line line)) (Err (Line other)) is is' typed typed' read read' in
      let number : line ≡ other = cc in
      e ∙ (ap bad_line number ∙ sym e')
  start_one a b (line_is_bad f line t is typed read e) (too_few g count u is' typed' read' e') =
      let same : Err (Line line) ≡ Err (Count count) = one_answer f g t u (Err (Line line)) (Err (Count count)) is is' typed typed' read read' in cc
  start_one a b (too_few f count t is typed read e) (not_exported none e') = cc
  start_one a b (too_few f count t is typed read e) (line_is_bad g line u is' typed' read' e') =
      let same : Err (Count count) ≡ Err (Line line) = one_answer f g t u (Err (Count count)) (Err (Line line)) is is' typed typed' read read' in cc
  start_one a b (too_few f count t is typed read e) (too_few g other u is' typed' read' e') =
      let same : Err (Count count) ≡ Err (Count other) = one_answer f g t u (Err (Count count)) (Err (Count other)) is is' typed typed' read read' in
      let number : count ≡ other = cc in
      e ∙ (ap few_arguments number ∙ sym e')

pub invoking_lawful : (export bytes : List ℕ) → IsLawfulStage (invoking export bytes)
invoking_lawful export bytes = record {
  one_result = one_invoked export bytes;
  one_refusal = start_one export bytes;
  not_both = invokes_against export bytes;
}

pub preparing_lawful : (export start : List ℕ) → IsLawfulStage (preparing export start)
preparing_lawful export start = chain_lawful loading (invoking export start) loading_lawful (invoking_lawful export start)

-- the number under a name is one of those that are listed
pub exported_exists : (count : ℕ) (name : List ℕ) (pairs : Pairs) (function : ℕ) → All (λ pair. pair.1 < count) pairs → value_named name pairs ≡ Some function → function < count
exported_exists count name pairs function all e =
    let there = stands_at pairs name function e in all_get (λ pair. pair.1 < count) pairs there.0 (name, function) all there.1

-- an error of reading a start file is why it is refused
pub start_refused : {X : Type 0} (value : X → Invoked) (tree : Tree) (export bytes : List ℕ) (function : ℕ) (type : Signature) (error : StartError) → value_named export tree.exports ≡ Some function → type_of tree function ≡ Some type
    → IsAnswer (answer_of type.params (sizes_of tree) bytes) (Err error) → (w : WorkError) → IsTold (refusal_of_start error) w → IsStaged (invoking export bytes) value tree (Err w)
start_refused value tree export bytes function type (Line number) is typed answer = told_as _ (InvokingRefuses export bytes tree) (line_is_bad function number type is typed (sym answer) refl)
start_refused value tree export bytes function type (Count count) is typed answer = told_as _ (InvokingRefuses export bytes tree) (too_few function count type is typed (sym answer) refl)
start_refused value tree export bytes function type Memory is typed answer = told_memory (InvokingRefuses export bytes tree)

-- a start that fits a function's type is a start of the function
pub start_of_type : (tree : Tree) (function : ℕ) (type : Signature) (start : Start) → type_of tree function ≡ Some type → Fits type.params (sizes_of tree) start → IsStart tree function start
start_of_type tree function type start typed fits = of_found (slice_get tree.functions function) refl typed
  where
    of_found : (found : Option Function) → slice_get tree.functions function ≡ found → option_and_then (λ f. slice_get tree.types f.type_index) found ≡ Some type → IsStart tree function start
    of_found None is typed = cc
    of_found (Some f) is typed = record { function = f; exists = is; type = type; typed = typed; fits = fits }

-- Exported functions of a program: they are found by their names, and exist.
use Rattle.std.proofs.Common.{◌≡◌, ℕ, suc, ◌<◌, Bool, true, false, List, [], ◌∷◌, Option, None, Some, cond, length, drop, get_or, refl, sym, ap, ◌∙◌, subst}
use Rattle.std.specs.Prelude.{MatchOption}
use Rattle.std.specs.Str.{bytes_eq}
use Rattle.std.specs.List.{All}
use Rattle.std.proofs.Math.Seq.{drop-cons}
use Rattle.std.proofs.lemmas.Bool.{cond-true, cond-false}
use Rattle.std.proofs.lemmas.List.Elements.{All-head, All-tail}
use Rattle.std.proofs.lemmas.Option.{slice_get-get_or}
use Rattle.bl_program.specs.Rules.{IsWellFormed}
use Rattle.bl_program.specs.declared.definitions.ExportDef.{ExportDef}
use Rattle.bl_program.specs.declared.definitions.ProgramParts.{ProgramParts as Program}
use Rattle.bl_build.specs.EntryStages.{Finds, function_named}
use Rattle.bl_build.specs.StageAnswers.{entry_in}

module _ (name : List ℕ) (exports : List ExportDef) where
  pub named_here : (i : ℕ) (export d : ExportDef) → i < length exports → export ≡ get_or exports i d → bytes_eq name export.name ≡ true → function_named name (drop i exports) ≡ Some export.function
  named_here i export d lt is same =
      ap (function_named name) (drop-cons exports i d lt) ∙ ap (λ (x : ExportDef). function_named name (x ∷ drop (suc i) exports)) (sym is)
      ∙ cond-true (bytes_eq name export.name) _ _ same

  pub named_behind : (i : ℕ) (export d : ExportDef) → i < length exports → export ≡ get_or exports i d → bytes_eq name export.name ≡ false
      → function_named name (drop i exports) ≡ function_named name (drop (suc i) exports)
  named_behind i export d lt is other =
      ap (function_named name) (drop-cons exports i d lt) ∙ ap (λ (x : ExportDef). function_named name (x ∷ drop (suc i) exports)) (sym is)
      ∙ cond-false (bytes_eq name export.name) _ _ other

-- the function of a name is one of those that are listed
pub named_exists : (count : ℕ) (name : List ℕ) (exports : List ExportDef) (function : ℕ) → All (λ (export : ExportDef). export.function < count) exports
    → function_named name exports ≡ Some function → function < count
named_exists count name [] function all e = cc
named_exists count name (export ∷ exports) function all e =
    of_test (bytes_eq name export.name) (named_exists count name exports function (All-tail (λ (export : ExportDef). export.function < count) export exports all)) e
  where
    of_test : (found : Bool) → (function_named name exports ≡ Some function → function < count) → cond found (Some export.function) (function_named name exports) ≡ Some function → function < count
    of_test true behind e =
        let same : export.function ≡ function = cc in
        subst (λ n. n < count) same (All-head (λ (export : ExportDef). export.function < count) export exports all)
    of_test false behind e = behind e

-- where there is a function of a name, it is found
pub found_so : (export : List ℕ) (program : Program) → IsWellFormed program → (found : Option ℕ) → found ≡ function_named export program.exports
    → MatchOption found (function_named export program.exports ≡ None) (λ function. Finds export program (entry_in program function))
found_so export program rules None e = sym e
found_so export program rules (Some function) e = record {
  same_program = refl;
  exported = sym e;
  defined = slice_get-get_or program.functions function _ (named_exists (length program.functions) export program.exports function rules.rule3.exist (sym e));
}

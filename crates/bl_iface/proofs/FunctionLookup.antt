-- The functions of an interface in a program, found one by one.
use Rattle.std.proofs.Common.{◌≡◌, inl, inr, ℕ, zero, suc, ◌+◌, ◌<◌, ◌≤◌, true, false, List, [], ◌∷◌, ◌++◌, length, drop, take, get_or, Option, Some, None, slice_get, refl, sym, ap, ◌∙◌, subst, arith}
use Rattle.std.specs.Prelude.{IfSome, IsSomeAnd, if◌then◌else◌}
use Rattle.std.specs.List.{All}
use Rattle.std.specs.Str.{bytes_eq}
use Rattle.std.proofs.lemmas.Bool.{cases_lt}
use Rattle.std.proofs.lemmas.List.{length_push}
use Rattle.std.proofs.lemmas.List.Elements.{All-push}
use Rattle.std.proofs.lemmas.Option.{same_Some, slice_get_read, slice_get_within}
use Rattle.bl_base.proofs.Lists.{rest_at}
use Rattle.bl_program.specs.Rules.{IsWellFormed}
use Rattle.bl_program.specs.declared.definitions.ExportDef.{ExportDef}
use Rattle.bl_program.specs.declared.definitions.ProgramParts.{ProgramParts as Program}
use Rattle.bl_iface.specs.JoinedProgram.{exported}
use Rattle.bl_iface.specs.InterfaceFunctions.{AreTargets, Fits, IsMatched}
use Rattle.bl_iface.specs.declared.iface.FnIface.{FnIface}
use Rattle.bl_iface.specs.declared.iface.Iface.{Iface}
use Rattle.bl_iface.proofs.ListTests.{all_step}
use Rattle.bl_iface.proofs.JoinedReads.{exported_exists}

-- ---- one name

pub exported_skip : (exports : List ExportDef) (i : ℕ) (export : ExportDef) (name : List ℕ) → i < length exports → export ≡ get_or exports i export → bytes_eq name export.name ≡ false
    → exported (drop i exports) name ≡ exported (drop (i + 1) exports) name
exported_skip exports i export name lt is e =
    ap (λ xs. exported xs name) (rest_at exports i export lt is) ∙ ap (λ b. if b then Some export.function else exported (drop (i + 1) exports) name) e

pub exported_here : (exports : List ExportDef) (i : ℕ) (export : ExportDef) (name : List ℕ) → i < length exports → export ≡ get_or exports i export → bytes_eq name export.name ≡ true
    → exported (drop i exports) name ≡ Some export.function
exported_here exports i export name lt is e =
    ap (λ xs. exported xs name) (rest_at exports i export lt is) ∙ ap (λ b. if b then Some export.function else exported (drop (i + 1) exports) name) e

-- a function that is exported exists
pub found_exists : (program : Program) (name : List ℕ) (found : Option ℕ) → IsWellFormed program → found ≡ exported program.exports name → IfSome found (λ target. target < length program.functions)
found_exists program name None well is = tt
found_exists program name (Some target) well is = exported_exists program.exports name target (length program.functions) well.rule3.exist (sym is)

-- ---- those so far

pub record SoFar (program : Program) (functions : List FnIface) (index : ℕ) (targets : List ℕ) : Type 0 where
  pub within : index ≤ length functions
  pub many : length targets ≡ index
  pub each : (k : ℕ) (one : FnIface) → k < index → slice_get functions k ≡ Some one → exported program.exports one.name ≡ Some (get_or targets k 0)
  pub exist : All (λ target. target < length program.functions) targets
  pub matched : All (IsMatched program) (take index functions)

before_end : (xs : List ℕ) (y k : ℕ) → k < length xs → get_or (xs ++ y ∷ []) k 0 ≡ get_or xs k 0
before_end [] y k lt = absurd (omega arith)
before_end (x ∷ xs) y zero lt = refl
before_end (x ∷ xs) y (suc k) lt = before_end xs y k (omega arith)

at_end : (xs : List ℕ) (y k : ℕ) → k ≡ length xs → get_or (xs ++ y ∷ []) k 0 ≡ y
at_end [] y zero e = refl
at_end [] y (suc k) e = absurd (omega arith)
at_end (x ∷ xs) y zero e = absurd (omega arith)
at_end (x ∷ xs) y (suc k) e = at_end xs y k (omega arith)

pub so_far_more : (program : Program) (functions : List FnIface) (index : ℕ) (targets new : List ℕ) (one : FnIface) (target : ℕ) (found : Option ℕ) → IsWellFormed program
    → index < length functions → one ≡ get_or functions index one → found ≡ exported program.exports one.name → found ≡ Some target → Fits program one target
    → new ≡ targets ++ target ∷ [] → SoFar program functions index targets → SoFar program functions (index + 1) new
so_far_more program functions index targets new one target found well lt is named some fits added h = subst (SoFar program functions (index + 1)) (sym added) (record {
  within = omega arith;
  many = length_push targets target ∙ omega (arith, h.many);
  each = λ k other less stands. elim (cases_lt k index) as (λ _. exported program.exports other.name ≡ Some (get_or (targets ++ target ∷ []) k 0)) [
    | inl before ↦ let many = h.many in h.each k other before stands ∙ ap Some (sym (before_end targets target k (omega arith)))
    | inr last ↦
        let many = h.many in
        let same : k ≡ index = omega arith in
        let here : slice_get functions index ≡ Some one = slice_get_read functions (length functions) index one refl lt is in
        let it : one ≡ other = same_Some one other (sym here ∙ ap (slice_get functions) (sym same) ∙ stands) in
        ap (λ (x : FnIface). exported program.exports x.name) (sym it) ∙ sym named ∙ some ∙ ap Some (sym (at_end targets target k (omega arith)))
  ];
  exist = All-push (λ t. t < length program.functions) targets target h.exist (exported_exists program.exports one.name target (length program.functions) well.rule3.exist (sym named ∙ some));
  matched = all_step (IsMatched program) functions index one lt is h.matched (subst (λ o. IsSomeAnd o (Fits program one)) (sym (sym named ∙ some)) fits);
})

pub so_far_all : (program : Program) (iface : Iface) (index : ℕ) (targets : List ℕ) → length iface.functions ≤ index → SoFar program iface.functions index targets → AreTargets program iface targets
so_far_all program iface index targets past h = record {
  many = let many = h.many in let within = h.within in omega arith;
  each = λ k one stands. h.each k one (let lt = slice_get_within iface.functions k one stands in omega arith) stands;
  exist = h.exist;
}

-- the one that isn't matched
pub unmatched_one : (program : Program) (one : FnIface) (found : Option ℕ) → found ≡ exported program.exports one.name → (IsSomeAnd found (Fits program one) → ⊥) → IsMatched program one → ⊥
unmatched_one program one found is none h = none (subst (λ o. IsSomeAnd o (Fits program one)) (sym is) h)

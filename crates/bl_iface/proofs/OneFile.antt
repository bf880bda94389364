-- A file has one interface, or one first bad line.
use Rattle.std.proofs.Common.{◌≡◌, inl, inr, ℕ, zero, suc, ◌<◌, ◌≤◌, true, List, [], ◌∷◌, length, map, take, Some, slice_get, refl, sym, ap, ◌∙◌, subst, arith}
use Rattle.std.specs.Prelude.{Ok, Err, Result}
use Rattle.std.specs.Str.{bytes_eq}
use Rattle.std.proofs.lemmas.Bool.{cases_order}
use Rattle.std.proofs.lemmas.List.{get_or-take, length-take, take-map}
use Rattle.std.proofs.lemmas.List.Folds.{Any-from_list_any}
use Rattle.std.proofs.lemmas.Option.{slice_get_read, slice_get_within}
use Rattle.std.proofs.lemmas.Slice.Eq.{bytes_eq-Decides}
use Rattle.bl_base.proofs.Lists.{get_mapped, mapped_get}
use Rattle.bl_program.proofs.Totals.{rises_get}
use Rattle.bl_program.proofs.AppendLemmas.{get_take}
use Rattle.bl_iface.specs.Files.{IsFirstBadLine, IsIface, Say, function_in}
use Rattle.bl_iface.specs.JoinedProgram.{is_named}
use Rattle.bl_iface.specs.declared.error.IfaceError.{IfaceError}
use Rattle.bl_iface.specs.declared.error.IfaceError.TheVariants.{Line, Memory}
use Rattle.bl_iface.specs.declared.iface.FnIface.{FnIface}
use Rattle.bl_iface.specs.declared.iface.Iface.{Iface}

-- what some lines say is one list
some_same : {A : Type 0} (xs ys : List A) → map Some xs ≡ map Some ys → xs ≡ ys
some_same [] [] e = refl
some_same [] (y ∷ ys) e = cc
some_same (x ∷ xs) [] e = cc
some_same (x ∷ xs) (y ∷ ys) e =
    let first : x ≡ y = cc in
    let others : map Some xs ≡ map Some ys = cc in
    ap (λ k. k ∷ xs) first ∙ ap (λ l. y ∷ l) (some_same xs ys others)

say_same : (lines : List (List ℕ)) (one other : List FnIface) → Say lines one → Say lines other → one ≡ other
say_same lines one other a b = some_same one other (sym a.says ∙ b.says)

take_front : {A : Type 0} (a b : ℕ) (xs : List A) → a ≤ b → take a (take b xs) ≡ take a xs
take_front zero b xs le = refl
take_front (suc a) zero xs le = absurd (omega arith)
take_front (suc a) (suc b) [] le = refl
take_front (suc a) (suc b) (x ∷ xs) le = ap (λ l. x ∷ l) (take_front a b xs (omega arith))

-- lines that all say functions of distinct names have no bad one
not_both : (lines : List (List ℕ)) (functions : List FnIface) (n : ℕ) → Say lines functions → IsFirstBadLine lines n → ⊥
not_both lines functions n h bad =
    let said : slice_get (map Some functions) bad.before ≡ Some (function_in bad.line) =
    ap (λ l. slice_get l bad.before) (sym h.says) ∙ get_mapped function_in lines bad.before bad.line bad.stands in
    let here = mapped_get Some functions bad.before (function_in bad.line) said in
    let front : bad.functions ≡ take bad.before functions =
    some_same bad.functions (take bad.before functions)
    (sym bad.say.says ∙ sym (take-map function_in bad.before lines) ∙ ap (take bad.before) h.says ∙ take-map Some bad.before functions) in
    let named : is_named (take bad.before functions) here.0.name ≡ true = ap (λ l. is_named l here.0.name) (sym front) ∙ bad.bad here.0 (sym here.2) in
    let any = Any-from_list_any (λ (x : FnIface). bytes_eq here.0.name x.name) (take bad.before functions) named in
    let within : any.0 < bad.before = omega (arith, length-take bad.before functions, any.2) in
    let long = slice_get_within functions bad.before here.0 here.1 in
    let there : slice_get functions any.0 ≡ Some any.1 =
    slice_get_read functions (length functions) any.0 any.1 refl (omega arith) (sym any.3 ∙ get_or-take bad.before functions any.0 any.1 within) in
    rises_get (λ (one other : FnIface). one.name ≡ other.name → ⊥) functions any.0 bad.before any.1 here.0 h.distinct within there here.1
    (sym ((bytes_eq-Decides here.0.name any.1.name).0 any.4))

-- the first bad one of lines is that of so many of them, if it is among those
among : (lines : List (List ℕ)) (m n : ℕ) (bad : IsFirstBadLine lines n) → bad.before < m → IsFirstBadLine (take m lines) n
among lines m n bad lt = record {
  before = bad.before;
  functions = bad.functions;
  line = bad.line;
  counted = bad.counted;
  say = subst (λ l. Say l bad.functions) (sym (take_front bad.before m lines (omega arith))) bad.say;
  stands = get_take m lines bad.before lt ∙ bad.stands;
  bad = bad.bad;
}

one_bad : (lines : List (List ℕ)) (n m : ℕ) → IsFirstBadLine lines n → IsFirstBadLine lines m → n ≡ m
one_bad lines n m a b = elim (cases_order a.before b.before) as (λ _. n ≡ m) [
  | inl same ↦ a.counted ∙ ap suc same ∙ sym b.counted
  | inr apart ↦ absurd (elim apart as (λ _. ⊥) [
    | inl less ↦ not_both (take b.before lines) b.functions n b.say (among lines b.before n a less)
    | inr more ↦ not_both (take a.before lines) a.functions m a.say (among lines a.before m b more)
  ])
]

pub one_file : (lines : List (List ℕ)) (a b : Result Iface IfaceError) → IsIface lines a → IsIface lines b → (a ≡ Err Memory → ⊥) → (b ≡ Err Memory → ⊥) → a ≡ b
one_file lines (Err Memory) b h k p q = absurd (p refl)
one_file lines (Ok x) (Err Memory) h k p q = absurd (q refl)
one_file lines (Err (Line n)) (Err Memory) h k p q = absurd (q refl)
one_file lines (Ok x) (Ok y) h k p q = ap (λ (f : List FnIface). Ok (record { functions = f })) (say_same lines x.functions y.functions h k)
one_file lines (Ok x) (Err (Line m)) h k p q = absurd (not_both lines x.functions m h k)
one_file lines (Err (Line n)) (Ok y) h k p q = absurd (not_both lines y.functions n k h)
one_file lines (Err (Line n)) (Err (Line m)) h k p q = ap (λ i. Err (Line i)) (one_bad lines n m h k)

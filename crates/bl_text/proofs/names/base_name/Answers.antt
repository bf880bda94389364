use Rattle.std.proofs.Common.{arith, ap, sym, ◌∙◌, ◌≡◌, nat_eq, not, ℕ, ◌+◌, ◌-◌, ◌<◌, ◌≤◌, length, length-drop, get_or, drop, true, false, List, ◌==◌, lit<}
use Rattle.std.specs.List.{after_last, suffix_len}
use Rattle.std.proofs.lemmas.List.Sums.{suffix_len_is}
use Rattle.std.specs.Str.{NoCharPasses}
use Rattle.std.specs.Str.Pattern.{SplitsAroundMatch, RFindsChar}
use Rattle.std.proofs.lemmas.Bool.{ne_eqb}
use Rattle.std.proofs.lemmas.List.{get_or-drop}
use Rattle.std.proofs.lemmas.Str.Pattern.{NoCharPasses-char}
use Rattle.bl_text.proofs.names.base_name.Goals as goal

-- behind a place from which on no byte is a `/`, and before which one is, or nothing
behind : (path : List ℕ) (start : ℕ) → start ≤ length path → ((k : ℕ) → start ≤ k → k < length path → nat_eq 47 (get_or path k 0) ≡ false) → (0 < start → nat_eq 47 (get_or path (start - 1) 0) ≡ true)
    → drop start path ≡ after_last (nat_eq 47) path
behind path start bound passed stops =
    let counted = suffix_len_is (λ x. not (nat_eq 47 x)) path start 0 bound (λ k from within. ap not (passed k from within)) (λ above. ap not (stops above)) in
    let at : length path - suffix_len (λ x. not (nat_eq 47 x)) path ≡ start = omega arith in
    ap (λ n. drop n path) (sym at)

behind_slash : (path front name : List ℕ) → SplitsAroundMatch (RFindsChar 47) path front name → name ≡ after_last (nat_eq 47) path
behind_slash path front name split =
    let i = split.0 in
    let j = split.1 in
    let ends : j ≡ i + 1 = split.2.1.ends in
    let lengths = split.7 in
    split.4 ∙ behind path j (omega arith)
    (λ k from within.
    let e = get_or-drop j path (k - j) 0 in
    let back : j + (k - j) ≡ k = omega arith in
    let inside : k - j < length (drop j path) = omega (arith, length-drop j path) in
    ne_eqb 47 (get_or path k 0) (λ same. NoCharPasses-char 47 (drop j path) (k - j) split.2.0 (lit< tt) inside (e ∙ ap (λ n. get_or path n 0) back ∙ sym same)))
    (λ above.
    let before : j - 1 ≡ i = omega arith in
    ap (λ n. nat_eq 47 (get_or path n 0)) before ∙ ap (nat_eq 47) (split.2.1.byte (lit< tt)))

no_slash : (path : List ℕ) → NoCharPasses (λ d. d == 47) path → path ≡ after_last (nat_eq 47) path
no_slash path none =
    behind path 0 (omega arith)
    (λ k from within. ne_eqb 47 (get_or path k 0) (λ same. NoCharPasses-char 47 path k none (lit< tt) within (sym same)))
    (λ above. absurd (omega arith))

pub returns-in-Some : goal.returns-in-Some
returns-in-Some c = behind_slash c.args.path.now c.in-Some.field-0-0.now c.in-Some.name.now c.in-Some.ensures.cases

pub returns-in-None : goal.returns-in-None
returns-in-None c = no_slash c.args.path.now c.in-None.ensures.cases

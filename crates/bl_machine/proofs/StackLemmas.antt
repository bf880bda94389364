-- Lists whose last elements are taken off.
use Rattle.std.proofs.Common.{◌≡◌, ℕ, ◌-◌, ◌≤◌, List, [], ◌∷◌, ◌++◌, length, reverse, take, drop, get_or, sym, ap, ◌∙◌, arith, append_assoc, length-append}
use Rattle.std.proofs.lemmas.List.{length-reverse, length-take, reverse-append, take-append-drop}
use Rattle.std.proofs.Math.Seq.{take-append_seam, drop-append_seam, get_or-append_seam}

module _ {A : Type 0} where
  last_place : (s : List A) (x : A) → length (s ++ x ∷ []) - 1 ≡ length s
  last_place s x = omega (arith, length-append s (x ∷ []))

  -- the last element, and those before it
  pub last_is : (s : List A) (x d : A) → get_or (s ++ x ∷ []) (length (s ++ x ∷ []) - 1) d ≡ x
  last_is s x d = ap (λ n. get_or (s ++ x ∷ []) n d) (last_place s x) ∙ get_or-append_seam s x [] d

  pub front_is : (s : List A) (x : A) → take (length (s ++ x ∷ []) - 1) (s ++ x ∷ []) ≡ s
  front_is s x = ap (λ n. take n (s ++ x ∷ [])) (last_place s x) ∙ take-append_seam s (x ∷ [])

  -- the topmost element of what lies on others
  pub on_top : (low : List A) (x : A) (xs : List A) → low ++ reverse (x ∷ xs) ≡ (low ++ reverse xs) ++ x ∷ []
  on_top low x xs = ap (λ r. low ++ r) (reverse-append (x ∷ []) xs) ∙ sym (append_assoc low (reverse xs) (x ∷ []))

  -- lists on one another
  pub on_others : (low xs ys : List A) → low ++ reverse (xs ++ ys) ≡ (low ++ reverse ys) ++ reverse xs
  on_others low xs ys = ap (λ r. low ++ r) (reverse-append xs ys) ∙ sym (append_assoc low (reverse ys) (reverse xs))

  -- what lies below the topmost elements, and these
  pub below_top : (low xs : List A) → take (length (low ++ xs) - length xs) (low ++ xs) ≡ low
  below_top low xs =
      let n : length (low ++ xs) - length xs ≡ length low = omega (arith, length-append low xs) in
      ap (λ n. take n (low ++ xs)) n ∙ take-append_seam low xs

  pub topmost_are : (low xs : List A) → drop (length (low ++ xs) - length xs) (low ++ xs) ≡ xs
  topmost_are low xs =
      let n : length (low ++ xs) - length xs ≡ length low = omega (arith, length-append low xs) in
      ap (λ n. drop n (low ++ xs)) n ∙ drop-append_seam low xs

-- as many values as are carried are there
abbrev pub Carries : ℕ → List ℕ → Type 0
Carries count values = count ≤ length values

-- the machine's stack behind a branch or a return
abbrev pub unwound : ℕ → ℕ → List ℕ → List ℕ
unwound height count stack = take height (take (length stack - count) stack) ++ drop (length stack - count) stack

-- the carried values lie on those below
pub unwound_is : (low high values : List ℕ) (count : ℕ) → Carries count values → unwound (length low) count ((low ++ high) ++ reverse values) ≡ low ++ reverse (take count values)
unwound_is low high values count enough =
    let carried = reverse (take count values) in
    let others = high ++ reverse (drop count values) in
    let counted : length carried ≡ count = omega (arith, length-reverse (take count values), length-take count values, enough) in
    let shape : (low ++ high) ++ reverse values ≡ (low ++ others) ++ carried =
    ap (λ v. (low ++ high) ++ reverse v) (sym (take-append-drop count values)) ∙ on_others (low ++ high) (take count values) (drop count values)
    ∙ ap (λ s. s ++ carried) (append_assoc low high (reverse (drop count values))) in
    let whole = (low ++ others) ++ carried in
    ap (unwound (length low) count) shape ∙ ap (λ n. unwound (length low) n whole) (sym counted)
    ∙ ap (λ s. take (length low) s ++ drop (length whole - length carried) whole) (below_top (low ++ others) carried)
    ∙ ap (λ s. take (length low) (low ++ others) ++ s) (topmost_are (low ++ others) carried)
    ∙ ap (λ s. s ++ carried) (take-append_seam low others)

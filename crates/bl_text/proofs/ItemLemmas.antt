-- What lines say, one by one.
use Rattle.std.proofs.Common.{◌≡◌, ◌↔◌, ℕ, ◌+◌, List, [], ◌∷◌, ◌++◌, length, map, Option, Some, None, Result, Ok, Err, refl, sym, ap, subst, ◌∙◌, arith, append_assoc, append-nil}
use Rattle.bl_text.specs.Items.{item_before, items_of, TellItems, all_say, bad_line}

-- for whatever a line may say
module _ {A : Type 0} (says : List ℕ → Option A) where
  -- what so many lines say and what those behind them do
  abbrev pub so_far : ℕ → List A → Result (List A) ℕ → Result (List A) ℕ
  so_far lines items (Ok more) = Ok (items ++ more)
  so_far lines items (Err number) = Err (lines + number)

  -- that of a line and of lines behind it, by what the line says
  abbrev by_line : List (List ℕ) → Option A → Result (List A) ℕ
  by_line lines (Some item) = item_before item (items_of says lines)
  by_line lines None = Err 1

  -- one item moves from those of the rest to those before it
  moves : (number : ℕ) (items : List A) (item : A) (more : Result (List A) ℕ) → so_far number items (item_before item more) ≡ so_far (number + 1) (items ++ item ∷ []) more
  moves number items item (Ok more) = ap Ok (sym (append_assoc items (item ∷ []) more))
  moves number items item (Err n) = ap Err (omega arith)

  -- the first of the lines that are left, and those behind it
  module _ (number : ℕ) (items : List A) (left : List (List ℕ)) (line : List ℕ) (lines : List (List ℕ)) (first : left ≡ line ∷ lines) where
    -- it says something
    pub item_first : (item : A) (next : List A) → Some item ≡ says line → next ≡ items ++ item ∷ []
        → so_far number items (items_of says left) ≡ so_far (number + 1) next (items_of says lines)
    item_first item next is added =
        ap (λ all. so_far number items (items_of says all)) first
        ∙ ap (λ found. so_far number items (by_line lines found)) (sym is)
        ∙ moves number items item (items_of says lines)
        ∙ ap (λ (xs : List A). so_far (number + 1) xs (items_of says lines)) (sym added)

    -- it says nothing
    pub none_first : None ≡ says line → so_far number items (items_of says left) ≡ Err (number + 1)
    none_first is =
        ap (λ all. so_far number items (items_of says all)) first
        ∙ ap (λ found. so_far number items (by_line lines found)) (sym is)

  -- no line is left
  pub none_left : (number : ℕ) (items : List A) (left : List (List ℕ)) → left ≡ [] → so_far number items (items_of says left) ≡ Ok items
  none_left number items left none = ap (λ all. so_far number items (items_of says all)) none ∙ ap Ok (append-nil items)

  -- ---- what lines tell

  -- a line that says something, before others
  told_before : (line : List ℕ) (lines : List (List ℕ)) (item : A) → says line ≡ Some item → (answer : Result (List A) ℕ) → TellItems says lines answer
      → TellItems says (line ∷ lines) (item_before item answer)
  told_before line lines item is _ (all_say items are) = all_say (item ∷ items) (λ i. is i ∷ are i)
  told_before line lines item is _ (bad_line before bad behind items parts are none) =
      let number : length before + 1 + 1 ≡ length (line ∷ before) + 1 = omega arith in
      let told = bad_line (line ∷ before) bad behind (item ∷ items) (ap (λ ls. line ∷ ls) parts) (λ i. is i ∷ are i) none in
      subst (λ (n : ℕ). TellItems says (line ∷ lines) (Err n)) (sym number) told

  lines_tell : (lines : List (List ℕ)) → TellItems says lines (items_of says lines)
  lines_tell [] = all_say [] refl
  lines_tell (line ∷ lines) = of_line (says line) refl (lines_tell lines)
    where
      of_line : (found : Option A) → says line ≡ found → TellItems says lines (items_of says lines) → TellItems says (line ∷ lines) (by_line lines found)
      of_line (Some item) is told = told_before line lines item is (items_of says lines) told
      of_line None is told = bad_line [] line lines [] refl refl is

  -- lines each of which says something
  all_items : (lines : List (List ℕ)) (items : List A) → map says lines ≡ map Some items → items_of says lines ≡ Ok items
  all_items [] [] are = refl
  all_items [] (item ∷ items) are = cc
  all_items (line ∷ lines) [] are = cc
  all_items (line ∷ lines) (item ∷ items) are =
      let first : says line ≡ Some item = cc in
      let others : map says lines ≡ map Some items = cc in
      ap (by_line lines) first ∙ ap (item_before item) (all_items lines items others)

  -- lines of which one says nothing
  first_bad : (before : List (List ℕ)) (line : List ℕ) (behind : List (List ℕ)) (items : List A) → map says before ≡ map Some items → says line ≡ None
      → items_of says (before ++ line ∷ behind) ≡ Err (length before + 1)
  first_bad [] line behind items are none = ap (by_line behind) none
  first_bad (first ∷ before) line behind [] are none = cc
  first_bad (first ∷ before) line behind (item ∷ items) are none =
      let here : says first ≡ Some item = cc in
      let others : map says before ≡ map Some items = cc in
      let number : length before + 1 + 1 ≡ length (first ∷ before) + 1 = omega arith in
      ap (by_line (before ++ line ∷ behind)) here ∙ ap (item_before item) (first_bad before line behind items others none) ∙ ap Err number

  told_so : (lines : List (List ℕ)) (answer : Result (List A) ℕ) → TellItems says lines answer → items_of says lines ≡ answer
  told_so lines _ (all_say items are) = all_items lines items are
  told_so lines _ (bad_line before line behind items parts are none) = ap (items_of says) parts ∙ first_bad before line behind items are none

  pub items_tell : (lines : List (List ℕ)) (answer : Result (List A) ℕ) → items_of says lines ≡ answer ↔ TellItems says lines answer
  items_tell lines answer = (λ is. subst (TellItems says lines) is (lines_tell lines), told_so lines answer)

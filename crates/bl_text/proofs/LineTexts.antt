-- Texts of lines, which are read back line by line.
use Rattle.std.proofs.Common.{◌≡◌, ◌∙◌, ap, refl, ℕ, suc, ◌==◌, not, true, List, [], ◌∷◌, ◌++◌, append_assoc, length, Option, Some, None, Ok, Err}
use Rattle.std.specs.List.{All, flat_map, list_all, onto_first}
use Rattle.std.proofs.lemmas.Bool.{and_parts, cond-false, not-true}
use Rattle.std.proofs.lemmas.List.Elements.{All-head, All-tail}
use Rattle.std.proofs.lemmas.List.Folds.{list_all-append}
use Rattle.bl_text.proofs.DecimalTexts.{both_true, is_inner}
use Rattle.bl_text.specs.Items.{item_before, items_of}
use Rattle.bl_text.specs.Lines.{lines_of}

-- a text before a line feed is a line
abbrev pub HasNoFeed : List ℕ → Type 0
HasNoFeed text = list_all (λ byte. not (byte == 10)) text ≡ true

pub line_before : (text rest : List ℕ) → HasNoFeed text → lines_of (text ++ 10 ∷ rest) ≡ text ∷ lines_of rest
line_before [] rest none = refl
line_before (byte ∷ text) rest none =
    let parts = and_parts (not (byte == 10)) (list_all (λ b. not (b == 10)) text) none in
    cond-false (byte == 10) _ _ (not-true (byte == 10) parts.0) ∙ ap (onto_first byte) (line_before text rest parts.1)

pub without_feeds : (digits : List ℕ) → list_all is_inner digits ≡ true → HasNoFeed digits
without_feeds [] all = refl
without_feeds (byte ∷ digits) all =
    let parts = and_parts (is_inner byte) (list_all is_inner digits) all in
    both_true _ _ (and_parts (not (byte == 10)) (not (byte == 32)) parts.0).0 (without_feeds digits parts.1)

pub none_in_both : (a b : List ℕ) → HasNoFeed a → HasNoFeed b → HasNoFeed (a ++ b)
none_in_both a b x y = list_all-append (λ byte. not (byte == 10)) a b ∙ both_true _ _ x y

-- ---- a line for each item

module _ {A : Type 0} (says : List ℕ → Option A) (text : A → List ℕ) (IsGood : A → Type 0)
    (reads : (item : A) → IsGood item → says (text item) ≡ Some item) (none : (item : A) → IsGood item → HasNoFeed (text item)) where
  abbrev line : A → List ℕ
  line item = text item ++ 10 ∷ []

  first_line : (item : A) (items : List A) → IsGood item → lines_of (flat_map line (item ∷ items)) ≡ text item ∷ lines_of (flat_map line items)
  first_line item items good =
      ap lines_of (append_assoc (text item) (10 ∷ []) (flat_map line items)) ∙ line_before (text item) (flat_map line items) (none item good)

  pub all_read : (items : List A) → All IsGood items → items_of says (lines_of (flat_map line items)) ≡ Ok items
  all_read [] all = refl
  all_read (item ∷ items) all =
      let good = All-head IsGood item items all in
      ap (items_of says) (first_line item items good)
      ∙ said (says (text item)) (reads item good)
      ∙ ap (item_before item) (all_read items (All-tail IsGood item items all))
    where
      said : (found : Option A) → found ≡ Some item
          → (elim found [
            | Some other ↦ item_before other (items_of says (lines_of (flat_map line items)))
            | None ↦ Err 1
          ])
          ≡ item_before item (items_of says (lines_of (flat_map line items)))
      said found e = rw e refl

  pub lines_counted : (items : List A) → All IsGood items → length (lines_of (flat_map line items)) ≡ length items
  lines_counted [] all = refl
  lines_counted (item ∷ items) all =
      ap length (first_line item items (All-head IsGood item items all)) ∙ ap suc (lines_counted items (All-tail IsGood item items all))

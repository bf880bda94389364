-- What is written of counts is read back.
use Rattle.std.proofs.Common.{◌≡◌, ◌∙◌, ap, sym, refl, ℕ, zero, suc, ◌+◌, ◌^◌, ◌<◌, ◌≤◌, ◌==◌, not, true, false, List, [], ◌∷◌, ◌++◌, append_assoc, append-nil, length, take, drop, drop-cons, get_or, Option, Some, None, Ok, Err, codes, arith}
use Rattle.std.specs.Fmt.{decimal}
use Rattle.std.specs.List.{All, after_first, before_first, flat_map, list_all, position_or_len}
use Rattle.std.proofs.lemmas.Bool.{and_parts, not-true}
use Rattle.std.proofs.lemmas.List.{at_drop_all}
use Rattle.std.proofs.lemmas.List.Elements.{All-head, All-tail}
use Rattle.bl_text.specs.Digits.{decimal_below}
use Rattle.bl_text.proofs.DecimalTexts.{are_digits, is_inner, read_back}
use Rattle.bl_text.specs.Items.{item_before, items_of}
use Rattle.bl_text.specs.Lines.{lines_of}
use Rattle.bl_text.proofs.LineTexts.{HasNoFeed, line_before, none_in_both, without_feeds}
use Rattle.bl_counts.specs.CountFiles.{commands_of, count_file_of, counted, counted_by, counts_text, site_in, site_of, site_text, site_with, with_commands}
use Rattle.bl_counts.specs.RecordedRuns.{IsWritten}
use Rattle.bl_counts.specs.declared.counts.SiteCount.{SiteCount}

-- ---- lines

no_blank : (byte : ℕ) → is_inner byte ≡ true → (byte == 32) ≡ false
no_blank byte inner = not-true (byte == 32) (and_parts (not (byte == 10)) (not (byte == 32)) inner).1

-- a text before a blank
blank_at : (text rest : List ℕ) → list_all is_inner text ≡ true → position_or_len (λ byte. byte == 32) (text ++ 32 ∷ rest) ≡ length text
blank_at [] rest all = refl
blank_at (byte ∷ text) rest all =
    let parts = and_parts (is_inner byte) (list_all is_inner text) all in
    let later = blank_at text rest parts.1 in
    let one : 1 + length text ≡ suc (length text) = omega arith in
    rw (no_blank byte parts.0, later) one

front_of : (text rest : List ℕ) → take (length text) (text ++ rest) ≡ text
front_of [] rest = refl
front_of (byte ∷ text) rest = ap (λ l. byte ∷ l) (front_of text rest)

behind_front : (text rest : List ℕ) (byte : ℕ) → drop (suc (length text)) (text ++ byte ∷ rest) ≡ rest
behind_front [] rest byte = refl
behind_front (first ∷ text) rest byte = behind_front text rest byte

before_blank : (text rest : List ℕ) → list_all is_inner text ≡ true → before_first (λ byte. byte == 32) (text ++ 32 ∷ rest) ≡ text
before_blank text rest all = ap (λ (n : ℕ). take n (text ++ 32 ∷ rest)) (blank_at text rest all) ∙ front_of text (32 ∷ rest)

after_blank : (text rest : List ℕ) → list_all is_inner text ≡ true → after_first (λ byte. byte == 32) (text ++ 32 ∷ rest) ≡ rest
after_blank text rest all =
    let one : length text + 1 ≡ suc (length text) = omega arith in
    ap (λ (n : ℕ). drop (n + 1) (text ++ 32 ∷ rest)) (blank_at text rest all) ∙ (ap (λ (n : ℕ). drop n (text ++ 32 ∷ rest)) one ∙ behind_front text rest 32)

-- ---- files

commands_line : (commands : ℕ) → commands < 2 ^ 64 → commands_of (codes "commands " ++ decimal commands) ≡ Some commands
commands_line commands lt = read_back (2 ^ 64) commands lt lt

abbrev pair_text : SiteCount → List ℕ
pair_text one = decimal one.at.0 ++ 32 ∷ decimal one.count

pair_read : (one : SiteCount) → IsWritten one → site_in (pair_text one) ≡ Some one
pair_read one is =
    let at_small : one.at.0 < 2 ^ 64 = (let fits = is.at_fits in omega (arith, fits)) in
    let count_small : one.count < 2 ^ 64 = (let fits = is.count_fits in omega (arith, fits)) in
    let digits = (are_digits one.at.0 at_small).inner in
    let position = ap (decimal_below (2 ^ 32)) (before_blank (decimal one.at.0) (decimal one.count) digits) ∙ read_back (2 ^ 32) one.at.0 is.at_fits at_small in
    let count = ap (decimal_below (2 ^ 32)) (after_blank (decimal one.at.0) (decimal one.count) digits) ∙ read_back (2 ^ 32) one.count is.count_fits count_small in
    ap (λ p. site_with p (decimal_below (2 ^ 32) (after_first (λ byte. byte == 32) (pair_text one)))) position
    ∙ ap (site_with (Some one.at.0)) count ∙ with_some one is.some
  where
    with_some : (one : SiteCount) → 0 < one.count → site_with (Some one.at.0) (Some one.count) ≡ Some one
    with_some one some = positive one.count some
      where
        positive : (n : ℕ) → 0 < n → site_with (Some one.at.0) (Some n) ≡ Some (record { at = one.at; count = n })
        positive zero lt = absurd (omega arith)
        positive (suc n) lt = refl

abbrev line_text : SiteCount → List ℕ
line_text one = codes "site " ++ pair_text one

site_line : (one : SiteCount) → IsWritten one → site_of (line_text one) ≡ Some one
site_line one is = pair_read one is

no_feeds : (one : SiteCount) → IsWritten one → HasNoFeed (line_text one)
no_feeds one is =
    let at_small : one.at.0 < 2 ^ 64 = (let fits = is.at_fits in omega (arith, fits)) in
    let count_small : one.count < 2 ^ 64 = (let fits = is.count_fits in omega (arith, fits)) in
    none_in_both (decimal one.at.0) (32 ∷ decimal one.count) (without_feeds (decimal one.at.0) (are_digits one.at.0 at_small).inner) (without_feeds (decimal one.count) (are_digits one.count count_small).inner)

regroup : (one : SiteCount) (rest : List ℕ) → site_text one ++ rest ≡ line_text one ++ 10 ∷ rest
regroup one rest = go (decimal one.at.0) (decimal one.count)
  where
    go : (a b : List ℕ) → codes "site " ++ a ++ codes " " ++ b ++ 10 ∷ [] ++ rest ≡ codes "site " ++ (a ++ 32 ∷ b) ++ 10 ∷ rest
    go a b = simp append_assoc

sites_read : (counts : List SiteCount) → All IsWritten counts → items_of site_of (lines_of (flat_map site_text counts)) ≡ Ok counts
sites_read [] all = refl
sites_read (one ∷ counts) all =
    let is = All-head IsWritten one counts all in
    ap (λ text. items_of site_of (lines_of text)) (regroup one (flat_map site_text counts))
    ∙ ap (items_of site_of) (line_before (line_text one) (flat_map site_text counts) (no_feeds one is))
    ∙ said (site_of (line_text one)) (site_line one is)
    ∙ ap (item_before one) (sites_read counts (All-tail IsWritten one counts all))
  where
    said : (found : Option SiteCount) → found ≡ Some one
        → (elim found [
          | Some item ↦ item_before item (items_of site_of (lines_of (flat_map site_text counts)))
          | None ↦ Err 1
        ])
        ≡ item_before one (items_of site_of (lines_of (flat_map site_text counts)))
    said found e = rw e refl

pub reads_back : (commands : ℕ) (counts : List SiteCount) → commands < 2 ^ 64 → All IsWritten counts → count_file_of (counts_text commands counts) ≡ Ok (record { commands = commands; counts = counts })
reads_back commands counts lt all =
    let first : List ℕ = codes "commands " ++ decimal commands in
    let rest : List ℕ = flat_map site_text counts in
    ap count_file_of (append_assoc first (10 ∷ []) rest)
    ∙ ap counted (line_before first rest (without_feeds (decimal commands) (are_digits commands lt).inner))
    ∙ ap (λ found. counted_by found (lines_of rest)) (commands_line commands lt)
    ∙ ap (with_commands commands) (sites_read counts all)

-- ---- writing

pub line_pieces : (head one middle other tail : List ℕ) → head ++ (one ++ (middle ++ (other ++ tail))) ≡ head ++ one ++ middle ++ other ++ tail
line_pieces head one middle other tail = simp append_assoc

-- the lines so far and those of the rest are all
module _ (text : List ℕ) (counts : List SiteCount) (i : ℕ) where
  pub one_line : (d : SiteCount) → i < length counts → (text ++ site_text (get_or counts i d)) ++ flat_map site_text (drop (i + 1) counts) ≡ text ++ flat_map site_text (drop i counts)
  one_line d lt =
      let next : i + 1 ≡ suc i = omega arith in
      append_assoc text (site_text (get_or counts i d)) (flat_map site_text (drop (i + 1) counts))
      ∙ (ap (λ (j : ℕ). text ++ flat_map site_text (get_or counts i d ∷ drop j counts)) next
      ∙ ap (λ l. text ++ flat_map site_text l) (sym (drop-cons counts i d lt)))

  pub all_lines : (all : List ℕ) → length counts ≤ i → text ++ flat_map site_text (drop i counts) ≡ all → text ≡ all
  all_lines all le e = sym (append-nil text) ∙ (sym (at_drop_all (λ l. text ++ flat_map site_text l) counts i le) ∙ e)

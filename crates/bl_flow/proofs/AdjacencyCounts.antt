-- Rows made by counting.
use Rattle.std.proofs.Common.{◌≡◌, ℕ, zero, suc, ◌+◌, ◌-◌, ◌^◌, ◌<◌, ◌≤◌, List, [], length, set, sym, ap, subst, ◌∙◌, arith, ◌⊎◌, inl, inr, slice_index, slice_index_or, length-set}
use Rattle.std.specs.List.{Contains}
use Rattle.std.proofs.lemmas.Bool.{cases_lt, cases_eq}
use Rattle.std.proofs.lemmas.List.{get_or-set_same, get_or-set_other, get_or_past, get_or_default}
use Rattle.bl_base.specs.Sums.{sum_below}
use Rattle.bl_flow.specs.declared.split.Link.{Link}
use Rattle.bl_flow.specs.Split.{link_at}
use Rattle.bl_flow.specs.Searches.{AreRows, part_row}
use Rattle.bl_flow.specs.AdjacencyLists.{AreOffsets, row_from, rows_from, from_below, AreCounts, AreRowEnds}
use Rattle.bl_flow.proofs.Offsets.{rows_count, row_is, row_length, row_entry}

-- of the links behind some, more are from below the higher of two parts
grows : (links : List Link) (low high k m : ℕ) → low ≤ high → k ≤ m
    → from_below links high k + from_below links low m ≤ from_below links high m + from_below links low k
grows links low high k zero le before = let e : k ≡ 0 = omega arith in rw e (omega arith)
grows links low high k (suc m) le before =
    elim (cases_lt m k) as (λ _. from_below links high k + from_below links low (suc m) ≤ from_below links high (suc m) + from_below links low k) [
      | inl now ↦ let e : k ≡ suc m = omega arith in rw e (omega arith)
      | inr later ↦ let rest = grows links low high k m le later in grind (arith, rest)
    ]

rises : (links : List Link) (low high k : ℕ) → low ≤ high → from_below links low k ≤ from_below links high k
rises links low high k le = let all = grows links low high 0 k le (omega arith) in omega arith

most : (links : List Link) (part k : ℕ) → from_below links part k ≤ k
most links part zero = omega arith
most links part (suc k) = let rest = most links part k in grind (arith, rest)

none_below : (links : List Link) (k : ℕ) → from_below links 0 k ≡ 0
none_below links zero = omega arith
none_below links (suc k) = let rest = none_below links k in grind (arith, rest)

-- one link more
below_more : (links : List Link) (part k : ℕ) → (link_at links k).from < part → from_below links part (suc k) ≡ suc (from_below links part k)
below_more links part k lt = grind arith

below_same : (links : List Link) (part k : ℕ) → part ≤ (link_at links k).from → from_below links part (suc k) ≡ from_below links part k
below_same links part k le = grind arith

-- counts

pub count_small : (links : List Link) (parts k part : ℕ) (counts : List ℕ) → AreCounts links parts k counts → part < length counts → slice_index counts part ≤ k
count_small links parts k part counts are lt = let e = are.each part lt in let m = most links (suc part) k in omega arith

-- the counts of the first so many parts
pub sum_is : (links : List Link) (parts k part : ℕ) (counts : List ℕ) → AreCounts links parts k counts → part ≤ length counts → sum_below part (slice_index counts) ≡ from_below links part k
sum_is links parts k zero counts are le = let none = none_below links k in omega arith
sum_is links parts k (suc part) counts are le =
    let rest = sum_is links parts k part counts are (omega arith) in let e = are.each part (omega arith) in omega arith

pub sum_small : (links : List Link) (parts k part : ℕ) (counts : List ℕ) → AreCounts links parts k counts → part ≤ length counts → sum_below part (slice_index counts) ≤ k
sum_small links parts k part counts are le = let e = sum_is links parts k part counts are le in let m = most links part k in omega arith

pub are_ends : (links : List Link) (parts : ℕ) (counts ends : List ℕ) → AreCounts links parts (length links) counts → length ends ≡ length counts
    → ((part : ℕ) → part < length counts → slice_index ends part ≡ sum_below (suc part) (slice_index counts)) → AreRowEnds links ends
are_ends links parts counts ends are places sums = record {
  some = let p = are.places in omega arith;
  each = λ part lt. sums part (omega arith) ∙ sum_is links parts (length links) (suc part) counts are (omega arith);
}

-- sums up to places

pub record SumsTo (numbers : List ℕ) (place sum : ℕ) (sums : List ℕ) : Type 0 where
  pub places : length sums ≡ length numbers
  pub sum_ : sum ≡ sum_below place (slice_index numbers)
  pub done : (p : ℕ) → p < place → slice_index sums p ≡ sum_below (suc p) (slice_index numbers)
  pub rest : (p : ℕ) → place ≤ p → slice_index sums p ≡ slice_index numbers p

sums_rise : (numbers : List ℕ) (low high : ℕ) → low ≤ high → sum_below low (slice_index numbers) ≤ sum_below high (slice_index numbers)
sums_rise numbers low zero le = let e : low ≡ 0 = omega arith in rw e (omega arith)
sums_rise numbers low (suc high) le =
    elim (cases_lt high low) as (λ _. sum_below low (slice_index numbers) ≤ sum_below (suc high) (slice_index numbers)) [
      | inl last ↦ let e : low ≡ suc high = omega arith in rw e (omega arith)
      | inr less ↦ let rest = sums_rise numbers low high less in omega arith
    ]

pub next_small : (numbers : List ℕ) (place sum : ℕ) (sums : List ℕ) → SumsTo numbers place sum sums → place < length numbers → sum + slice_index sums place ≤ sum_below (length numbers) (slice_index numbers)
next_small numbers place sum sums to lt = let s = to.sum_ in let r = to.rest place (omega arith) in let all = sums_rise numbers (suc place) (length numbers) (omega arith) in omega arith

-- a link stands in a list from one place on and before another
pub record StandsIn (entries : List ℕ) (from to k : ℕ) : Type 0 where
  pub place : ℕ
  pub above : from ≤ place
  pub below : place < to
  pub is : slice_index entries place ≡ k

-- the first so many links are in their rows, at the rows' ends
pub record Filled (links : List Link) (places k : ℕ) (offsets entries : List ℕ) : Type 0 where
  pub parts : length offsets ≡ places
  pub count : length entries ≡ length links
  pub cursor : (part : ℕ) → part < places → slice_index offsets part + from_below links (suc part) k ≡ from_below links (suc part) (length links) + from_below links part k
  pub sound : (part place : ℕ) → part < places → slice_index offsets part ≤ place → place < from_below links (suc part) (length links) →
      (slice_index entries place < k) × ((link_at links (slice_index entries place)).from ≡ part)
  pub full : (j : ℕ) → j < k → StandsIn entries (slice_index offsets (link_at links j).from) (from_below links (suc (link_at links j).from) (length links)) j

-- the next link: it goes before where its row begins now
module _ (links : List Link) (places k offset : ℕ) (offsets entries : List ℕ) (to : Filled links places k offsets entries) (inside : (j : ℕ) → j < length links → (link_at links j).from + 1 < places)
    (lt : k < length links) (read : offset ≡ slice_index_or offsets (link_at links k).from offset) where
  abbrev from_ : ℕ
  from_ = (link_at links k).from

  abbrev offsets_ : List ℕ
  offsets_ = set offsets from_ (offset - 1)

  abbrev entries_ : List ℕ
  entries_ = set entries (offset - 1) k

  within_ : from_ < places
  within_ = let i = inside k lt in omega arith

  cursor_is : slice_index offsets from_ ≡ offset
  cursor_is = let p = to.parts in let i = within_ in sym (read ∙ get_or_default offsets from_ offset 0 (omega arith))

  above_ : from_below links from_ (length links) < offset
  above_ =
      let c = to.cursor from_ within_ in let is = cursor_is in
      let g = grows links from_ (suc from_) (suc k) (length links) (omega arith) (omega arith) in
      let a = below_more links (suc from_) k (omega arith) in let b = below_same links from_ k (omega arith) in
      omega arith

  below_ : offset ≤ from_below links (suc from_) (length links)
  below_ =
      let c = to.cursor from_ within_ in let is = cursor_is in
      let r = rises links from_ (suc from_) k (omega arith) in omega arith

  offset_within : offset ≤ length entries
  offset_within = let b = below_ in let m = most links (suc from_) (length links) in let c = to.count in omega arith

  cursor_here : slice_index offsets_ from_ ≡ offset - 1
  cursor_here = get_or-set_same offsets from_ (offset - 1) 0 (let p = to.parts in let i = within_ in omega arith)

  entry_here : slice_index entries_ (offset - 1) ≡ k
  entry_here = get_or-set_same entries (offset - 1) k 0 (let a = above_ in let w = offset_within in omega arith)

  cursor_more : (part : ℕ) → part < places → slice_index offsets_ part + from_below links (suc part) (suc k) ≡ from_below links (suc part) (length links) + from_below links part (suc k)
  cursor_more part within =
      let old = to.cursor part within in let here = cursor_here in let is = cursor_is in let a = above_ in grind (arith, old, here, is, a, get_or-set_other)

  -- a place of a row is the new one, or one that it had
  row_more : (part q : ℕ) → part < places → slice_index offsets_ part ≤ q → q < from_below links (suc part) (length links) → ((q ≡ offset - 1) × (part ≡ from_)) ⊎ ((q ≡ offset - 1 → ⊥) × (slice_index offsets part ≤ q))
  row_more part q within above below =
      let here = cursor_here in let is = cursor_is in let a = above_ in let b = below_ in let c = to.cursor part within in
      let g = grows links part (suc part) k (length links) (omega arith) (omega arith) in
      grind (arith, here, is, a, b, c, g, rises, get_or-set_other)

  row_kept : (part q : ℕ) → part < places → slice_index offsets part ≤ q → q < from_below links (suc part) (length links) → (q ≡ offset - 1 → ⊥) × (slice_index offsets_ part ≤ q)
  row_kept part q within above below =
      let here = cursor_here in let is = cursor_is in let a = above_ in let b = below_ in let c = to.cursor part within in
      let g = grows links part (suc part) k (length links) (omega arith) (omega arith) in
      (λ e. grind (arith, e, is, a, b, c, g, rises), grind (arith, here, is, a, get_or-set_other))

  sound_more : (part q : ℕ) → part < places → slice_index offsets_ part ≤ q → q < from_below links (suc part) (length links) →
      (slice_index entries_ q < suc k) × ((link_at links (slice_index entries_ q)).from ≡ part)
  sound_more part q within above below =
      let row = row_more part q within above below in let old = to.sound part q within in let here = entry_here in
      grind (arith, row, old, here, get_or-set_other)

  full_more : (j : ℕ) → j < suc k → StandsIn entries_ (slice_index offsets_ (link_at links j).from) (from_below links (suc (link_at links j).from) (length links)) j
  full_more j before =
      elim (cases_eq j k) as (λ _. StandsIn entries_ (slice_index offsets_ (link_at links j).from) (from_below links (suc (link_at links j).from) (length links)) j) [
        | inl e ↦ rw e (record { place = offset - 1; above = let here = cursor_here in omega arith; below = let a = above_ in let b = below_ in omega arith; is = entry_here })
        | inr earlier ↦
            let old = to.full j (omega arith) in let i = inside j (omega arith) in
            let kept = row_kept (link_at links j).from old.place (omega arith) old.above old.below in
            record { place = old.place; above = kept.1; below = old.below; is = get_or-set_other entries (offset - 1) old.place k 0 kept.0 ∙ old.is }
      ]

  fill_more : Filled links places (suc k) offsets_ entries_
  fill_more = record {
    parts = length-set offsets from_ (offset - 1) ∙ to.parts;
    count = length-set entries (offset - 1) k ∙ to.count;
    cursor = cursor_more;
    sound = sound_more;
    full = full_more;
  }

-- what a link more does, where its row's begin is read
pub record FillsNext (links : List Link) (places k offset : ℕ) (link : Link) (offsets entries : List ℕ) : Type 0 where
  pub some : 0 < offset
  pub within : offset ≤ length entries
  pub next : Filled links places (k + 1) (set offsets link.from (offset - 1)) (set entries (offset - 1) k)

pub fills_next : (links : List Link) (places k offset : ℕ) (link : Link) (offsets entries : List ℕ) → Filled links places k offsets entries → ((j : ℕ) → j < length links → (link_at links j).from + 1 < places)
    → k < length links → link ≡ link_at links k → offset ≡ slice_index_or offsets link.from offset → FillsNext links places k offset link offsets entries
fills_next links places k offset link offsets entries to inside lt is read =
    let read_ = subst (λ l. offset ≡ slice_index_or offsets l.from offset) is read in
    subst (λ l. FillsNext links places k offset l offsets entries) (sym is) (record {
      some = let a = above_ links places k offset offsets entries to inside lt read_ in omega arith;
      within = offset_within links places k offset offsets entries to inside lt read_;
      next = subst (λ n. Filled links places n (set offsets (link_at links k).from (offset - 1)) (set entries (offset - 1) k)) (omega arith) (fill_more links places k offset offsets entries to inside lt read_);
    })

-- all links are in their rows
module _ (links : List Link) (places : ℕ) (offsets entries : List ℕ) (to : Filled links places (length links) offsets entries) where
  begins : (part : ℕ) → part < places → slice_index offsets part ≡ from_below links part (length links)
  begins part lt = let c = to.cursor part lt in omega arith

  pub are_offsets : 0 < places → length links < 2 ^ 32 → AreOffsets offsets (length entries)
  are_offsets some small = record {
    some = let p = to.parts in omega arith;
    rise = λ part lt.
        let p = to.parts in let a = begins part (omega arith) in let b = begins (part + 1) (omega arith) in let r = rises links part (part + 1) (length links) (omega arith) in omega arith;
    within = λ part.
        let p = to.parts in let c = to.count in
        elim (cases_lt part places) as (λ _. slice_index offsets part ≤ length entries) [
          | inl low ↦ let a = begins part low in let m = most links part (length links) in omega arith
          | inr past ↦ let z = get_or_past offsets part 0 (omega arith) in omega arith
        ];
    small = let c = to.count in omega arith;
  }

  ends : (part : ℕ) → part + 1 < places → slice_index offsets (part + 1) ≡ from_below links (suc part) (length links)
  ends part lt = begins (part + 1) lt ∙ ap (λ q. from_below links q (length links)) (omega arith)

  pub are_rows : (are : AreOffsets offsets (length entries)) → ((k : ℕ) → k < length links → (link_at links k).from + 1 < places) → AreRows links (rows_from offsets entries)
  are_rows are inside = record {
    sound = λ part place lt.
        let p = to.parts in
        elim (cases_lt part (length offsets - 1)) as (λ _. (slice_index (part_row (rows_from offsets entries) part) place < length links) × ((link_at links (slice_index (part_row (rows_from offsets entries) part) place)).from ≡ part)) [
          | inl within ↦
              let row = row_is offsets entries part within in
              let size = row_length offsets entries are part within in
              let same = ap length row in
              let end = ends part (omega arith) in
              let entry = ap (λ r. slice_index r place) row ∙ row_entry offsets entries are part within place (omega arith) in
              subst (λ k. (k < length links) × ((link_at links k).from ≡ part)) (sym entry) (to.sound part (slice_index offsets part + place) (omega arith) (omega arith) (omega arith))
          | inr past ↦
              let count = rows_count offsets entries in
              let none = ap length (get_or_past (rows_from offsets entries) part [] (omega arith)) in
              absurd (omega arith)
        ];
    full = λ k lt.
        let p = to.parts in
        let below_ = inside k lt in
        let within : (link_at links k).from < length offsets - 1 = omega arith in
        let there = to.full k lt in
        let above = there.above in let below = there.below in
        let end = ends (link_at links k).from (omega arith) in
        let row = row_is offsets entries (link_at links k).from within in
        let size = row_length offsets entries are (link_at links k).from within in
        let place : there.place - slice_index offsets (link_at links k).from < length (row_from offsets entries (link_at links k).from) = omega arith in
        let entry : slice_index (row_from offsets entries (link_at links k).from) (there.place - slice_index offsets (link_at links k).from) ≡ k =
        row_entry offsets entries are (link_at links k).from within (there.place - slice_index offsets (link_at links k).from) (omega arith) ∙ ap (slice_index entries) (omega arith) ∙ there.is in
        subst (λ r. Contains r k) (sym row)
        (there.place - slice_index offsets (link_at links k).from, place, get_or_default (row_from offsets entries (link_at links k).from) (there.place - slice_index offsets (link_at links k).from) k 0 place ∙ entry);
  }

-- A file that is read piece by piece.
use Rattle.std.proofs.Common.{◌≡◌, ℕ, ◌+◌, ◌<◌, ◌≤◌, List, [], ◌∷◌, ◌++◌, length, take, drop, Bool, true, false, Option, Some, None, refl, sym, ap, ◌∙◌, subst, arith, option_map}
use Rattle.std.specs.Prelude.{Err, nat_le, unwrap_or}
use Rattle.std.specs.FinMap as fin
use Rattle.std.proofs.Math.Seq.{drop-append_seam}
use Rattle.std.proofs.lemmas.Bool.{leb-false, leb-true, ltb-false, ltb-true}
use Rattle.std.proofs.lemmas.List.{append_assoc, length-append, length-take, take-append-drop, take_all}
use Rattle.std.proofs.lemmas.Option.{same_Some}
use Rattle.bl_base.specs.Quantity.{limit_of}
use Rattle.bl_outside.specs.Shelf.{Faults, FetchFaults, Files, GivesPart, ReadFails}
use Rattle.bl_outside.specs.declared.shelf.ShelfError.{ShelfError}
use Rattle.bl_outside.specs.declared.shelf.ShelfError.TheVariants as shelf
use Rattle.bl_job.specs.Jobs.{FileIs, IsTooLong, Read}
use Rattle.bl_job.specs.ShelfReads.{Feeds, NextPiece, piece_length}

-- a file begins with these bytes
pub record Begins (files : Option Files) (name bytes : List ℕ) : Type 0 where
  pub rest : List ℕ
  pub file : FileIs files name (bytes ++ rest)

-- a decoder was fed what a file begins with, and all of it where it has ended
pub record Fed (files : Option Files) (name : List ℕ) (fed : Option (List ℕ)) (ended : Bool) : Type 0 where
  pub bytes : List ℕ
  pub is : fed ≡ Some bytes
  pub begins : 0 < length bytes → Begins files name bytes
  pub whole : ended ≡ true → FileIs files name bytes

-- ---- the next piece

-- a short piece is all that was left
all_left : (most : ℕ) (rest piece : List ℕ) → take most rest ≡ piece → length piece < most → rest ≡ piece
all_left most rest piece e short =
    let l : length piece ≡ length (take most rest) = ap length (sym e) in
    sym (take_all most rest (omega (arith, l, length-take most rest, short))) ∙ e

-- the whole that a piece is of
found : (from most : ℕ) (o : Option (List ℕ)) (piece : List ℕ) → option_map (λ all. take most (drop from all)) o ≡ Some piece → (all : List ℕ) × (o ≡ Some all) × (take most (drop from all) ≡ piece)
found from most None piece e = cc
found from most (Some all) piece e = (all, refl, same_Some _ _ e)

module _ (files : Files) (name : List ℕ) (most : ℕ) where
  -- what is left behind the bytes that a file begins with
  behind : (bytes piece : List ℕ) → (0 < length bytes → Begins (Some files) name bytes) → GivesPart (Some files) name (length bytes) most piece
      → (rest : List ℕ) × (fin.get files name ≡ Some (bytes ++ rest)) × (take most rest ≡ piece)
  behind [] piece begins given =
      let all = found 0 most (fin.get files name) piece given in
      (all.0, all.1, all.2)
  behind (x ∷ xs) piece begins given =
      let all = found (length (x ∷ xs)) most (fin.get files name) piece given in
      let known = begins (omega arith) in
      let same : all.0 ≡ (x ∷ xs) ++ known.rest = same_Some _ _ (sym all.1 ∙ known.file) in
      (known.rest, known.file, ap (take most) (sym (drop-append_seam (x ∷ xs) known.rest)) ∙ subst (λ whole. take most (drop (length (x ∷ xs)) whole) ≡ piece) same all.2)

  module _ (bytes piece : List ℕ) (begins : 0 < length bytes → Begins (Some files) name bytes) (given : GivesPart (Some files) name (length bytes) most piece) where
    longer : Begins (Some files) name (bytes ++ piece)
    longer =
        let left = behind bytes piece begins given in
        let parts : left.0 ≡ piece ++ drop most left.0 = sym (take-append-drop most left.0) ∙ ap (λ front. front ++ drop most left.0) left.2 in
        record { rest = drop most left.0; file = left.1 ∙ ap Some (ap (λ rest. bytes ++ rest) parts ∙ sym (append_assoc bytes piece (drop most left.0))) }

    ends : length piece < most → fin.get files name ≡ Some (bytes ++ piece)
    ends short =
        let left = behind bytes piece begins given in
        left.1 ∙ ap (λ rest. Some (bytes ++ rest)) (all_left most left.0 piece left.2 short)

module _ (name : List ℕ) (most : ℕ) (bytes piece : List ℕ) where
  begins_longer : (files : Option Files) → (0 < length bytes → Begins files name bytes) → GivesPart files name (length bytes) most piece → Begins files name (bytes ++ piece)
  begins_longer None begins given = record { rest = []; file = tt }
  begins_longer (Some files) begins given = longer files name most bytes piece begins given

  is_whole : (files : Option Files) → (0 < length bytes → Begins files name bytes) → GivesPart files name (length bytes) most piece → length piece < most → FileIs files name (bytes ++ piece)
  is_whole None begins given short = tt
  is_whole (Some files) begins given short = ends files name most bytes piece begins given short

pub next_fed : (files : Option Files) (name : List ℕ) (old new : Option (List ℕ)) (is_last : Bool) → Fed files name old false → NextPiece files name old new is_last → Fed files name new is_last
next_fed files name old new is_last so next =
    let n = subst (λ o. NextPiece files name o new is_last) so.is next in
    record {
      bytes = so.bytes ++ n.piece;
      is = n.fed;
      begins = λ _. begins_longer name piece_length so.bytes n.piece files so.begins n.given;
      whole = λ e. is_whole name piece_length so.bytes n.piece files so.begins n.given (ltb-true (length n.piece) piece_length (sym n.last ∙ e));
    }

-- a new decoder
pub none_fed : (files : Option Files) (name : List ℕ) (fed : Option (List ℕ)) → fed ≡ Some [] → Fed files name fed false
none_fed files name fed is = record { bytes = []; is = is; begins = λ some. absurd (omega (arith, some)); whole = λ e. absurd cc }

-- ---- the end

module _ (files : Option Files) (read : Read) where
  fed_short : (fed : Option (List ℕ)) → Fed files read.name fed true → length (unwrap_or fed []) ≤ limit_of read.quantity → Feeds files read fed true
  fed_short fed so short = record { file = subst (λ o. FileIs files read.name (unwrap_or o [])) (sym so.is) (so.whole refl); short = short }

  long : (bytes : List ℕ) → (0 < length bytes → Begins files read.name bytes) → limit_of read.quantity < length bytes → IsTooLong files read
  long bytes begins over =
      let known = begins (omega (arith, over)) in
      record { bytes = bytes ++ known.rest; file = known.file; long = omega (arith, over, length-append bytes known.rest) }

  pub fed_long : (fed : Option (List ℕ)) (ended : Bool) → Fed files read.name fed ended → limit_of read.quantity < length (unwrap_or fed []) → Feeds files read fed false
  fed_long fed ended so over = long so.bytes so.begins (subst (λ o. limit_of read.quantity < length (unwrap_or o [])) so.is over)

  -- all of it was fed
  pub fed_all : (fed : Option (List ℕ)) (is_short : Bool) → Fed files read.name fed true → is_short ≡ nat_le (length (unwrap_or fed [])) (limit_of read.quantity) → Feeds files read fed is_short
  fed_all fed true so e = fed_short fed so (leb-true (length (unwrap_or fed [])) (limit_of read.quantity) (sym e))
  fed_all fed false so e = fed_long fed true so (leb-false (length (unwrap_or fed [])) (limit_of read.quantity) (sym e))

-- what was fed, where nothing is changed
pub record FedSo (old now : Option Files) (before after : Faults) (name : List ℕ) (fed : Option (List ℕ)) : Type 0 where
  pub files : now ≡ old
  pub faults : after ≡ before
  pub so_far : Fed old name fed false

module _ (old now : Option Files) (before after : Faults) (name : List ℕ) (fed : Option (List ℕ)) (so : FedSo old now before after name fed) where
  -- the next piece was fed
  pub next_so : (more : Option (List ℕ)) (is_last ended : Bool) → is_last ≡ ended → NextPiece now name fed more is_last → Fed old name more ended
  next_so more is_last ended e given =
      next_fed old name fed more ended so.so_far (subst (λ o. NextPiece o name fed more ended) so.files (subst (λ b. NextPiece now name fed more b) e given))

  -- so there is less that may still be fed
  pub grows : (more : Option (List ℕ)) (is_last : Bool) → is_last ≡ false → NextPiece now name fed more is_last → length (unwrap_or fed []) + piece_length ≤ length (unwrap_or more [])
  grows more is_last e given =
      let bytes = so.so_far.bytes in
      let same = subst (λ o. more ≡ option_map (λ bytes. bytes ++ given.piece) o) so.so_far.is given.fed in
      let much = ltb-false (length given.piece) piece_length (sym given.last ∙ e) in
      let all : length (unwrap_or more []) ≡ length (bytes ++ given.piece) = ap (λ o. length (unwrap_or o [])) same in
      let some : length (unwrap_or fed []) ≡ length bytes = ap (λ o. length (unwrap_or o [])) so.so_far.is in
      omega (arith, much, all, some, length-append bytes given.piece)

  -- the next piece wasn't given
  pub fails_so : (X : Type 0) (error : ShelfError) (later : Faults) → FetchFaults {X = X} (Err error) after later name → FetchFaults {X = X} (Err error) before later name
  fails_so X shelf.Failed later fails = subst (λ f. ReadFails f later name) so.faults fails
  fails_so X shelf.Memory later same = same ∙ so.faults

-- faults behind an error, whatever else might have been answered
pub same_faults : (X Y : Type 0) (error : ShelfError) (before after : Faults) (name : List ℕ) → FetchFaults {X = X} (Err error) before after name → FetchFaults {X = Y} (Err error) before after name
same_faults X Y shelf.Failed before after name fails = fails
same_faults X Y shelf.Memory before after name same = same

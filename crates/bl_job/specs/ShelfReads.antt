-- Reading one file of a shelf.
use Rattle.std.specs.Prelude.{◌≡◌, ◌≤◌, ◌<◌, ℕ, List, [], length, ◌++◌, nat_lt, Bool, true, false, Option, Some, None, option_map, unwrap_or, Result, Ok, Err}
use Rattle.bl_outside.specs.Shelf.{Faults, FetchFaults, Files, GivesPart}
use Rattle.bl_outside.specs.declared.shelf.ShelfError.{ShelfError}
use Rattle.bl_job.specs.Jobs.{IsRead, IsTooLong, Read}
use Rattle.bl_job.specs.WorkAnswers.{content_in}
use Rattle.bl_job.specs.declared.content.Content.{Content}

-- what reading a file answers, with the faults before and behind: all of it, none where it is too long, or a fault
abbrev pub Obtained : Read → Option Files → Faults → Faults → Result (Option Content) ShelfError → Type 0
Obtained read files old new (Ok (Some content)) = (new ≡ old) × IsRead files read (content_in content)
Obtained read files old new (Ok None) = (new ≡ old) × IsTooLong files read
Obtained read files old new (Err e) = FetchFaults {X = Option Content} (Err e) old new read.name

-- bytes, where they are at most so many
abbrev pub IsWithin : ℕ → List ℕ → Option Content → Type 0
IsWithin most bytes (Some content) = (content_in content ≡ bytes) × (length bytes ≤ most)
IsWithin most bytes None = most < length bytes

-- how many bytes of a module are asked for at once
abbrev pub piece_length : ℕ
piece_length = 65536

-- a decoder is fed the next piece of a file, which is the last one where it is short
pub record NextPiece (files : Option Files) (name : List ℕ) (old new : Option (List ℕ)) (is_last : Bool) : Type 0 where
  pub piece : List ℕ
  pub given : GivesPart files name (length (unwrap_or old [])) piece_length piece
  pub fed : new ≡ option_map (λ bytes. bytes ++ piece) old
  pub last : is_last ≡ nat_lt (length piece) piece_length

-- a decoder was fed all of a file that is short enough, or as much of a longer one as shows that
abbrev pub Feeds : Option Files → Read → Option (List ℕ) → Bool → Type 0
Feeds files read fed true = IsRead files read (unwrap_or fed [])
Feeds files read fed false = IsTooLong files read

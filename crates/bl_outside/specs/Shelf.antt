-- What a shelf means: a finite map from names to bytes, and its faults.
use Rattle.std.specs.Prelude.{◌≡◌, ℕ, ◌+◌, ◌≤◌, List, Option, Some, None, Result, Ok, Err, take, drop}
use Rattle.std.specs.Option.{option_map}
use Rattle.std.specs.Ordering.{nat_cmp}
use Rattle.std.specs.Cmp.Lexicographic.{slice_cmp}
use Rattle.std.specs.FinMap as fin
use Rattle.bl_base.specs.Quantity.{limit_of}
use Rattle.bl_base.specs.declared.quantity.Quantity.TheVariants as quantity
use Rattle.bl_outside.specs.Faults.{Rose, one_more}
use Rattle.bl_outside.specs.declared.shelf.ShelfError.{ShelfError}
use Rattle.bl_outside.specs.declared.shelf.ShelfError.TheVariants.{Failed, Memory}

-- a finite map from names to bytes
abbrev pub Files : Type 0
Files = fin.FinMap (slice_cmp nat_cmp) (List ℕ)

-- how often reading and writing failed, and the name at which a call last failed
pub record Faults : Type 0 where
  pub reads : ℕ
  pub writes : ℕ
  pub last : List ℕ

-- the most bytes of a file that a shelf is asked for: as many as the longest file that is read may have
abbrev pub most_asked : ℕ
most_asked = limit_of quantity.Certificate

-- the bytes are the first of the entry of that name, at most so many and one more; nothing is said
-- where the map isn't exposed
abbrev pub Gives : Option Files → List ℕ → ℕ → List ℕ → Type 0
Gives None name most bytes = Unit {0}
Gives (Some files) name most bytes = option_map (take (most + 1)) (fin.get files name) ≡ Some bytes

-- the bytes are those of the entry of that name from a place on, at most so many, and none where it ends there or before; nothing is
-- said where the map isn't exposed
abbrev pub GivesPart : Option Files → List ℕ → ℕ → ℕ → List ℕ → Type 0
GivesPart None name from most bytes = Unit {0}
GivesPart (Some files) name from most bytes = option_map (λ all. take most (drop from all)) (fin.get files name) ≡ Some bytes

-- the files with these bytes under the name, and the others as they were
abbrev pub with_file : Option Files → List ℕ → List ℕ → Option Files
with_file None name bytes = None
with_file (Some files) name bytes = Some (fin.insert files name bytes)

-- no count falls
pub record NoneFalls (old new : Faults) : Type 0 where
  pub reads : old.reads ≤ new.reads
  pub writes : old.writes ≤ new.writes

-- reading failed at this name
pub record ReadFails (old new : Faults) (name : List ℕ) : Type 0 where
  pub rose : Rose old.reads new.reads
  pub none_falls : NoneFalls old new
  pub last : new.last ≡ name

-- writing failed at this name
pub record WriteFails (old new : Faults) (name : List ℕ) : Type 0 where
  pub rose : Rose old.writes new.writes
  pub none_falls : NoneFalls old new
  pub last : new.last ≡ name

-- the faults after a fetch or a part: a read fault where it failed, else as before
abbrev pub FetchFaults : {X : Type 0} → Result X ShelfError → Faults → Faults → List ℕ → Type 0
FetchFaults (Ok x) old new name = new ≡ old
FetchFaults (Err Failed) old new name = ReadFails old new name
FetchFaults (Err Memory) old new name = new ≡ old

-- the faults after a keep: a write fault where it failed, else as before
abbrev pub KeepFaults : Result (Unit {0}) ShelfError → Faults → Faults → List ℕ → Type 0
KeepFaults (Ok x) old new name = new ≡ old
KeepFaults (Err Failed) old new name = WriteFails old new name
KeepFaults (Err Memory) old new name = new ≡ old

-- the faults after a fetch or a part, where each read fault counts one and no write fault is counted
abbrev pub faults_after_fetch : {X : Type 0} → Result X ShelfError → Faults → List ℕ → Faults
faults_after_fetch (Ok x) old name = old
faults_after_fetch (Err Failed) old name = record { reads = one_more old.reads; writes = old.writes; last = name }
faults_after_fetch (Err Memory) old name = old

-- the faults after a keep, where each write fault counts one and no read fault is counted
abbrev pub faults_after_keep : Result (Unit {0}) ShelfError → Faults → List ℕ → Faults
faults_after_keep (Ok x) old name = old
faults_after_keep (Err Failed) old name = record { reads = old.reads; writes = one_more old.writes; last = name }
faults_after_keep (Err Memory) old name = old

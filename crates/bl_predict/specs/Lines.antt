-- The lines of a cache.
use Rattle.std.specs.Prelude.{◌≡◌, ℕ, ◌-◌, ◌/◌, ◌||◌, nat_eq, Bool, true, false, if◌then◌else◌, List, [], ◌∷◌, map, take}
use Rattle.lru.specs.LruCache.{LruCache}

-- the line of an address, which is one of 64 bytes
abbrev pub line_of : ℕ → ℕ
line_of address = address / 64

-- whether a list has the line
abbrev pub has : ℕ → List ℕ → Bool
has line [] = false
has line (other ∷ lines) = nat_eq line other || has line lines

-- the list without the first such line
abbrev pub without : ℕ → List ℕ → List ℕ
without line [] = []
without line (other ∷ lines) = if nat_eq line other then lines else other ∷ without line lines

-- the list behind an access: the line stands first, and leaves its old place; where it had none, the last one goes of as many as may be
abbrev pub accessed : ℕ → ℕ → List ℕ → List ℕ
accessed most line lines = if has line lines then line ∷ without line lines else line ∷ take (most - 1) lines

-- the lines of a set, the most recent first
abbrev pub lines_of : LruCache ℕ Bool → List ℕ
lines_of cache = map (λ entry. entry.0) cache.entries

-- the set of these lines, each of which has the value true
abbrev pub as_set : ℕ → List ℕ → LruCache ℕ Bool
as_set most lines = record { entries = map (λ line. (line, true)) lines; cap = most }

-- a set of that capacity, which holds true for each line
abbrev pub IsSet : ℕ → LruCache ℕ Bool → Type 0
IsSet most cache = cache ≡ as_set most (lines_of cache)

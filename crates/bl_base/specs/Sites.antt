-- Sets of sites, kept as marks.
use Rattle.std.specs.Prelude.{ℕ, zero, suc, Bool, false, List, length, get_or}
use Rattle.std.specs.FinSet.{FinSet, empty, insert, retain}
use Rattle.std.specs.Ordering.{nat_cmp}

-- the numbers below the number
abbrev pub below : ℕ → FinSet nat_cmp
below zero = empty
below (suc n) = insert (below n) n

-- the places of a list whose marks are set
abbrev pub places : List Bool → FinSet nat_cmp
places marks = retain (below (length marks)) (λ place. get_or marks place false)

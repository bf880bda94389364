-- A sink in memory.
use Rattle.std.specs.Prelude.{ℕ, ◌-◌, List, length, min, Option, None, Some}

-- the bytes taken, the most bytes in all and the most at a push where these are limited, the room that is left for more, and
-- the count of faults
pub record SinkState : Type 0 where
  pub taken : List ℕ
  pub limit : Option ℕ
  pub most : Option ℕ
  pub room : ℕ
  pub faults : ℕ

-- as many of so many bytes as the limit leaves
abbrev pub within : Option ℕ → ℕ → ℕ → ℕ
within None taken count = count
within (Some limit) taken count = min count (limit - taken)

-- as many of so many bytes as a push takes at most
abbrev pub at_once : Option ℕ → ℕ → ℕ
at_once None count = count
at_once (Some most) count = min count most

-- how many bytes of a piece of this length the sink takes: as many as a push takes at most and both limit and room leave
abbrev pub accepted : SinkState → ℕ → ℕ
accepted sink count = within sink.limit (length sink.taken) (at_once sink.most (min count sink.room))

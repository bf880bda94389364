-- The lines of observations.
use Rattle.std.specs.Prelude.{ℕ, ◌==◌, if◌then◌else◌, List, [], ◌∷◌, ◌++◌, codes}
use Rattle.std.specs.Fmt.{decimal}
use Rattle.std.specs.Int.{bit_at}
use Rattle.std.specs.List.{flat_map, range_with_len}
use Rattle.bl_rob.specs.declared.directive.Observation.{Observation}
use Rattle.bl_rob.specs.declared.directive.Observation.TheVariants.{Nothing, Read, Write, Divide, Rollback, Fail}

-- the place of a guard, where its bit is 1
abbrev pub guard_text : ℕ → ℕ → List ℕ
guard_text mask place = if bit_at mask place == 1 then codes " " ++ decimal place else []

-- the guards of a mask of so many bits, rising, where there are guards
abbrev pub guards_below : ℕ → ℕ → List ℕ
guards_below count mask = if mask == 0 then [] else codes " guards" ++ flat_map (guard_text mask) (range_with_len 0 count)

unfoldable pub guards_text : ℕ → List ℕ
guards_text mask = guards_below 64 mask

-- the line of an observation
abbrev pub observation_text : Observation → List ℕ
observation_text Nothing = codes "none" ++ 10 ∷ []
observation_text (Read address guards) = codes "read " ++ decimal address ++ guards_text guards ++ 10 ∷ []
observation_text (Write address guards) = codes "write " ++ decimal address ++ guards_text guards ++ 10 ∷ []
observation_text (Divide a b guards) = codes "divide " ++ decimal a ++ codes " " ++ decimal b ++ guards_text guards ++ 10 ∷ []
observation_text (Rollback place) = codes "rollback " ++ decimal place ++ 10 ∷ []
observation_text Fail = codes "fail" ++ 10 ∷ []

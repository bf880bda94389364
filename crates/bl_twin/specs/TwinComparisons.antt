-- What is observed of two runs, side by side, and the text on it.
use Rattle.std.specs.Prelude.{◌≡◌, ◌↔◌, ℕ, ◌+◌, ◌<◌, ◌==◌, Bool, true, false, ◌&&◌, if◌then◌else◌, List, [], ◌∷◌, ◌++◌, length, slice_get, Option, Some, None, codes}
use Rattle.std.specs.Fmt.{decimal}
use Rattle.std.specs.List.{flat_map}
use Rattle.bl_rob.specs.Observations.{Observed}
use Rattle.bl_rob.specs.declared.directive.Observation.{Observation}
use Rattle.bl_rob.specs.declared.directive.Observation.TheVariants as observation
use Rattle.bl_trace.specs.Observations.{observation_text}
use Rattle.bl_twin.specs.declared.comparison.Comparison.{Comparison}
use Rattle.bl_twin.specs.declared.comparison.Comparison.TheVariants.{Equal, Stuck, Differ}
use Rattle.bl_twin.specs.declared.comparison.Shown.{Shown}
use Rattle.bl_twin.specs.declared.comparison.Shown.TheVariants as shown

-- ---- what two runs have in common

-- two observations are the same
abbrev pub is_same : Observation → Observation → Bool
is_same observation.Nothing observation.Nothing = true
is_same (observation.Read a guards) (observation.Read b others) = (a == b) && (guards == others)
is_same (observation.Write a guards) (observation.Write b others) = (a == b) && (guards == others)
is_same (observation.Divide a b guards) (observation.Divide c d others) = (a == c) && (b == d) && (guards == others)
is_same (observation.Rollback place) (observation.Rollback other) = place == other
is_same observation.Fail observation.Fail = true
is_same _ _ = false

-- the longest common prefix of two lists, by a test of equality
abbrev pub common_by : {O : Type 0} → (O → O → Bool) → List O → List O → List O
common_by same [] others = []
common_by same (x ∷ xs) [] = []
common_by same (x ∷ xs) (y ∷ ys) = if same x y then x ∷ common_by same xs ys else []

-- a list is the longest common prefix of two lists: both go on behind it, and not with the same observation
pub record IsLongestCommonPrefix {O : Type 0} (front xs ys : List O) : Type 0 where
  pub rest : List O
  pub other : List O
  pub one_is : xs ≡ front ++ rest
  pub other_is : ys ≡ front ++ other
  pub ends : (x : O) (tail behind : List O) → rest ≡ x ∷ tail → other ≡ x ∷ behind → ⊥

-- ---- what a run shows at a place

-- behind the last observation: that a directive is refused, or nothing
abbrev pub shown_at_end : {O : Type 0} → Option ℕ → Shown O
shown_at_end None = shown.Over
shown_at_end (Some place) = shown.Stuck

-- the observation there, where there is one
abbrev pub shown_by : {O : Type 0} → Option O → Option ℕ → Shown O
shown_by (Some x) refused = shown.Seen x
shown_by None refused = shown_at_end refused

-- what a run shows behind so many observations: the next one; or that the directive there is refused; or nothing, where none is left
abbrev pub shown_behind : {O : Type 0} → Observed O → ℕ → Shown O
shown_behind seen count = shown_by (slice_get seen.made count) seen.refused

-- ---- the comparison

-- by what both runs show behind their common prefix
abbrev pub compared : {O : Type 0} → Shown O → Shown O → Comparison
compared shown.Over shown.Over = Equal
compared shown.Stuck shown.Stuck = Stuck
compared _ _ = Differ

-- two runs are observed alike to their end, or to a directive that both refuse, or they differ
abbrev pub comparison_by : {O : Type 0} → (O → O → Bool) → Observed O → Observed O → Comparison
comparison_by same one other =
    let count = length (common_by same one.made other.made) in
    compared (shown_behind one count) (shown_behind other count)

-- the same of the buffer machine's observations
abbrev pub common : List Observation → List Observation → List Observation
common = common_by is_same

abbrev pub comparison : Observed Observation → Observed Observation → Comparison
comparison = comparison_by is_same

-- ---- the text

-- the line of what a run shows
abbrev pub shown_text : {O : Type 0} → (O → List ℕ) → Shown O → List ℕ
shown_text line (shown.Seen x) = line x
shown_text line shown.Stuck = codes "stuck" ++ 10 ∷ []
shown_text line shown.Over = []

-- a line of a word and a number
abbrev pub numbered : List ℕ → ℕ → List ℕ
numbered word number = word ++ decimal number ++ 10 ∷ []

-- the last line or lines, behind so many common observations: how many there are; or the place, from 1, of the directive that both
-- refuse; or the place where the runs differ, and what each of them shows there
abbrev pub ending_text : {O : Type 0} → (O → List ℕ) → Comparison → ℕ → Shown O → Shown O → List ℕ
ending_text line Equal count one other = numbered (codes "equal ") count
ending_text line Stuck count one other = numbered (codes "stuck ") (count + 1)
ending_text line Differ count one other = numbered (codes "differ ") (count + 1) ++ shown_text line one ++ shown_text line other

-- the lines of the common observations, and then the last line or lines
abbrev pub comparison_text : {O : Type 0} → (O → O → Bool) → (O → List ℕ) → Observed O → Observed O → List ℕ
comparison_text same line one other =
    let front = common_by same one.made other.made in
    flat_map line front
    ++ ending_text line (comparison_by same one other) (length front) (shown_behind one (length front)) (shown_behind other (length front))

-- whether the starts agree in public
abbrev pub agreement_text : Bool → List ℕ
agreement_text true = codes "public agree" ++ 10 ∷ []
agreement_text false = codes "public differ" ++ 10 ∷ []

-- the text on two starts and on what is observed of their runs
abbrev pub twin_text_by : {O : Type 0} → (O → O → Bool) → (O → List ℕ) → Bool → Observed O → Observed O → List ℕ
twin_text_by same line agree one other = agreement_text agree ++ comparison_text same line one other

abbrev pub twin_text : Bool → Observed Observation → Observed Observation → List ℕ
twin_text = twin_text_by is_same observation_text

-- ---- what a comparison says

-- runs differ exactly where what is observed of them isn't equal; they are equal to their end exactly where nothing is refused, and
-- stuck exactly where both refuse a directive
pub record TellsBy {O : Type 0} (alike : O → O → Bool) (one other : Observed O) : Type 0 where
  pub differ : comparison_by alike one other ≡ Differ → one ≡ other → ⊥
  pub same : (comparison_by alike one other ≡ Differ → ⊥) → one ≡ other
  pub equal : comparison_by alike one other ≡ Equal ↔ (one ≡ other) × (one.refused ≡ None)
  pub stuck : comparison_by alike one other ≡ Stuck ↔ (one ≡ other) × ((place : ℕ) × (one.refused ≡ Some place))

abbrev pub Tells : Observed Observation → Observed Observation → Type 0
Tells = TellsBy is_same

-- what the text counts, of runs of so many directives: all of them, where the runs are equal to their end; the place of the directive
-- that is refused, where they are stuck; and where they differ, the place of a directive, at which they show different things
pub record CountsBy {O : Type 0} (alike : O → O → Bool) (directives : ℕ) (one other : Observed O) : Type 0 where
  pub equal : comparison_by alike one other ≡ Equal → length (common_by alike one.made other.made) ≡ directives
  pub stuck : comparison_by alike one other ≡ Stuck → one.refused ≡ Some (length (common_by alike one.made other.made) + 1)
  pub differ : comparison_by alike one other ≡ Differ → length (common_by alike one.made other.made) < directives
  pub shown : comparison_by alike one other ≡ Differ
      → shown_behind one (length (common_by alike one.made other.made)) ≡ shown_behind other (length (common_by alike one.made other.made)) → ⊥

abbrev pub Counts : ℕ → Observed Observation → Observed Observation → Type 0
Counts = CountsBy is_same

-- Who goes to each position, noted command by command.
use Rattle.std.proofs.Common.{◌≡◌, ◌⊎◌, ◌↔◌, inl, inr, ℕ, zero, suc, ◌+◌, ◌<◌, ◌≤◌, List, [], ◌∷◌, length, set, get_or, Option, Some, None, slice_get, refl, sym, ap, ◌∙◌, subst, arith}
use Rattle.std.specs.Prelude.{unwrap_or}
use Rattle.std.proofs.lemmas.Bool.{cases_lt}
use Rattle.std.proofs.lemmas.Option.{none-some, slice_get_within, slice_get-get_or, same_Some}
use Rattle.bl_base.proofs.OptionLemmas.{some_with, with_some}
use Rattle.bl_program.specs.Rules.{GoesTo}
use Rattle.bl_cmd.specs.Entrants.{Goes, Spans, AreNoted, AreEntrants, joined, with_entrant, with_entrants}
use Rattle.bl_program.specs.declared.command.Command.{Command}
use Rattle.bl_program.specs.declared.command.Command.TheVariants.{Set, Load, Test, Jump}
use Rattle.bl_cmd.specs.declared.tables.Entrants.{Entrants}

-- what is known of an equal relation
pub noted_same : (G H : ℕ → ℕ → Type 0) → ((from to : ℕ) → G from to ↔ H from to) → (entrants : List (Option Entrants)) → AreNoted G entrants → AreNoted H entrants
noted_same G H same entrants are to entry found = by entry (are to entry found)
  where
    by : (entry : Option Entrants) → Spans (λ from. G from to) entry → Spans (λ from. H from to) entry
    by None spans = λ from goes. spans from ((same from to).1 goes)
    by (Some e) spans = ((same e.least to).0 spans.0, (same e.greatest to).0 spans.1, λ from goes. spans.2 from ((same from to).1 goes))

-- at a place that is set, and at another one
set_here : {X : Type 0} (xs : List X) (i : ℕ) (x y : X) → slice_get (set xs i x) i ≡ Some y → y ≡ x
set_here [] i x y e = absurd (none-some y e)
set_here (z ∷ xs) zero x y e = sym (same_Some x y e)
set_here (z ∷ xs) (suc i) x y e = set_here xs i x y e

set_there : {X : Type 0} (xs : List X) (i j : ℕ) (x y : X) → (j ≡ i → ⊥) → slice_get (set xs i x) j ≡ Some y → slice_get xs j ≡ Some y
set_there [] i j x y apart e = absurd (none-some y e)
set_there (z ∷ xs) zero zero x y apart e = absurd (apart refl)
set_there (z ∷ xs) zero (suc j) x y apart e = e
set_there (z ∷ xs) (suc i) zero x y apart e = e
set_there (z ∷ xs) (suc i) (suc j) x y apart e = set_there xs i j x y (λ s. apart (ap suc s)) e

set_length : {X : Type 0} (xs : List X) (i : ℕ) (x : X) → length (set xs i x) ≡ length xs
set_length [] i x = refl
set_length (z ∷ xs) zero x = refl
set_length (z ∷ xs) (suc i) x = ap suc (set_length xs i x)

within_set : {X : Type 0} (xs : List X) (i : ℕ) (x y : X) → slice_get (set xs i x) i ≡ Some y → i < length xs
within_set xs i x y e = let lt = slice_get_within (set xs i x) i y e in let same = set_length xs i x in omega arith

module _ (G : ℕ → ℕ → Type 0) (from to : ℕ) where
  abbrev More : ℕ → ℕ → Type 0
  More f t = G f t ⊎ ((f ≡ from) × (t ≡ to))

  -- one that goes to a position, behind all others
  pub noted_more : ((f t : ℕ) → G f t → f ≤ from) → (entrants : List (Option Entrants)) → AreNoted G entrants → AreNoted More (with_entrant entrants from to)
  noted_more behind entrants are t entry found =
      elim (cases_lt t to) as (λ _. Spans (λ f. More f t) entry) [
        | inl less ↦ other (omega arith)
        | inr more ↦ elim (cases_lt to t) as (λ _. Spans (λ f. More f t) entry) [
          | inl less ↦ other (omega arith)
          | inr also ↦ let same : t ≡ to = omega arith in here same
        ]
      ]
    where
      far : (t ≡ to → ⊥) → (entry : Option Entrants) → Spans (λ f. G f t) entry → Spans (λ f. More f t) entry
      far apart None spans = λ f goes. elim goes as (λ _. ⊥) [ inl old ↦ spans f old | inr new ↦ apart new.1 ]
      far apart (Some e) spans = (inl spans.0, inl spans.1, λ f goes. elim goes as (λ _. (e.least ≤ f) × (f ≤ e.greatest)) [ inl old ↦ spans.2 f old | inr new ↦ absurd (apart new.1) ])

      other : (t ≡ to → ⊥) → Spans (λ f. More f t) entry
      other apart = far apart entry (are t entry (set_there entrants to t _ entry apart found))

      near : (old : Option Entrants) → Spans (λ f. G f to) old → Spans (λ f. More f to) (Some (joined old from))
      near None spans = (inr (refl, refl), inr (refl, refl), λ f goes. elim goes as (λ _. (from ≤ f) × (f ≤ from)) [ inl old ↦ absurd (spans f old) | inr new ↦ (omega (arith, new.0), omega (arith, new.0)) ])
      near (Some e) spans = (
        inl spans.0,
        inr (refl, refl),
        λ f goes. elim goes as (λ _. (e.least ≤ f) × (f ≤ from)) [
          | inl old ↦ ((spans.2 f old).0, behind f to old)
          | inr new ↦ (let least = behind e.least to spans.0 in omega (arith, new.0), omega (arith, new.0))
        ],
      )

      here : t ≡ to → Spans (λ f. More f t) entry
      here same =
          let at_to : slice_get (with_entrant entrants from to) to ≡ Some entry = subst (λ (k : ℕ). slice_get (with_entrant entrants from to) k ≡ Some entry) same found in
          let lt = within_set entrants to _ entry at_to in
          let is = set_here entrants to _ entry at_to in
          let got = slice_get-get_or entrants to None lt in
          let value : unwrap_or (slice_get entrants to) None ≡ get_or entrants to None = ap (λ o. unwrap_or o None) got in
          let entry_is : entry ≡ Some (joined (get_or entrants to None) from) = is ∙ ap (λ o. Some (joined o from)) value in
          subst (λ (k : ℕ). Spans (λ f. More f k) entry) (sym same)
          (subst (Spans (λ f. More f to)) (sym entry_is) (near (get_or entrants to None) (are to (get_or entrants to None) got)))

-- those of the first commands
abbrev pub Before : List Command → ℕ → ℕ → ℕ → Type 0
Before commands count from to = (from < count) × Goes commands from to

module _ (commands : List Command) (i : ℕ) (command : Command) (stands : slice_get commands i ≡ Some command) where
  -- those of one command more
  goes_more : (from to : ℕ) → (Before commands i from to ⊎ ((from ≡ i) × GoesTo command to)) ↔ Before commands (i + 1) from to
  goes_more from to = (
    λ h. elim h as (λ _. Before commands (i + 1) from to) [
      | inl old ↦ (omega (arith, old.0), old.1)
      | inr new ↦ (omega (arith, new.0), subst (λ (k : ℕ). Goes commands k to) (sym new.0) (with_some _ (λ c. GoesTo c to) command stands new.1))
    ],
    λ h. elim (cases_lt from i) as (λ _. Before commands i from to ⊎ ((from ≡ i) × GoesTo command to)) [
      | inl less ↦ inl (less, h.1)
      | inr more ↦
          let same : from ≡ i = omega (arith, h.0) in
          let goes = some_with _ (λ c. GoesTo c to) (subst (λ (k : ℕ). Goes commands k to) same h.1) in
          inr (same, subst (λ c. GoesTo c to) (same_Some goes.0 command (sym goes.1 ∙ stands)) goes.2)
    ],
  )

  -- a command that goes nowhere
  goes_nowhere : ((to : ℕ) → GoesTo command to → ⊥) → (entrants : List (Option Entrants)) → AreNoted (Before commands i) entrants → AreNoted (Before commands (i + 1)) entrants
  goes_nowhere none entrants are = noted_same (Before commands i) (Before commands (i + 1)) (λ from to. (
    λ h. (goes_more from to).0 (inl h),
    λ h. elim ((goes_more from to).1 h) as (λ _. Before commands i from to) [ inl old ↦ old | inr new ↦ absurd (none to new.1) ],
  )) entrants are

module _ (commands : List Command) (i : ℕ) where
  -- one command more
  more_by : (command : Command) → slice_get commands i ≡ Some command → (entrants : List (Option Entrants)) → AreNoted (Before commands i) entrants → AreNoted (Before commands (i + 1)) (with_entrants command entrants i)
  more_by (Set mark op to a b c) stands entrants are = goes_nowhere commands i _ stands (λ to h. h) entrants are
  more_by (Load mark kind memory to offset address) stands entrants are = goes_nowhere commands i _ stands (λ to h. h) entrants are
  more_by (Test cond one other) stands entrants are =
      let first = noted_more (Before commands i) i one.0 (λ from to h. omega (arith, h.0)) entrants are in
      let second = noted_more (More (Before commands i) i one.0) i other.0 (λ from to h. elim h as (λ _. from ≤ i) [ inl old ↦ omega (arith, old.0) | inr new ↦ omega (arith, new.0) ]) (with_entrant entrants i one.0) first in
      noted_same (More (More (Before commands i) i one.0) i other.0) (Before commands (i + 1)) (λ from to. (
        λ h. elim h as (λ _. Before commands (i + 1) from to) [
          | inl before ↦ elim before as (λ _. Before commands (i + 1) from to) [
            | inl old ↦ (goes_more commands i _ stands from to).0 (inl old)
            | inr new ↦ (goes_more commands i _ stands from to).0 (inr (new.0, inl (sym new.1)))
          ]
          | inr new ↦ (goes_more commands i _ stands from to).0 (inr (new.0, inr (sym new.1)))
        ],
        λ h. elim ((goes_more commands i _ stands from to).1 h) as (λ _. More (More (Before commands i) i one.0) i other.0 from to) [
          | inl old ↦ inl (inl old)
          | inr new ↦ elim new.1 as (λ _. More (More (Before commands i) i one.0) i other.0 from to) [ inl e ↦ inl (inr (new.0, sym e)) | inr e ↦ inr (new.0, sym e) ]
        ],
      )) (with_entrant (with_entrant entrants i one.0) i other.0) second
  more_by (Jump to) stands entrants are =
      let first = noted_more (Before commands i) i to.0 (λ from to h. omega (arith, h.0)) entrants are in
      noted_same (More (Before commands i) i to.0) (Before commands (i + 1)) (λ from x. (
        λ h. elim h as (λ _. Before commands (i + 1) from x) [
          | inl old ↦ (goes_more commands i _ stands from x).0 (inl old)
          | inr new ↦ (goes_more commands i _ stands from x).0 (inr (new.0, sym new.1))
        ],
        λ h. elim ((goes_more commands i _ stands from x).1 h) as (λ _. More (Before commands i) i to.0 from x) [ inl old ↦ inl old | inr new ↦ inr (new.0, sym new.1) ],
      )) (with_entrant entrants i to.0) first
  more_by _ stands entrants are = goes_nowhere commands i _ stands (λ to h. h) entrants are

  length_by : (command : Command) (entrants : List (Option Entrants)) → length (with_entrants command entrants i) ≡ length entrants
  length_by (Test cond one other) entrants = set_length (with_entrant entrants i one.0) other.0 _ ∙ set_length entrants one.0 _
  length_by (Jump to) entrants = set_length entrants to.0 _
  length_by _ entrants = refl

  pub entered_more : (command : Command) (old new : List (Option Entrants)) → slice_get commands i ≡ Some command → new ≡ with_entrants command old i → AreNoted (Before commands i) old → AreNoted (Before commands (i + 1)) new
  entered_more command old new stands is are = subst (AreNoted (Before commands (i + 1))) (sym is) (more_by command stands old are)

  pub entered_length : (command : Command) (old new : List (Option Entrants)) → new ≡ with_entrants command old i → length new ≡ length old
  entered_length command old new is = ap length is ∙ length_by command old

-- all commands
pub entered_all : (commands : List Command) (count : ℕ) (entrants : List (Option Entrants)) → length commands ≤ count → length entrants ≡ length commands → AreNoted (Before commands count) entrants → AreEntrants commands entrants
entered_all commands count entrants le len are = record {
  len = len;
  each = noted_same (Before commands count) (Goes commands) (λ from to. (λ h. h.1, λ h. let got = some_with _ (λ c. GoesTo c to) h in let lt = slice_get_within commands from got.0 got.1 in (omega arith, h))) entrants are;
}

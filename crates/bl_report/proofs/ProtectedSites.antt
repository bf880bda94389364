-- The protected positions of a program, one after another.
use Rattle.std.proofs.Common.{◌≡◌, ℕ, suc, ◌+◌, ◌-◌, ◌^◌, ◌<◌, ◌≤◌, Bool, true, false, cond, List, [], ◌∷◌, ◌++◌, length, append-nil, get_or, take, Option, Some, None, refl, sym, ap, subst, ◌∙◌, arith, inl, inr}
use Rattle.std.specs.Prelude.{IsSome, IsTrue, is_some, option_and_then, option_map, unwrap_or}
use Rattle.std.specs.List.{All, count_by, filter, range_with_len}
use Rattle.std.proofs.lemmas.Bool.{cases_Bool, false≢true}
use Rattle.std.proofs.lemmas.List.{append_assoc}
use Rattle.std.proofs.lemmas.List.Elements.{All-cons, All-nil}
use Rattle.std.proofs.lemmas.List.Sums.{count_by_more_no, count_by_more_yes}
use Rattle.std.proofs.lemmas.Option.{slice_get-get_or}
use Rattle.bl_program.specs.Sites.{IsSite, is_protected, listed, mark_at, mark_of}
use Rattle.bl_program.specs.declared.command.Command.TheVariants.{Ret}
use Rattle.bl_program.specs.declared.command.Mark.{Mark}
use Rattle.bl_program.specs.declared.definitions.ProgramParts.{ProgramParts as Program}
use Rattle.bl_report.specs.Reports.{is_site, protects}

-- what is protected is a site
pub protected_is_site : (program : Program) (s : ℕ) → IsTrue (is_protected program s) → IsSite program s
protected_is_site program s h = by (mark_at program s) h
  where
    by : (o : Option Mark) → unwrap_or (option_map (λ (mark : Mark). mark.protect) o) false ≡ true
        → IsSome (option_map (λ (mark : Mark). unwrap_or (listed program.weights s) (10 ^ mark.depth)) o)
    by None e = absurd (false≢true e)
    by (Some mark) e = refl

module _ (test : ℕ → Bool) (sites : List ℕ) (i n : ℕ) where
  rest_is : i < n → range_with_len i (n - i) ≡ i ∷ range_with_len (i + 1) (n - (i + 1))
  rest_is lt = let count : n - i ≡ suc (n - (i + 1)) = omega arith in ap (range_with_len i) count

  chosen_next : i < n → test i ≡ true → (sites ++ i ∷ []) ++ filter test (range_with_len (i + 1) (n - (i + 1))) ≡ sites ++ filter test (range_with_len i (n - i))
  chosen_next lt e =
      let more = filter test (range_with_len (i + 1) (n - (i + 1))) in
      append_assoc sites (i ∷ []) more ∙ ap (λ b. sites ++ cond b (i ∷ more) more) (sym e) ∙ ap (λ l. sites ++ filter test l) (sym (rest_is lt))

  other_next : i < n → test i ≡ false → sites ++ filter test (range_with_len (i + 1) (n - (i + 1))) ≡ sites ++ filter test (range_with_len i (n - i))
  other_next lt e =
      let more = filter test (range_with_len (i + 1) (n - (i + 1))) in
      ap (λ b. sites ++ cond b (i ∷ more) more) (sym e) ∙ ap (λ l. sites ++ filter test l) (sym (rest_is lt))

  -- a position is kept where it passes
  pub kept_next : i < n → (b : Bool) → test i ≡ b → (sites ++ cond b (i ∷ []) []) ++ filter test (range_with_len (i + 1) (n - (i + 1)))
      ≡ sites ++ filter test (range_with_len i (n - i))
  kept_next lt true e = chosen_next lt e
  kept_next lt false e = ap (λ l. l ++ filter test (range_with_len (i + 1) (n - (i + 1)))) (append-nil sites) ∙ other_next lt e

-- one command more: a site is counted by its mark
pub counted_next : (program : Program) (i : ℕ) → i < length program.commands
    → count_by is_site (take (i + 1) program.commands) ≡ count_by is_site (take i program.commands) + cond (is_some (mark_at program i)) 1 0
unfolding is_site
counted_next program i lt =
    let commands = program.commands in
    let mark : mark_at program i ≡ mark_of (get_or commands i Ret) = ap (option_and_then mark_of) (slice_get-get_or commands i Ret lt) in
    let same : is_site (get_or commands i Ret) ≡ is_some (mark_at program i) = ap is_some (sym mark) in
    elim (cases_Bool (is_some (mark_at program i))) as (λ _. count_by is_site (take (i + 1) commands) ≡ count_by is_site (take i commands) + cond (is_some (mark_at program i)) 1 0) [
      | inl e ↦ count_by_more_yes is_site commands i Ret lt (same ∙ e) ∙ ap (λ b. count_by is_site (take i commands) + cond b 1 0) (sym e)
      | inr e ↦
          let none : count_by is_site (take i commands) ≡ count_by is_site (take i commands) + 0 = omega arith in
          count_by_more_no is_site commands i Ret lt (same ∙ e) ∙ none ∙ ap (λ b. count_by is_site (take i commands) + cond b 1 0) (sym e)
    ]

-- one command more adds at most one
pub few_next : (count new i : ℕ) (b : Bool) → new ≡ count + cond b 1 0 → count ≤ i → new ≤ i + 1
few_next count new i true is few = omega arith
few_next count new i false is few = omega arith

-- what is protected is a site
module _ (program : Program) where
  chosen_sites : (xs : List ℕ) → All (IsSite program) (filter (is_protected program) xs)
  chosen_sites [] = All-nil (IsSite program)
  chosen_sites (x ∷ xs) =
      elim (cases_Bool (is_protected program x)) as (λ _. All (IsSite program) (filter (is_protected program) (x ∷ xs))) [
        | inl e ↦
            subst (λ b. All (IsSite program) (cond b (x ∷ filter (is_protected program) xs) (filter (is_protected program) xs))) (sym e)
            (All-cons (IsSite program) x (filter (is_protected program) xs) (protected_is_site program x e) (chosen_sites xs))
        | inr e ↦ subst (λ b. All (IsSite program) (cond b (x ∷ filter (is_protected program) xs) (filter (is_protected program) xs))) (sym e) (chosen_sites xs)
      ]

  pub protects_are_sites : All (IsSite program) (protects program)
  protects_are_sites = chosen_sites (range_with_len 0 (length program.commands))

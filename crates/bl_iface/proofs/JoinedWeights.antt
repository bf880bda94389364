-- The sites of the joined program have the weights that they have in its parts.
use Rattle.std.proofs.Common.{◌≡◌, inl, inr, ℕ, zero, suc, ◌+◌, ◌-◌, ◌<◌, ◌≤◌, true, false, length, map, Option, Some, None, refl, sym, ap, ◌∙◌, subst, arith}
use Rattle.std.specs.Prelude.{IsSome, ◌==◌, ◌^◌, option_map, option_and_then, unwrap_or}
use Rattle.std.specs.List.{All, find}
use Rattle.std.proofs.lemmas.Bool.{cases_lt, cases_eq, eq-eqb, false≢true, ne_eqb}
use Rattle.std.proofs.lemmas.List.Elements.{All-map, All-weaker}
use Rattle.std.proofs.lemmas.Option.{slice_get_past}
use Rattle.bl_base.specs.Sums.{sum_below}
use Rattle.bl_base.proofs.Sums.{sum_none, sum_same}
use Rattle.bl_base.proofs.PairwiseLemmas.{find_left, find_right, find_map}
use Rattle.bl_program.specs.Layout.{command_at}
use Rattle.bl_program.specs.Programs.{IsProgram}
use Rattle.bl_program.specs.Rules.{IsWeight, IsWellFormed}
use Rattle.bl_program.specs.Sites.{IsSite, listed, mark_at, mark_of, site_weight, weight_of}
use Rattle.bl_program.specs.declared.command.Command.{Command}
use Rattle.bl_program.specs.declared.command.Command.TheVariants.{Set}
use Rattle.bl_program.specs.declared.command.Mark.{Mark}
use Rattle.bl_program.specs.declared.definitions.ProgramParts.{ProgramParts as Program}
use Rattle.bl_program.specs.declared.definitions.SiteWeight.{SiteWeight}
use Rattle.bl_iface.specs.JoinedProgram.{Renaming, client_numbers, joined, library_numbers, library_shift, moved_position, pos_by, renamed}
use Rattle.bl_iface.specs.declared.iface.Iface.{Iface}
use Rattle.bl_iface.proofs.ShiftedPart.{moved_above}
use Rattle.bl_iface.proofs.PartPlaces.{client_at, client_long, library_at, trap_at, whole_length}

mark_renamed : (n : Renaming) (c : Command) → mark_of (renamed n c) ≡ mark_of c
mark_renamed n c = elim c as (λ c. mark_of (renamed n c) ≡ mark_of c) [ Set mark op to a b d ↦ refl | _ ↦ refl ]

mark_through : (n : Renaming) (o : Option Command) → option_and_then mark_of (option_map (renamed n) o) ≡ option_and_then mark_of o
mark_through n None = refl
mark_through n (Some c) = mark_renamed n c

abbrev weighed : Program → ℕ → Option Command → Option ℕ
weighed program s o = option_map (λ (mark : Mark). unwrap_or (listed program.weights s) (10 ^ mark.depth)) (option_and_then mark_of o)

-- a site has a command that isn't a trap
pub site_behind : (program : Program) (s : ℕ) → IsProgram program → IsSite program s → (7 ≤ s) × (s < length program.commands)
site_behind program s facts site = (
  elim (cases_lt s 7) as (λ _. 7 ≤ s) [
    | inl less ↦ let trap = facts.traps s less in absurd (false≢true (subst (λ o. IsSome (weighed program s o)) trap.2 site))
    | inr more ↦ more
  ],
  elim (cases_lt s (length program.commands)) as (λ _. s < length program.commands) [
    | inl less ↦ less
    | inr more ↦ absurd (false≢true (subst (λ o. IsSome (weighed program s o)) (slice_get_past program.commands s more) site))
  ],
)

-- a sum in two
sum_split : (m k : ℕ) (g : ℕ → ℕ) → sum_below (m + k) g ≡ sum_below m g + sum_below k (λ j. g (m + j))
sum_split m zero g = let e : m + 0 ≡ m = omega arith in ap (λ x. sum_below x g) e ∙ omega arith
sum_split m (suc k) g =
    let step : m + suc k ≡ suc (m + k) = omega arith in
    let rest = sum_split m k g in
    ap (λ x. sum_below x g) step ∙ omega arith

module _ (client library : Program) (iface : Iface) (facts : IsProgram client) (well : IsWellFormed client) (other_facts : IsProgram library) (other_well : IsWellFormed library) where
  abbrev whole : Program
  whole = joined client library iface

  abbrev position : ℕ → ℕ
  position = moved_position (library_shift client)

  abbrev moved : SiteWeight → SiteWeight
  moved entry = record { at = pos_by position entry.at; weight = entry.weight }

  -- ---- marks

  pub client_mark : (s : ℕ) → s < length client.commands → mark_at (joined client library iface) s ≡ mark_at client s
  client_mark s lt = elim (cases_lt s 7) as (λ _. mark_at whole s ≡ mark_at client s) [
    | inl less ↦ ap (option_and_then mark_of) (trap_at client library iface facts other_facts s less)
    | inr more ↦ ap (option_and_then mark_of) (client_at client library iface facts other_facts s more lt) ∙ mark_through (client_numbers iface client library) (command_at client s)
  ]

  pub library_mark : (q s : ℕ) → 7 ≤ s → q ≡ s + (length client.commands - 7) → mark_at (joined client library iface) q ≡ mark_at library s
  library_mark q s le is = ap (option_and_then mark_of) (library_at client library iface facts other_facts q s le is) ∙ mark_through (library_numbers client library) (command_at library s)

  -- ---- weights that are listed

  -- the client's stand before its end, and the library's behind its traps
  client_places : All (λ (entry : SiteWeight). entry.at.0 < length client.commands) client.weights
  client_places = All-weaker (IsWeight client) (λ entry. entry.at.0 < length client.commands) (λ entry h. (site_behind client entry.at.0 facts h.site).1) client.weights well.rule9.weights

  library_places : All (λ (entry : SiteWeight). 7 ≤ entry.at.0) library.weights
  library_places = All-weaker (IsWeight library) (λ entry. 7 ≤ entry.at.0) (λ entry h. (site_behind library entry.at.0 other_facts h.site).0) library.weights other_well.rule9.weights

  client_listed : (s : ℕ) → s < length client.commands → listed whole.weights s ≡ listed client.weights s
  client_listed s lt =
      let long = client_long client library iface facts other_facts in
      ap (option_map (λ (entry : SiteWeight). entry.weight)) (find_left (λ (entry : SiteWeight). entry.at.0 == s) client.weights (map moved library.weights)
      (All-map (λ (entry : SiteWeight). (entry.at.0 == s) ≡ false) moved library.weights
      (All-weaker (λ (entry : SiteWeight). 7 ≤ entry.at.0) (λ entry. (position entry.at.0 == s) ≡ false)
      (λ entry le. let is : position entry.at.0 ≡ entry.at.0 + (length client.commands - 7) = moved_above (library_shift client) entry.at.0 le in ne_eqb (position entry.at.0) s (λ same. omega arith))
      library.weights library_places)))

  weight_moved : (o : Option SiteWeight) → option_map (λ (entry : SiteWeight). entry.weight) (option_map moved o) ≡ option_map (λ (entry : SiteWeight). entry.weight) o
  weight_moved None = refl
  weight_moved (Some entry) = refl

  library_listed : (q s : ℕ) → 7 ≤ s → q ≡ s + (length client.commands - 7) → listed whole.weights q ≡ listed library.weights s
  library_listed q s behind is =
      let long = client_long client library iface facts other_facts in
      ap (option_map (λ (entry : SiteWeight). entry.weight)) (
      find_right (λ (entry : SiteWeight). entry.at.0 == q) client.weights (map moved library.weights)
      (All-weaker (λ (entry : SiteWeight). entry.at.0 < length client.commands) (λ entry. (entry.at.0 == q) ≡ false)
      (λ entry lt. ne_eqb entry.at.0 q (λ same. omega arith)) client.weights client_places)
      ∙ find_map (λ (entry : SiteWeight). entry.at.0 == q) moved (λ entry. entry.at.0 == s) library.weights
      (All-weaker (λ (entry : SiteWeight). 7 ≤ entry.at.0) (λ entry. (position entry.at.0 == q) ≡ (entry.at.0 == s)) same_test library.weights library_places)
      ) ∙ weight_moved (find (λ entry. entry.at.0 == s) library.weights)
    where
      same_test : (entry : SiteWeight) → 7 ≤ entry.at.0 → (moved_position (library_shift client) entry.at.0 == q) ≡ (entry.at.0 == s)
      same_test entry le =
          let there : moved_position (library_shift client) entry.at.0 ≡ entry.at.0 + (length client.commands - 7) = moved_above (library_shift client) entry.at.0 le in
          elim (cases_eq entry.at.0 s) as (λ _. (moved_position (library_shift client) entry.at.0 == q) ≡ (entry.at.0 == s)) [
            | inl same ↦ eq-eqb _ q (omega arith) ∙ sym (eq-eqb entry.at.0 s same)
            | inr other ↦ ne_eqb _ q (λ same. other (omega arith)) ∙ sym (ne_eqb entry.at.0 s other)
          ]

  -- ---- weights of sites

  abbrev by : Option ℕ → Option Mark → Option ℕ
  by o mark = option_map (λ (mark : Mark). unwrap_or o (10 ^ mark.depth)) mark

  pub client_weight : (s : ℕ) → s < length client.commands → site_weight (joined client library iface) s ≡ site_weight client s
  client_weight s lt = ap (λ o. by o (mark_at whole s)) (client_listed s lt) ∙ ap (by (listed client.weights s)) (client_mark s lt)

  pub library_weight : (q s : ℕ) → 7 ≤ s → q ≡ s + (length client.commands - 7) → site_weight (joined client library iface) q ≡ site_weight library s
  library_weight q s le is = ap (λ o. by o (mark_at whole q)) (library_listed q s le is) ∙ ap (by (listed library.weights s)) (library_mark q s le is)

  -- the weight of all sites is that of both
  pub weights_both : weight_of (joined client library iface) (λ _. true) ≡ weight_of client (λ _. true) + weight_of library (λ _. true)
  weights_both =
      let long = client_long client library iface facts other_facts in
      let all = other_facts.lengths in
      let seven : length library.commands ≡ 7 + (length library.commands - 7) = omega arith in
      let g : ℕ → ℕ = λ s. unwrap_or (site_weight whole s) 0 in
      let a : ℕ → ℕ = λ s. unwrap_or (site_weight client s) 0 in
      let b : ℕ → ℕ = λ s. unwrap_or (site_weight library s) 0 in
      let traps : sum_below 7 b ≡ 0 = sum_none 7 b (λ s lt. let trap = other_facts.traps s lt in ap (λ o. unwrap_or (by (listed library.weights s) (option_and_then mark_of o)) 0) trap.2) in
      let mine : sum_below (length client.commands) g ≡ sum_below (length client.commands) a =
      sum_same (length client.commands) g a (λ s lt. ap (λ o. unwrap_or o 0) (client_weight s lt)) in
      let its : sum_below (length library.commands - 7) (λ j. g (length client.commands + j)) ≡ sum_below (length library.commands - 7) (λ j. b (7 + j)) =
      sum_same (length library.commands - 7) _ _ (λ j lt. ap (λ o. unwrap_or o 0) (library_weight (length client.commands + j) (7 + j) (omega arith) (omega arith))) in
      let split : sum_below (length client.commands + (length library.commands - 7)) g ≡ sum_below (length client.commands) g + sum_below (length library.commands - 7) (λ j. g (length client.commands + j)) =
      sum_split (length client.commands) (length library.commands - 7) g in
      let other : sum_below (length library.commands) b ≡ sum_below 7 b + sum_below (length library.commands - 7) (λ j. b (7 + j)) =
      ap (λ k. sum_below k b) seven ∙ sum_split 7 (length library.commands - 7) b in
      let many : sum_below (length whole.commands) g ≡ sum_below (length client.commands + (length library.commands - 7)) g =
      ap (λ k. sum_below k g) (whole_length client library iface facts other_facts) in
      omega arith

-- The verdict on a certificate is one.
use Rattle.std.proofs.Common.{◌≡◌, ℕ, ◌<◌, take, Some, sym, ap, subst, ◌∙◌, arith, inl, inr, slice_get}
use Rattle.std.specs.List.{slice_index_or}
use Rattle.std.proofs.lemmas.Bool.{cases_lt}
use Rattle.std.proofs.lemmas.Option.{slice_get_within, get_or_from_slice_get}
use Rattle.std.proofs.lemmas.List.{get_or-take, length-take}
use Rattle.bl_program.specs.Sites.{is_protected}
use Rattle.bl_program.specs.declared.definitions.ProgramParts.{ProgramParts as Program}
use Rattle.bl_graph.specs.Certificates.{Certifies, IsFlowPath}
use Rattle.bl_graph.specs.declared.certificate.FlowPath.{FlowPath}
use Rattle.bl_graph.specs.declared.certificate.Certificate.{Certificate}
use Rattle.bl_witness.specs.Verdicts.{ArePaths, Breaks, at_path, at_position, at_sums, BreaksPath, no_chain, no_amount, not_once}

-- a path that breaks a rule isn't one that keeps them
breaks_not : (program : Program) (path : FlowPath) (rule : ℕ) → BreaksPath program path rule → IsFlowPath program (is_protected program) path → ⊥
breaks_not program path rule (no_chain e none) keeps = none keeps.chain
breaks_not program path rule (no_amount e chain none) keeps = let some = keeps.amount in omega arith
breaks_not program path rule (not_once e chain some other) keeps = other keeps.once

same_rule : (program : Program) (path : FlowPath) (one two : ℕ) → BreaksPath program path one → BreaksPath program path two → one ≡ two
same_rule program path one two (no_chain e none) (no_chain f _) = e ∙ sym f
same_rule program path one two (no_chain e none) (no_amount f chain _) = absurd (none chain)
same_rule program path one two (no_chain e none) (not_once f chain _ _) = absurd (none chain)
same_rule program path one two (no_amount e chain none) (no_chain f never) = absurd (never chain)
same_rule program path one two (no_amount e chain none) (no_amount f _ _) = e ∙ sym f
same_rule program path one two (no_amount e chain none) (not_once f _ some _) = absurd (omega arith)
same_rule program path one two (not_once e chain some other) (no_chain f none) = absurd (none chain)
same_rule program path one two (not_once e chain some other) (no_amount f _ none) = absurd (omega arith)
same_rule program path one two (not_once e chain some other) (not_once f _ _ _) = e ∙ sym f

module _ (program : Program) (c : Certificate) where
  at_all : (index : ℕ) (path : FlowPath) → slice_get c.paths index ≡ Some path → ArePaths program c.paths → IsFlowPath program (is_protected program) path
  at_all index path there all = subst (IsFlowPath program (is_protected program)) (get_or_from_slice_get c.paths index path path there) (all index path (slice_get_within c.paths index path there))

  before : (i j : ℕ) (path : FlowPath) → i < j → slice_get c.paths i ≡ Some path → ArePaths program (take j c.paths) → IsFlowPath program (is_protected program) path
  before i j path lt there all =
      let within = slice_get_within c.paths i path there in
      let long = length-take j c.paths in
      subst (IsFlowPath program (is_protected program)) (get_or-take j c.paths i path lt ∙ get_or_from_slice_get c.paths i path path there) (all i path (omega arith))

  -- a certificate that breaks a rule doesn't certify
  pub broken : (rule index : ℕ) → Breaks program c rule index → Certifies program c → ⊥
  broken rule index (at_path path there all breaks) certifies = breaks_not program path rule breaks (at_all index path there certifies.paths)
  broken rule index (at_position w e all fits there above) certifies = let most = certifies.fits index w there in omega arith
  broken rule index (at_sums e f all fits differ) certifies = differ (certifies.flow, certifies.weight)

  abbrev Same : ℕ → ℕ → ℕ → ℕ → Type 0
  Same one two i j = (one ≡ two) × (i ≡ j)

  paths_same : (one two i j : ℕ) (p q : FlowPath) → slice_get c.paths i ≡ Some p → slice_get c.paths j ≡ Some q → ArePaths program (take i c.paths) → ArePaths program (take j c.paths)
      → BreaksPath program p one → BreaksPath program q two → Same one two i j
  paths_same one two i j p q at_p at_q all_i all_j breaks_p breaks_q =
      elim (cases_lt i j) as (λ _. Same one two i j) [
        | inl lt ↦ absurd (breaks_not program p one breaks_p (before i j p lt at_p all_j))
        | inr ge ↦ elim (cases_lt j i) as (λ _. Same one two i j) [
          | inl lt ↦ absurd (breaks_not program q two breaks_q (before j i q lt at_q all_i))
          | inr le ↦
              let e : i ≡ j = omega arith in
              let same : p ≡ q = sym (get_or_from_slice_get c.paths i p q at_p) ∙ ap (λ k. slice_index_or c.paths k q) e ∙ get_or_from_slice_get c.paths j q q at_q in
              (same_rule program q one two (subst (λ path. BreaksPath program path one) same breaks_p) breaks_q, e)
        ]
      ]

  -- the first broken rule is one
  pub broken_once : (one two i j : ℕ) → Breaks program c one i → Breaks program c two j → Same one two i j
  broken_once one two i j (at_path p at_p all_i breaks) (at_path q at_q all_j others) = paths_same one two i j p q at_p at_q all_i all_j breaks others
  broken_once one two i j (at_path p at_p _ breaks) (at_position _ _ all _ _ _) = absurd (breaks_not program p one breaks (at_all i p at_p all))
  broken_once one two i j (at_path p at_p _ breaks) (at_sums _ _ all _ _) = absurd (breaks_not program p one breaks (at_all i p at_p all))
  broken_once one two i j (at_position _ _ all _ _ _) (at_path q at_q _ others) = absurd (breaks_not program q two others (at_all j q at_q all))
  broken_once one two i j (at_position w e _ fits there above) (at_position v f _ fits_ there_ above_) =
      elim (cases_lt i j) as (λ _. Same one two i j) [
        | inl lt ↦ let most = fits_ i lt w there in absurd (omega arith)
        | inr ge ↦ elim (cases_lt j i) as (λ _. Same one two i j) [
          | inl lt ↦ let most = fits j lt v there_ in absurd (omega arith)
          | inr le ↦ (e ∙ sym f, omega arith)
        ]
      ]
  broken_once one two i j (at_position w e _ _ there above) (at_sums _ _ _ fits _) = let most = fits i w there in absurd (omega arith)
  broken_once one two i j (at_sums _ _ all _ _) (at_path q at_q _ others) = absurd (breaks_not program q two others (at_all j q at_q all))
  broken_once one two i j (at_sums _ _ _ fits _) (at_position w e _ _ there above) = let most = fits j w there in absurd (omega arith)
  broken_once one two i j (at_sums e f _ _ _) (at_sums e_ f_ _ _ _) = (e ∙ sym e_, f ∙ sym f_)

-- The parts of a verdict, put together.
use Rattle.std.proofs.Common.{cond, ◌≡◌, ◌∙◌, ℕ, ◌-◌, ◌^◌, ◌<◌, ◌≤◌, Bool, true, false, List, length, Some, None, unwrap_or, sym, ap, subst, refl, arith, min, slice_index}
use Rattle.std.specs.Prelude.{IsSome}
use Rattle.bl_base.proofs.Sums.{sum_le, sum_term}
use Rattle.bl_program.specs.Sites.{is_protected, site_weight, weight_of}
use Rattle.bl_program.specs.declared.definitions.ProgramParts.{ProgramParts as Program}
use Rattle.bl_graph.specs.Certificates.{Certifies, flow_of, flow_through}
use Rattle.bl_graph.specs.Ranges.{AreInRange, commands}
use Rattle.bl_graph.specs.declared.certificate.Certificate.{Certificate}
use Rattle.bl_graph.proofs.ChainLemmas.{none_lighter}
use Rattle.bl_transient.proofs.ChainsMet.{chain_met}
use Rattle.bl_witness.specs.LookupAnswers.{JudgesLoads}
use Rattle.bl_witness.specs.Verdicts.{ArePaths, Breaks, Checks, Fits, Means, at_position, at_sums}
use Rattle.bl_witness.specs.declared.verdict.CertVerdict.{CertVerdict}
use Rattle.bl_witness.specs.declared.verdict.CertVerdict.TheVariants.{Yes, No}

-- ---- the verdict

module _ (program : Program) (range : AreInRange program) where
  one_weight : (s w : ℕ) → s < commands program → site_weight program s ≡ Some w → w < 2 ^ 63
  one_weight s w lt e =
      let term = sum_term (commands program) (λ t. unwrap_or (site_weight program t) 0) s lt in
      let total = range.total in
      let value : unwrap_or (site_weight program s) 0 ≡ w = ap (λ o. unwrap_or o 0) e in
      omega arith

  if_most : (b : Bool) (x : ℕ) → cond b x 0 ≤ x
  if_most true x = omega arith
  if_most false x = omega arith

  little : weight_of program (is_protected program) < 2 ^ 63
  little =
      let all = sum_le (commands program) (λ t. cond (is_protected program t) (unwrap_or (site_weight program t) 0) 0) (λ t. unwrap_or (site_weight program t) 0) (λ t _. if_most (is_protected program t) (unwrap_or (site_weight program t) 0)) in
      let total = range.total in
      omega arith

  module _ (c : Certificate) (all : ArePaths program c.paths) (loads : List ℕ) (places : length loads ≡ commands program)
      (capped : (s : ℕ) → s < commands program → slice_index loads s ≡ min (flow_through c.paths s) (2 ^ 64 - 1)) where
    within : (s w : ℕ) → site_weight program s ≡ Some w → s < commands program
    within s w e = range.sites s (subst IsSome (sym e) refl)

    fits_one : (s w : ℕ) → site_weight program s ≡ Some w → slice_index loads s ≤ w → flow_through c.paths s ≤ w
    fits_one s w e le =
        let small = one_weight s w (within s w e) e in
        let cap = capped s (within s w e) in
        omega arith

    -- a site with more flow than its weight
    pub breaks_position : (position : ℕ) → JudgesLoads program loads (Some position) → Breaks program c 4 position
    breaks_position position over =
        let w : ℕ = over.1.0 in
        let cap = capped position (within position w over.1.1) in
        let above = over.1.2 in
        at_position w refl all (λ s lt v e. fits_one s v e (over.0 s v lt e)) over.1.1 (omega arith)

    module _ (none : JudgesLoads program loads None) (flow : ℕ) (sum : flow ≡ min (flow_of c.paths) (2 ^ 64 - 1)) (weight : ℕ) (weighs : weight ≡ weight_of program (is_protected program)) where
      fits : (s : ℕ) → Fits program c s
      fits s w e = let lt = within s w e in fits_one s w e (none s w (omega arith) e)

      -- the sums differ
      pub breaks_flow : (flow ≡ weight → ⊥) → Breaks program c 5 0
      breaks_flow other = at_sums refl refl all fits (λ same. let one = same.0 in let small = little in other (omega arith))

      pub breaks_weight : (flow ≡ c.weight → ⊥) → Breaks program c 5 0
      breaks_weight other = at_sums refl refl all fits (λ same. let one = same.0 in let two = same.1 in let small = little in other (omega arith))

      -- all rules are kept
      pub keeps : flow ≡ weight → flow ≡ c.weight → Certifies program c
      keeps one two =
          let small = little in
          let exact : flow_of c.paths ≡ weight = omega arith in
          record { paths = all; fits = fits; flow = exact ∙ weighs; weight = exact ∙ (sym one ∙ two) }

  -- what a verdict says
  pub meant : (c : Certificate) (verdict : CertVerdict) → Checks program c verdict → Means program verdict
  meant c Yes kept = record { lightest = λ other sites passes. none_lighter program range (is_protected program) c kept other sites (chain_met program other passes) }
  meant c (No rule index) broken = tt

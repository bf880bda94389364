use Rattle.std.proofs.Common.{rules, arith, ◌≡◌, ℕ, length, slice_index, replicate, ap, ◌∙◌}
use Rattle.std.proofs.lemmas.List.{length-replicate}
use Rattle.bl_flow.proofs.Phases.{zeros}
use Rattle.bl_flow.proofs.paths.Tracer.new.Goals as goal

pub returns : goal.returns
returns c = λ carries.
    let passed : c.in_ok-passed.passed.items ≡ replicate c.len.result 0 = search rules in
    let places : c.in_ok-places.places.items ≡ replicate c.len-2.result 0 = search rules in
    record {
      passed_in = ap length passed ∙ length-replicate {A = ℕ} c.len.result 0 ∙ c.len.ensures;
      places_in = ap length places ∙ length-replicate {A = ℕ} c.len-2.result 0 ∙ c.len-2.ensures;
      over = λ part place below inside. let none = ap (λ p. slice_index p part) passed ∙ zeros c.len.result part in absurd (omega arith);
    }

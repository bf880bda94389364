use Rattle.std.proofs.Common.{◌≡◌, ◌<◌, ◌-◌, ◌^◌, ◌∙◌, ℕ, ap, length, min, slice_index}
use Rattle.bl_program.specs.declared.definitions.ProgramParts.{ProgramParts as Program}
use Rattle.bl_graph.specs.Certificates.{flow_through}
use Rattle.bl_graph.specs.Ranges.{commands}
use Rattle.bl_witness.specs.Verdicts.{ArePaths, at_path}
use Rattle.bl_witness.proofs.VerdictParts.{breaks_flow, breaks_position, breaks_weight, keeps}
use Rattle.bl_witness.proofs.verdict.checked.Goals as goal
use Rattle.bl_witness.proofs.verdict.checked.Goals.{After-deref, then-flow-protect_weight-via-then-flow-protect_weight, then-flow-protect_weight-via-else-flow-protect_weight+then-flow-certificate}

pub returns-in-Some : goal.returns-in-Some
returns-in-Some c =
    let found = rw (c.as_slice-paths.ensures, c.parts-parts.ensures.same, c.program.ensures.same, c.in-Some.is) at c.first_broken.ensures in
    at_path found.0 found.1 found.2 found.3

-- what is known of the flow through sites
all_are : (c : After-deref) → ArePaths c.args.program.now c.args.certificate.now.paths
all_are c = rw (c.as_slice-paths.ensures, c.parts-parts.ensures.same, c.program.ensures.same, c.in_default.is) at c.first_broken.ensures

places_are : (c : After-deref) → length c.deref.result.now ≡ commands c.args.program.now
places_are c =
    ap length c.deref.ensures.value ∙ c.in_ok-loads.ensures.places ∙ c.len.ensures ∙ ap (λ (p : Program). length p.commands) (c.parts-parts.ensures.same ∙ c.program.ensures.same)

capped_are : (c : After-deref) → (s : ℕ) → s < commands c.args.program.now → slice_index c.deref.result.now s ≡ min (flow_through c.args.certificate.now.paths s) (2 ^ 64 - 1)
capped_are c =
    rw c.deref.ensures.value (rw (c.len.ensures, c.parts-parts.ensures.same, c.program.ensures.same, c.as_slice-paths.ensures) at c.in_ok-loads.ensures.flow)

pub returns-in-Some-overloaded : goal.returns-in-Some-overloaded
returns-in-Some-overloaded c =
    let before = (goal.at.returns-in-Some-overloaded c).After-deref in
    breaks_position c.args.program.now c.ranges-2.ensures c.args.certificate.now (all_are before) c.deref.result.now (places_are before) (capped_are before)
    c.in-Some-overloaded.position (rw c.in-Some-overloaded.is at c.overloaded.ensures)

pub returns-then-flow-protect_weight : goal.returns-then-flow-protect_weight
returns-then-flow-protect_weight c =
    let before = (goal.at.returns-then-flow-protect_weight c).After-deref in
    elim c.then-flow-protect_weight.branch [
      | then-flow-protect_weight-via-then-flow-protect_weight w ↦
          breaks_flow c.args.program.now c.ranges-2.ensures c.args.certificate.now (all_are before) c.deref.result.now (places_are before) (capped_are before)
          (rw c.in_default-overloaded.is at c.overloaded.ensures) c.flow_sum-flow.result (rw c.as_slice-paths.ensures at c.flow_sum-flow.ensures)
          c.protect_weight.result c.protect_weight.ensures w.if-flow-protect_weight.true
      | then-flow-protect_weight-via-else-flow-protect_weight+then-flow-certificate w ↦
          breaks_weight c.args.program.now c.ranges-2.ensures c.args.certificate.now (all_are before) c.deref.result.now (places_are before) (capped_are before)
          (rw c.in_default-overloaded.is at c.overloaded.ensures) c.flow_sum-flow.result (rw c.as_slice-paths.ensures at c.flow_sum-flow.ensures)
          c.protect_weight.result c.protect_weight.ensures w.if-flow-certificate.true
    ]

pub returns : goal.returns
returns c =
    let before = (goal.at.returns c).After-deref in
    keeps c.args.program.now c.ranges-2.ensures c.args.certificate.now (all_are before) c.deref.result.now (places_are before) (capped_are before)
    (rw c.in_default-overloaded.is at c.overloaded.ensures) c.flow_sum-flow.result (rw c.as_slice-paths.ensures at c.flow_sum-flow.ensures)
    c.protect_weight.result c.protect_weight.ensures c.if-flow-protect_weight.false c.if-flow-certificate.false

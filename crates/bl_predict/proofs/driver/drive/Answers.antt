use Rattle.std.proofs.Common.{ℕ, length, ap, ◌∙◌}
use Rattle.std.proofs.lemmas.List.{length-replicate}
use Rattle.bl_predict.specs.Drives.{begun, driven, drive_state, drive_step}
use Rattle.bl_rob.specs.Machines.{end_in}
use Rattle.bl_predict.proofs.DriveLemmas.{drives_begin, drives_on, drives_end, drives_ended, none_yet, not_ended, has_ended, answered}
use Rattle.bl_predict.proofs.driver.drive.Goals.{then-loop-steps-test+else-is_none, else-loop-steps-test}
use Rattle.bl_predict.proofs.driver.drive.Goals as goal

pub loop-steps-init : goal.loop-steps-init
loop-steps-init c =
    let first = begun c.args.p.now c.args.function c.args.start.now in (
      c.in_ok-driver.ensures.same,
      ap (λ d. length d.counters) c.in_ok-driver.ensures.begun ∙ length-replicate {A = ℕ} 1024 1,
      drives_begin c.args.p.now c.args.most first (drive_state c.in_ok-driver.driver) c.in_ok-driver.ensures.begun (none_yet c.args.p.now c.args.function c.args.start.now),
    )

pub loop-steps-preserved : goal.loop-steps-preserved
loop-steps-preserved c =
    let first = begun c.args.p.now c.args.function c.args.start.now in
    let old = drive_state c.loop-steps.driver in (
      c.step.ensures.same ∙ c.loop-steps.invariant.0,
      c.step.ensures.length,
      drives_on c.args.p.now c.args.most first c.loop-steps.steps old (drive_state c.step.new.self) c.loop-steps.invariant.2 c.loop-steps-test.true
          (not_ended c.finished.result (end_in old.state) c.is_none.result c.finished.ensures c.is_none.ensures c.if-is_none.true)
          (c.in_ok-step.ensures.drive_step ∙ ap (λ Q. drive_step Q old) c.loop-steps.invariant.0),
    )

pub returns : goal.returns
returns c =
    let first = begun c.args.p.now c.args.function c.args.start.now in
    let old = drive_state c.loop-steps.driver in
    elim c.loop-steps-test.branch [
      | then-loop-steps-test+else-is_none w ↦ answered c.loop-steps.driver.rob.program c.args.p.now old (driven c.args.p.now c.args.most first) c.answer.result
          c.loop-steps.invariant.0
          (drives_ended c.args.p.now c.args.most first c.loop-steps.steps old c.loop-steps.invariant.2
          (has_ended w.finished.result (end_in old.state) w.is_none.result w.finished.ensures w.is_none.ensures w.if-is_none.false)) c.answer.ensures
      | else-loop-steps-test w ↦ answered c.loop-steps.driver.rob.program c.args.p.now old (driven c.args.p.now c.args.most first) c.answer.result
          c.loop-steps.invariant.0
          (drives_end c.args.p.now c.args.most first c.loop-steps.steps old c.loop-steps.invariant.2 w.loop-steps-test.false) c.answer.ensures
    ]

use Rattle.std.proofs.Common.{◌-◌, ◌≡◌, length}
use Rattle.bl_predict.specs.Drives.{begun, drive_state}
use Rattle.bl_predict.proofs.DriveLemmas.{DrivesOn}
use Rattle.bl_predict.proofs.driver.drive.Given as goal

abbrev pub invariant-loop-steps : goal.invariant-loop-steps
invariant-loop-steps l =
    (l.driver.rob.program ≡ l.p) × (length l.driver.counters.items ≡ 1024) × DrivesOn l.p l.most (begun l.p l.function l.start) l.steps (drive_state l.driver)

abbrev pub decreases-loop-steps : goal.decreases-loop-steps
decreases-loop-steps l = l.most - l.steps

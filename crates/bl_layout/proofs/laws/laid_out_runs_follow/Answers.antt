use Rattle.std.proofs.Common.{slice_index}
use Rattle.bl_select.proofs.SelectedRuns.{runs_follow}
use Rattle.bl_select.proofs.Within.{runs_within}
use Rattle.bl_layout.specs.Slots.{selection_of}
use Rattle.bl_layout.proofs.LaidRuns.{runs_chosen}
use Rattle.bl_layout.proofs.Placings.{placings}
use Rattle.bl_layout.proofs.laws.laid_out_runs_follow.Goals as goal

pub returns : goal.returns
returns c program starts code frame laid frames room n s t core reached matches run =
    let e = selection_of program frame (slice_index starts) in
    runs_follow program e code frames (placings program frame room) n s t core matches
    (runs_within program e code n s t reached (runs_chosen program reached.facts reached.rules starts code laid frame n s t run))

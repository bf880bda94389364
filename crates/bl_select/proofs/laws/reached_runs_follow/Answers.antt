use Rattle.bl_select.proofs.SelectedRuns.{runs_follow}
use Rattle.bl_select.proofs.Within.{runs_within}
use Rattle.bl_select.proofs.laws.reached_runs_follow.Goals as goal

pub returns : goal.returns
returns c program e code frame placings n s t core reached matches run =
    runs_follow program e code frame placings n s t core matches (runs_within program e code n s t reached run)

use Rattle.bl_layout.proofs.LaidRuns.{runs_chosen}
use Rattle.bl_layout.proofs.Placings.{placings}
use Rattle.bl_layout.proofs.laws.choices_are_made.Goals as goal

pub returns : goal.returns
returns c = record {
  placed = placings;
  chosen = λ program starts code frame laid n s t reached run. runs_chosen program reached.facts reached.rules starts code laid frame n s t run;
}

use Rattle.bl_rename.proofs.RenamedRuns.{outcome_there, outcome_here}
use Rattle.bl_rename.proofs.laws.outcomes_are_kept.Goals as goal

pub returns : goal.returns
returns c = record {
  forward = λ numbers tree other function start n o renames s. outcome_there numbers tree other renames function start n o s;
  backward = λ numbers tree other function start n p renames runs is s. outcome_here numbers tree other renames runs function start is n p s;
}

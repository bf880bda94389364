use Rattle.bl_words.proofs.WordsLemmas.{interp_in_range, predict_in_range, run_in_range}
use Rattle.bl_words.proofs.laws.steps_in_range.Goals as goal

pub returns-clause-interp : goal.returns-clause-interp
returns-clause-interp c = interp_in_range

pub returns-clause-run : goal.returns-clause-run
returns-clause-run c = run_in_range

pub returns-clause-predict : goal.returns-clause-predict
returns-clause-predict c = predict_in_range

use Rattle.bl_trace.proofs.StartLemmas.{answer_tells}
use Rattle.bl_trace.proofs.laws.what_lines_tell.Goals as goal

pub returns : goal.returns
returns c = answer_tells

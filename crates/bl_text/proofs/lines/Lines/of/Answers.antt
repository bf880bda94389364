use Rattle.bl_text.proofs.LineSplits.{few_lines}
use Rattle.bl_text.proofs.lines.Lines.of.Goals as goal

pub returns-clause-few : goal.returns-clause-few
returns-clause-few c = few_lines c.args.text.now

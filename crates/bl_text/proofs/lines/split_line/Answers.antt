use Rattle.bl_text.proofs.LineSplits.{line_alone, line_split}
use Rattle.bl_text.proofs.lines.split_line.Goals as goal

pub returns-then-end-text : goal.returns-then-end-text
returns-then-end-text c = λ some. line_alone c.args.text.now c.place_of-end.result some c.place_of-end.ensures.place c.if-end-text.true

pub returns : goal.returns
returns c = λ some. line_split c.args.text.now c.place_of-end.result some c.place_of-end.ensures.place

use Rattle.std.proofs.Common.{arith, rules}
use Rattle.bl_text.specs.Lines.{lines_of}
use Rattle.bl_trace.proofs.StartFits.{fits_whole}
use Rattle.bl_trace.proofs.read.read_start.Goals as goal

pub returns-clause-fits : goal.returns-clause-fits
returns-clause-fits c =
    fits_whole c.args.params.now c.args.sizes.now (lines_of c.args.bytes.now) c.in_ok-start.start (search rules) (omega arith)

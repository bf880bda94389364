use Rattle.bl_build.proofs.WeightLemmas.{of_bad_file, of_program}
use Rattle.bl_build.proofs.counts.counts_of.Goals as goal

pub returns-in-Ok : goal.returns-in-Ok
returns-in-Ok c = of_program c.args.bytes.now c.args.program.now c.in-Ok.file c.in-Ok.ensures.file c.in-Ok.ensures.small c.of_program.result c.of_program.ensures

pub returns-in-Err : goal.returns-in-Err
returns-in-Err c = of_bad_file c.args.bytes.now c.args.program.now c.in-Err.error c.in-Err.ensures.file c.of_count_file.result c.of_count_file.ensures

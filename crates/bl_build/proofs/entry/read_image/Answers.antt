use Rattle.bl_build.proofs.EntryStageLemmas.{not_imaged}
use Rattle.bl_build.proofs.entry.read_image.Goals as goal

pub returns-in-Err : goal.returns-in-Err
returns-in-Err c =
    not_imaged c.args.bytes.now c.in-Err.error c.in-Err.ensures.refused c.of_image.result c.of_image.ensures

use Rattle.bl_build.specs.InterfaceStages.{reading, siding}
use Rattle.bl_job.specs.Stages.{at_first}
use Rattle.bl_job.proofs.StageLemmas.{tells_on}
use Rattle.bl_build.proofs.InterfaceWork.{not_sided, sided}
use Rattle.bl_build.proofs.part.part_program.Goals as goal

pub choose-requires : goal.choose-requires
choose-requires c = c.in-Ok-match_all.ensures.1

pub returns-in-Err-clause-staged : goal.returns-in-Err-clause-staged
returns-in-Err-clause-staged c =
    tells_on (reading.Refuses c.args.iface.now) ((siding c.args.role c.args.iface.now).Refuses c.args.program) (λ refusal r. at_first r) c.in-Err.error c.in-Err.ensures

pub returns-in-Err-match_all-clause-staged : goal.returns-in-Err-match_all-clause-staged
returns-in-Err-match_all-clause-staged c =
    not_sided c.args.role c.args.iface.now c.args.program c.in-Ok.iface c.in-Ok.ensures c.in-Err-match_all.error c.in-Err-match_all.ensures

pub returns-in-Ok-match_all-clause-staged : goal.returns-in-Ok-match_all-clause-staged
returns-in-Ok-match_all-clause-staged c =
    sided c.args.role c.args.iface.now c.args.program c.in-Ok.iface c.in-Ok.ensures c.choose.result c.in-Ok-match_all.ensures.1 c.choose.ensures.staged

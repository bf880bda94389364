use Rattle.bl_build.proofs.WeightLemmas.{is_refused, is_weighed}
use Rattle.bl_build.proofs.counts.weighed.Goals as goal

pub returns-in-Ok-weigh : goal.returns-in-Ok-weigh
returns-in-Ok-weigh c =
    is_weighed c.args.bytes.now c.args.program c.in-Ok.counts c.as_slice.result.now c.as_slice.ensures c.in-Ok.ensures.0 c.in-Ok-weigh.weighted c.in-Ok-weigh.ensures

pub returns : goal.returns
returns c =
    is_refused c.args.bytes.now c.args.program c.in-Ok.counts c.as_slice.result.now c.as_slice.ensures c.in-Ok.ensures.0 c.in-Err-weigh.field-0-0 c.in-Err-weigh.error c.in-Err-weigh.ensures
    c.of_weighing.result c.of_weighing.ensures

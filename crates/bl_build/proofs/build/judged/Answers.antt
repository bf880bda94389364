use Rattle.std.proofs.Common.{◌≡◌, ap, arith, length}
use Rattle.bl_base.specs.declared.quantity.Quantity.TheVariants as quantity
use Rattle.bl_job.specs.Refusals.{limit}
use Rattle.bl_build.specs.BuildStages.{HasLongImage}
use Rattle.bl_job.proofs.StageLemmas.{told_as}
use Rattle.bl_build.proofs.build.judged.Goals as goal

pub returns-then-length-limit : goal.returns-then-length-limit
returns-then-length-limit c =
    let length_is = c.image_length-length.ensures in
    let same : c.image_length-length.result ≡ length length_is.bytes = omega (arith, length_is.counted, c.if-length.false) in
    told_as (limit quantity.Image c.image_length-length.result) (HasLongImage c.args.program) (record {
      bytes = length_is.bytes;
      image = length_is.spelled;
      long = omega (arith, same, c.if-length-limit.true, c.limit.ensures);
      told = ap (limit quantity.Image) same;
    }) c.limit-then-length-limit.result c.limit-then-length-limit.ensures

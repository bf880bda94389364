use Rattle.std.proofs.Common.{Bool, Option, subst}
use Rattle.bl_base.specs.declared.quantity.Quantity.TheVariants as quantity
use Rattle.bl_job.specs.ShelfReads.{Feeds}
use Rattle.bl_job.specs.declared.content.Content.{Content}
use Rattle.bl_job.proofs.PiecewiseReads.{same_faults}
use Rattle.bl_job.proofs.reading.read_module.Goals as goal

pub returns-in-Ok-true-clause-obtained : goal.returns-in-Ok-true-clause-obtained
returns-in-Ok-true-clause-obtained g c = (
  c.in-Ok-true.ensures.faults,
  subst (Feeds (g.F.Shelf.files c.args.files.now) (record { name = c.args.name.now; quantity = quantity.Module }) c.feed_all.new.decoder) c.in-Ok-true.field-0-test c.in-Ok-true.ensures.fed,
)

pub returns-in-Ok-false-clause-obtained : goal.returns-in-Ok-false-clause-obtained
returns-in-Ok-false-clause-obtained g c = (
  c.in-Ok-false.ensures.faults,
  subst (Feeds (g.F.Shelf.files c.args.files.now) (record { name = c.args.name.now; quantity = quantity.Module }) c.feed_all.new.decoder) c.in-Ok-false.field-0-test c.in-Ok-false.ensures.fed,
)

pub returns-in-Err-clause-obtained : goal.returns-in-Err-clause-obtained
returns-in-Err-clause-obtained g c = same_faults Bool (Option Content) c.in-Err.error _ _ _ c.in-Err.ensures.faults

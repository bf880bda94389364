use Rattle.std.proofs.Common.{◌∙◌, [], Bool, ap, arith, length, refl}
use Rattle.std.specs.Prelude.{nat_le, unwrap_or}
use Rattle.bl_base.specs.declared.quantity.Quantity.TheVariants as quantity
use Rattle.bl_job.proofs.PiecewiseReads.{fails_so, fed_all, fed_long, grows, next_so, none_fed}
use Rattle.bl_job.proofs.reading.feed_all.Goals as goal

pub loop-alloc-init : goal.loop-alloc-init
loop-alloc-init g c = record { files = refl; faults = refl; so_far = none_fed _ _ _ c.requires }

pub loop-alloc-preserved : goal.loop-alloc-preserved
loop-alloc-preserved g c = record {
  files = c.in-Ok-false.ensures.files ∙ c.loop-alloc.invariant.files;
  faults = c.in-Ok-false.ensures.faults ∙ c.loop-alloc.invariant.faults;
  so_far = next_so _ _ _ _ _ _ c.loop-alloc.invariant _ _ _ c.in-Ok-false.field-0-test c.in-Ok-false.ensures.fed;
}

pub loop-alloc-smaller : goal.loop-alloc-smaller
loop-alloc-smaller g c =
    let more = grows _ _ _ _ _ _ c.loop-alloc.invariant _ _ c.in-Ok-false.field-0-test c.in-Ok-false.ensures.fed in
    let within = rw c.bytes.ensures at c.loop-alloc-test.true in
    omega (arith, more, within)

pub returns-in-Ok-true-clause-fed : goal.returns-in-Ok-true-clause-fed
returns-in-Ok-true-clause-fed g c =
    let fed = next_so _ _ _ _ _ _ c.loop-alloc.invariant c.feed_piece.new.decoder _ _ c.in-Ok-true.field-0-test c.in-Ok-true.ensures.fed in
    fed_all _ (record { name = c.args.name.now; quantity = quantity.Module }) c.feed_piece.new.decoder _ fed
    (ap (λ bytes. nat_le (length bytes) c.limit-most.result) c.bytes-in-Ok-true.ensures ∙ ap (λ most. nat_le (length (unwrap_or c.feed_piece.new.decoder [])) most) c.limit-most.ensures)

pub returns-in-Err-clause-faults : goal.returns-in-Err-clause-faults
returns-in-Err-clause-faults g c = fails_so _ _ _ _ _ _ c.loop-alloc.invariant Bool c.in-Err.error _ c.in-Err.ensures.faults

pub returns-clause-fed : goal.returns-clause-fed
returns-clause-fed g c =
    let over = rw c.bytes.ensures at c.loop-alloc-test.false in
    fed_long _ (record { name = c.args.name.now; quantity = quantity.Module }) _ _ c.loop-alloc.invariant.so_far (omega (arith, over, c.limit-most.ensures))

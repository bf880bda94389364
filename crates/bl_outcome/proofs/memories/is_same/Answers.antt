use Rattle.std.proofs.Common.{◌≡◌, ◌+◌, arith}
use Rattle.std.specs.Prelude.{slice_index}
use Rattle.bl_outcome.specs.Outcomes.{bytes_at}
use Rattle.bl_outcome.proofs.MemoryTexts.{differ, same_begin, same_next}
use Rattle.bl_outcome.proofs.memories.is_same.Goals as goal

pub loop-place-init : goal.loop-place-init
loop-place-init c = same_begin c.args.before.now c.args.bytes.now c.args.from c.args.count

pub loop-place-preserved : goal.loop-place-preserved
loop-place-preserved c =
    let same : slice_index c.args.before.now c.loop-place.place ≡ slice_index c.args.bytes.now c.loop-place.place = omega arith in
    same_next c.args.before.now c.args.bytes.now (bytes_at c.args.before.now c.args.from c.args.count ≡ bytes_at c.args.bytes.now c.args.from c.args.count)
    c.loop-place.place (c.args.from + c.args.count) (omega arith) same c.loop-place.invariant

pub returns-then-byte_at : goal.returns-then-byte_at
returns-then-byte_at c = (
  λ t. cc,
  λ p. absurd (differ c.args.before.now c.args.bytes.now (bytes_at c.args.before.now c.args.from c.args.count ≡ bytes_at c.args.bytes.now c.args.from c.args.count)
      c.loop-place.place (c.args.from + c.args.count) (omega arith) (λ e. omega (arith, e)) c.loop-place.invariant p),
)

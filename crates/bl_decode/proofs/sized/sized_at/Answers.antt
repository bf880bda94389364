use Rattle.std.proofs.Common.{length, arith}
use Rattle.bl_leb.specs.Grammar.{exactly}
use Rattle.bl_wasm.specs.Values.{u32}
use Rattle.bl_code.proofs.Places.{none_first}
use Rattle.bl_decode.proofs.Sizes.{none_short, at_size}
use Rattle.bl_decode.proofs.sized.sized_at.Goals as goal

pub returns-in_default-clause-none : goal.returns-in_default-clause-none
returns-in_default-clause-none c = none_first {F = u32} {S = exactly} length c.args.bytes.now c.args.at (λ x k h. c.in_default.ensures.none x k h)

pub returns-then-bytes-place-clause-none : goal.returns-then-bytes-place-clause-none
returns-then-bytes-place-clause-none c = none_short c.args.bytes.now c.args.at c.in-Some.place c.in-Some.size c.in-Some.ensures.found (omega arith)

pub returns-clause-found : goal.returns-clause-found
returns-clause-found c = at_size c.args.bytes.now c.args.at c.in-Some.place c.in-Some.size c.in-Some.ensures.found (omega arith)

use Rattle.std.proofs.Common.{arith}
use Rattle.std.proofs.lemmas.Slice.Zip.{AllZip-long}
use Rattle.bl_base.specs.Fits.{ArgumentFits}
use Rattle.bl_base.proofs.start.arguments_fit.Goals as goal

pub returns-then-params-args : goal.returns-then-params-args
returns-then-params-args c =
    (λ never. cc, λ all. absurd (let same = AllZip-long ArgumentFits c.args.params.now c.args.args.now all in omega (arith, same)))

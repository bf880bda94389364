use Rattle.std.proofs.Common.{arith, refl, subst}
use Rattle.bl_format.specs.Grammar.{u64}
use Rattle.bl_format.specs.WriterAnswers.{HasLength}
use Rattle.bl_format.proofs.LengthLemmas.{two}
use Rattle.bl_format.proofs.write.TextWrite.spelled_length.Goals as goal

pub returns : goal.returns
returns c =
    let count = subst (λ n. HasLength (u64 n) c.length_of_u64.result) c.len-count.ensures c.length_of_u64.ensures in
    two count (record { bytes = c.args.self.now; spelled = refl; counted = omega (arith, c.len-count.ensures, c.len-count.type_inv) }) c.saturating_add.ensures

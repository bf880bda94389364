use Rattle.std.proofs.Common.{List, subst}
use Rattle.bl_format.specs.Grammar.{each}
use Rattle.bl_format.specs.WriterAnswers.{HasLength}
use Rattle.bl_format.proofs.LengthLemmas.{long_as, two}
use Rattle.bl_format.proofs.write.ListWrite.spelled_length.Goals as goal

pub returns : goal.returns
returns g c =
    let things = subst (λ (xs : List _). HasLength (each g.T.Write.written xs) c.length_of_each.result) c.as_slice.ensures c.length_of_each.ensures in
    two (long_as (λ t h. (c.requires.0, h)) c.length_of_count-count.ensures) things c.saturating_add.ensures

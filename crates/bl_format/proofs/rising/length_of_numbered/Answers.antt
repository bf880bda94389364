use Rattle.std.proofs.Common.{List, subst}
use Rattle.bl_format.specs.Grammar.{rising}
use Rattle.bl_format.specs.WriterAnswers.{HasLength}
use Rattle.bl_format.proofs.LengthLemmas.{long_as, two}
use Rattle.bl_format.proofs.rising.length_of_numbered.Goals as goal

pub returns : goal.returns
returns g c =
    let things = subst (λ (xs : List _). HasLength (rising g.T.Numbered.numbered g.T.Numbered.behind xs) c.length_of_rising.result) c.as_slice.ensures c.length_of_rising.ensures in
    two (long_as (λ t h. (c.requires.few, h)) c.length_of_count-count.ensures) things c.saturating_add.ensures

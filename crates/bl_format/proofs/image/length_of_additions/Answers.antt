use Rattle.std.proofs.Common.{ap₂, sym, ◌∙◌}
use Rattle.bl_format.specs.Image.{version}
use Rattle.bl_format.proofs.Additions.{none_listed, to_listed}
use Rattle.bl_format.proofs.LengthLemmas.{long_as, two}
use Rattle.bl_format.proofs.image.length_of_additions.Goals as goal

pub returns-then-version_of-eq1 : goal.returns-then-version_of-eq1
returns-then-version_of-eq1 c =
    let same = ap₂ version c.as_slice.ensures c.as_slice-2.ensures in
    none_listed c.args.demands.now c.args.weights.now (sym (c.version_of.ensures ∙ same) ∙ c.if-version_of-eq1.true)

pub returns : goal.returns
returns c =
    let same = ap₂ version c.as_slice.ensures c.as_slice-2.ensures in
    long_as (to_listed c.args.demands.now c.args.weights.now (λ is. c.if-version_of-eq1.false (c.version_of.ensures ∙ same ∙ is))) (two c.spelled_length-demanded.ensures c.length_of_numbered.ensures c.saturating_add.ensures)

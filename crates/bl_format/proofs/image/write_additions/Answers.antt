use Rattle.std.proofs.Common.{ap₂, ◌∙◌}
use Rattle.bl_format.specs.Image.{version}
use Rattle.bl_format.proofs.WriterLemmas.{seq, adds_as}
use Rattle.bl_format.proofs.Additions.{to_listed}
use Rattle.bl_format.proofs.image.write_additions.Goals as goal

pub returns : goal.returns
returns c =
    let same = ap₂ version c.as_slice.ensures c.as_slice-2.ensures in
    adds_as (to_listed c.args.demands.now c.args.weights.now (λ is. c.if-version_of-eq1.false (c.version_of.ensures ∙ same ∙ is))) (seq c.in_ok-write.ensures c.in_ok-write_numbered.ensures)

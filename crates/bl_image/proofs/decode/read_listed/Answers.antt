use Rattle.std.proofs.Common.{drop, ap₂, sym, ◌∙◌}
use Rattle.bl_format.specs.Image.{version}
use Rattle.bl_image.specs.ReaderAnswers.{additions_of}
use Rattle.bl_image.proofs.ReaderLemmas.{passes}
use Rattle.bl_image.proofs.WholeImage.{listed, listed_found, listed_none, listed_wrong}
use Rattle.bl_image.proofs.decode.read_listed.Goals as goal

pub returns-in_err-demands : goal.returns-in_err-demands
returns-in_err-demands c =
    passes listed (additions_of 2) c.args.bytes.now c.args.at c.args.at c.from_residual.result _ c.from_residual.ensures.1 (listed_none (drop c.args.at c.args.bytes.now)) c.in_err-demands.ensures

pub returns-then-version_of-ne2 : goal.returns-then-version_of-ne2
returns-then-version_of-ne2 c =
    let r = c.in_ok-demands in
    let same = ap₂ version c.as_slice.ensures c.as_slice-2.ensures in
    listed_wrong (drop c.args.at c.args.bytes.now) (drop r.place c.args.bytes.now) (r.demands, r.weights) (λ is. c.if-version_of-ne2.true (c.version_of.ensures ∙ same ∙ is)) r.ensures.1

pub returns : goal.returns
returns c =
    let r = c.in_ok-demands in
    let same = ap₂ version c.as_slice.ensures c.as_slice-2.ensures in
    (r.ensures.0, listed_found (drop c.args.at c.args.bytes.now) (drop r.place c.args.bytes.now) (r.demands, r.weights) (sym same ∙ sym c.version_of.ensures ∙ c.if-version_of-ne2.false) r.ensures.1)

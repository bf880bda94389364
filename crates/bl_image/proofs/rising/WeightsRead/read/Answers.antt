use Rattle.std.proofs.Common.{drop, length, refl}
use Rattle.bl_image.specs.declared.rising.Weights.{Weights}
use Rattle.bl_format.specs.Grammar.{u32, rising}
use Rattle.bl_format.specs.Image.{weights, weight}
use Rattle.bl_image.proofs.ReaderLemmas.{begins_after, begins_from}
use Rattle.bl_image.proofs.rising.WeightsRead.read.Goals as goal

pub returns : goal.returns
returns c =
    let n = c.in_ok-count in
    let r = c.in_ok-these in
    let s = drop c.args.at c.args.bytes.now in
    let rest = drop r.end c.args.bytes.now in
    let whole = begins_after u32 length (rising (λ one. one.at.0) weight) s (drop n.place c.args.bytes.now) rest n.count r.these n.ensures.1 r.ensures.1 in
    (r.ensures.0, begins_from weights (λ (these : Weights). these.0) (λ these. record { 0 = these }) s rest (record { 0 = r.these }) (λ y. refl) whole)

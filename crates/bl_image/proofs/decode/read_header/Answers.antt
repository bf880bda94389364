use Rattle.std.proofs.Common.{refl, true}
use Rattle.std.proofs.lemmas.Slice.Eq.{starts_is}
use Rattle.std.proofs.lemmas.Bool.Decides.{Decides-eqb}
use Rattle.bl_format.specs.Image.{magic}
use Rattle.bl_image.proofs.WholeImage.{finds_header}
use Rattle.bl_image.proofs.decode.read_header.Goals as goal

pub returns : goal.returns
returns c =
    let same = c.if-not-starts_with.ensures in
    let front = starts_is Decides-eqb c.args.bytes.now magic true same.value in
    finds_header c.args.bytes.now _ (front.0 refl) c.read_byte.ensures

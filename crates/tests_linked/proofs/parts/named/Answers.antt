use Rattle.std.proofs.Common.{refl}
use Rattle.bl_link.proofs.SpelledParts.{read_part}
use Rattle.tests_linked.proofs.parts.named.Goals as goal

pub returns : goal.returns
returns c =
    let read = c.requires.read in
    read_part c.args.name c.args.name c.args.bytes.now c.args.wasm c.args.wasm c.args.labels refl refl c.requires.consistent c.requires.plain read.0 c.requires.few read.2

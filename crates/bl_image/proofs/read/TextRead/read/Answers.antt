use Rattle.std.proofs.Common.{length}
use Rattle.bl_leb.specs.Grammar.{exactly}
use Rattle.bl_format.specs.Grammar.{u64}
use Rattle.bl_image.proofs.ReaderLemmas.{reads_after}
use Rattle.bl_image.proofs.read.TextRead.read.Goals as goal

pub returns : goal.returns
returns c = reads_after u64 length exactly c.args.bytes.now c.args.at c.in_ok-count.place c.in_ok-count.count _ c.in_ok-count.ensures.1 c.read_exactly.ensures

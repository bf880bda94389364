use Rattle.std.proofs.Common.{◌≡◌, ℕ, length, subst}
use Rattle.bl_leb.specs.Grammar.{given}
use Rattle.bl_format.specs.Grammar.{u32, each}
use Rattle.bl_image.specs.ReaderAnswers.{Reads}
use Rattle.bl_image.proofs.ReaderLemmas.{reads_after}
use Rattle.bl_image.proofs.read.ListRead.read.Goals as goal

pub returns : goal.returns
returns g c =
    let rest = subst (λ (n : ℕ). Reads (λ things. given (length things ≡ n) (each g.T.Read.spells things)) c.args.bytes.now c.in_ok-count.place c.read_each.result) c.from.ensures c.read_each.ensures in
    reads_after u32 length (each g.T.Read.spells) c.args.bytes.now c.args.at c.in_ok-count.place c.in_ok-count.count _ c.in_ok-count.ensures.1 rest

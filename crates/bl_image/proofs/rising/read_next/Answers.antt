use Rattle.std.proofs.Common.{drop}
use Rattle.bl_leb.specs.Grammar.{◌⨾◌}
use Rattle.bl_format.specs.Grammar.{gap}
use Rattle.bl_image.proofs.ReaderLemmas.{fails, none_head, finds_after}
use Rattle.bl_image.proofs.rising.read_next.Goals as goal

pub returns-in_err-number : goal.returns-in_err-number
returns-in_err-number g c =
    fails (gap c.args.least) (λ one. gap c.args.least (g.T.Numbered.numbered one) ⨾ g.T.Numbered.behind one) c.args.bytes.now c.args.at c.args.at c.from_residual.result _ c.from_residual.ensures.1
    (none_head (gap c.args.least) g.T.Numbered.numbered g.T.Numbered.behind (drop c.args.at c.args.bytes.now)) c.in_err-number.ensures

pub returns : goal.returns
returns g c = finds_after (gap c.args.least) g.T.Numbered.numbered g.T.Numbered.behind c.args.bytes.now c.args.at c.in_ok-number.place c.in_ok-number.number _ c.in_ok-number.ensures.1 c.read_behind.ensures

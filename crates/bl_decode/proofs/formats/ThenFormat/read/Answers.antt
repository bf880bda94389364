use Rattle.bl_leb.specs.Grammar.{◌⨾◌}
use Rattle.bl_code.proofs.Places.{passes, err_first, err_second, stands, is_at, join}
use Rattle.bl_decode.proofs.formats.ThenFormat.read.Goals as goal

pub returns-in_err-first : goal.returns-in_err-first
returns-in_err-first g c =
    passes (λ tree. g.A.Format.spellings tree.0 ⨾ g.B.Format.spellings tree.1) c.args.bytes.now c.args.at c.from_residual.result _ c.from_residual.ensures.1
    (err_first g.A.Format.spellings (λ tree. g.B.Format.spellings tree.1) (λ tree. tree.0) c.args.bytes.now c.args.at _ c.in_err-first.ensures)

pub returns-in_err-second : goal.returns-in_err-second
returns-in_err-second g c =
    passes (λ tree. g.A.Format.spellings tree.0 ⨾ g.B.Format.spellings tree.1) c.args.bytes.now c.args.at c.from_residual-in_err-second.result _ c.from_residual-in_err-second.ensures.1
    (err_second g.A.Format.spellings g.B.Format.spellings (λ tree. tree.0) (λ tree. tree.1) c.args.bytes.now c.args.at c.in_ok-first.place c.in_ok-first.first _ g.met.A.Format.prefix_free c.in_ok-first.ensures c.in_err-second.ensures)

pub returns : goal.returns
returns g c =
    is_at (λ tree. g.A.Format.spellings tree.0 ⨾ g.B.Format.spellings tree.1) c.args.bytes.now c.args.at c.in_ok-second.end (c.in_ok-first.first, c.in_ok-second.second)
    (join c.args.bytes.now c.args.at c.in_ok-first.place c.in_ok-second.end
    (stands g.A.Format.spellings c.args.bytes.now c.args.at c.in_ok-first.place c.in_ok-first.first c.in_ok-first.ensures)
    (stands g.B.Format.spellings c.args.bytes.now c.in_ok-first.place c.in_ok-second.end c.in_ok-second.second c.in_ok-second.ensures))

use Rattle.bl_code.specs.declared.error.CodeError.TheVariants.{Malformed}
use Rattle.std.proofs.Common.{◌+◌, ◌≤◌, ◌<◌, length, arith}
use Rattle.bl_code.proofs.Places.{passes}
use Rattle.bl_code.proofs.Sizes.{err_size, none_short, err_contents, none_elsewhere, sized_read}
use Rattle.bl_code.proofs.format.read_sized.Goals as goal

pub returns-in_err-size : goal.returns-in_err-size
returns-in_err-size g c =
    passes _ c.args.bytes.now c.args.at c.from_residual.result _ c.from_residual.ensures.1
    (err_size g.F.Format.spellings c.args.bytes.now c.args.at Malformed c.in_err-size.ensures)

pub returns-in_err-tree : goal.returns-in_err-tree
returns-in_err-tree g c =
    passes _ c.args.bytes.now c.args.at c.from_residual-in_err-tree.result _ c.from_residual-in_err-tree.ensures.1
    (err_contents g.F.Format.spellings c.args.bytes.now c.args.at c.in_ok-size.place c.in_ok-size.size _ c.in_ok-size.ensures c.in_err-tree.ensures)

pub returns-then-bytes-place : goal.returns-then-bytes-place
returns-then-bytes-place g c =
    let short : length c.args.bytes.now < c.in_ok-size.place + c.in_ok-size.size = omega arith in
    none_short g.F.Format.spellings c.args.bytes.now c.args.at c.in_ok-size.place c.in_ok-size.size c.in_ok-size.ensures short

pub returns-then-after-end : goal.returns-then-after-end
returns-then-after-end g c =
    none_elsewhere g.F.Format.spellings c.args.bytes.now c.args.at c.in_ok-size.place c.in_ok-size.size c.in_ok-tree.after c.in_ok-tree.tree g.met.F.Format.prefix_free c.in_ok-size.ensures c.in_ok-tree.ensures c.if-after-end.true

pub returns : goal.returns
returns g c =
    let inside : c.in_ok-size.place + c.in_ok-size.size ≤ length c.args.bytes.now = omega (arith, c.in_ok-size.ensures.inside) in
    sized_read g.F.Format.spellings c.args.bytes.now c.args.at c.in_ok-size.place c.in_ok-size.size c.in_ok-tree.after c.in_ok-tree.tree c.in_ok-size.ensures inside c.in_ok-tree.ensures c.if-after-end.false

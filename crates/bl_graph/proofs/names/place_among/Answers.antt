use Rattle.std.proofs.Common.{arith}
use Rattle.bl_graph.proofs.NameLemmas.{found, not_found, place_is, rise_ge, stands}
use Rattle.bl_graph.proofs.names.place_among.Goals as goal

pub overflow_cast-result : goal.overflow_cast-result
overflow_cast-result c =
    let at = found c.args.names.now c.args.x c.in-Ok.place c.binary_search.result c.requires.rise c.binary_search.ensures.position c.in-Ok.is in
    let ge = rise_ge c.args.names.now c.in-Ok.place c.requires.rise at.0 in
    let fits = c.ranges.x.fits in
    omega (arith, at.1)

pub unreachable-requires : goal.unreachable-requires
unreachable-requires c =
    not_found c.args.names.now c.args.x c.in-Err.field-0 c.binary_search.result c.requires.rise c.requires.has c.binary_search.ensures.position c.in-Err.is

pub returns-clause-is : goal.returns-clause-is
returns-clause-is c =
    let at = found c.args.names.now c.args.x c.in-Ok.place c.binary_search.result c.requires.rise c.binary_search.ensures.position c.in-Ok.is in
    place_is c.args.names.now c.in-Ok.place c.args.x c.requires.rise at.0 at.1

pub returns-clause-at : goal.returns-clause-at
returns-clause-at c =
    let at = found c.args.names.now c.args.x c.in-Ok.place c.binary_search.result c.requires.rise c.binary_search.ensures.position c.in-Ok.is in
    stands c.args.names.now c.args.x c.in-Ok.place at.0 at.1

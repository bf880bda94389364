use Rattle.bl_image.proofs.Numbers.{number_found, number_none}
use Rattle.bl_image.proofs.read.read_any_u64.Goals as goal

pub returns-in-Some : goal.returns-in-Some
returns-in-Some c =
    let found = c.in-Some.ensures.found in
    (found.inside, number_found c.args.bytes.now c.args.at c.in-Some.found.1 c.in-Some.found.0 found)

pub returns-in-None : goal.returns-in-None
returns-in-None c = number_none c.args.bytes.now c.args.at c.requires c.in-None.ensures.none

use Rattle.std.proofs.Common.{arith}
use Rattle.bl_image.proofs.Numbers.{bytes_found, bytes_none}
use Rattle.bl_image.proofs.read.read_exactly.Goals as goal

pub returns-then-bytes-at : goal.returns-then-bytes-at
returns-then-bytes-at c = bytes_none c.args.bytes.now c.args.at c.args.count c.requires (omega arith)

pub returns : goal.returns
returns c = (omega arith, bytes_found c.args.bytes.now c.in_ok-these.these c.args.at c.args.count (omega arith) c.in_ok-these.ensures)

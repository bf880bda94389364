use Rattle.std.proofs.Common.{arith}
use Rattle.bl_format.specs.Image.{demand_code}
use Rattle.bl_format.proofs.LengthLemmas.{byte_long, two}
use Rattle.bl_format.proofs.definition.DemandWrite.spelled_length.Goals as goal

pub returns : goal.returns
returns c = two (byte_long (demand_code c.args.self.now)) c.length_of_demand.ensures (omega (arith, c.saturating_add.ensures))

use Rattle.bl_link.proofs.Exports.{of_links}
use Rattle.bl_link.proofs.laws.exports_are_few.Goals as goal

pub returns : goal.returns
returns c = of_links

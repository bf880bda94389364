use Rattle.tests_linked.proofs.PartLemmas.{no_parts}
use Rattle.tests_linked.proofs.parts.parts_of.Goals as goal

pub loop-name-init : goal.loop-name-init
loop-name-init c = no_parts c.new-parts.result c.new-parts.ensures

use Rattle.bl_link.specs.Linkable.{AreParts}
use Rattle.tests_linked.proofs.parts.parts_of.Given as goal

abbrev pub invariant-loop-name : goal.invariant-loop-name
invariant-loop-name l = AreParts l.parts

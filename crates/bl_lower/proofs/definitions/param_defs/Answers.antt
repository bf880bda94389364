use Rattle.std.proofs.lemmas.Slice.Zip.{either_empty_from_Zip}
use Rattle.bl_lower.proofs.DefinitionLemmas.{whole_params}
use Rattle.bl_lower.proofs.definitions.param_defs.Goals as goal

pub returns : goal.returns
returns c = whole_params _ _ _ _ (either_empty_from_Zip c.loop-kind.kind-iterator c.next.new.self c.next.result c.in-None.is c.next.ensures.steps) c.loop-kind.invariant.rest

use Rattle.bl_apart.proofs.BesideLinks.{users_beside}
use Rattle.bl_apart.proofs.laws.the_same_is_linked_beside.Goals as goal

pub returns : goal.returns
returns c = λ s stubs libraries users client whole agree sound given e f. users_beside s agree stubs libraries users client whole sound given e f

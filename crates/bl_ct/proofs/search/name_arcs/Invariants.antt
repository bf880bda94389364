use Rattle.std.proofs.Common.{◌≡◌, map, take}
use Rattle.bl_ct.specs.SecretSearch.{from_name}
use Rattle.bl_ct.proofs.search.name_arcs.Given as goal

abbrev pub invariant-loop-read : goal.invariant-loop-read
invariant-loop-read l = l.arcs.items ≡ map (from_name l.names) (take l.read-index l.reads)

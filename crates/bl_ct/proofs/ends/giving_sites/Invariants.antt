use Rattle.std.proofs.Common.{◌≡◌, length, take}
use Rattle.bl_ct.specs.SecretSearch.{MarksWriters}
use Rattle.bl_ct.proofs.ends.giving_sites.Given as goal

abbrev pub invariant-loop-write : goal.invariant-loop-write
invariant-loop-write l = record {
  places : length l.giving.items ≡ l.count;
  exact : MarksWriters (take l.write-index l.writes) l.names l.demanded l.giving.items;
}

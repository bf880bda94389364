use Rattle.bl_rename.proofs.RenamedRuns.{outcome_there, outcome_here}
use Rattle.bl_apart.specs.LinkedApart.{whole_numbers}
use Rattle.bl_whole.specs.JoinedTree.{joined_tree}
use Rattle.bl_apart.proofs.JoinedLinks.{joins_as_linked, whole_runs}
use Rattle.bl_apart.proofs.laws.joined_users_run_as_linked.Goals as goal

pub returns : goal.returns
returns c = record {
  forward = λ iface stubs libraries users stub library client whole function start n o are joins s.
      outcome_there (whole_numbers stub client library) whole (joined_tree client library iface) (joins_as_linked iface stubs libraries users stub library client whole are joins) function start n o s;
  backward = λ iface stubs libraries users stub library client whole function start n p are joins is s.
      outcome_here (whole_numbers stub client library) whole (joined_tree client library iface) (joins_as_linked iface stubs libraries users stub library client whole are joins)
      (whole_runs iface stubs libraries users stub library client whole are joins) function start is n p s;
}

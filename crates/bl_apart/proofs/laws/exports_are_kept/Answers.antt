use Rattle.bl_apart.proofs.JoinedExports.{export_kept}
use Rattle.bl_apart.proofs.laws.exports_are_kept.Goals as goal

pub returns : goal.returns
returns c = λ iface stubs libraries users stub library client whole name function are joins exported own there.
    export_kept iface stubs libraries users stub library client whole are joins name function exported own there

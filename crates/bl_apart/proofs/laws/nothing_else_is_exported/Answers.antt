use Rattle.bl_apart.proofs.JoinedExports.{has_origin}
use Rattle.bl_apart.proofs.laws.nothing_else_is_exported.Goals as goal

pub returns : goal.returns
returns c = λ iface stubs libraries users stub library client whole name number are joins there.
    has_origin iface stubs libraries users stub library client whole are joins name number there

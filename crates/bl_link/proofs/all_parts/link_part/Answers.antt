use Rattle.bl_link.proofs.PartLemmas.{can_link, makes_part}
use Rattle.bl_link.proofs.all_parts.link_part.Goals as goal

pub link_module-requires : goal.link_module-requires
link_module-requires c = can_link c.args.store.now c.args.part c.as_slice.result.now c.into_module-wasm.result c.in-Ok.marks c.as_slice.ensures c.into_module-wasm.ensures.same c.in-Ok.ensures c.requires

pub returns-in-Ok : goal.returns-in-Ok
returns-in-Ok c =
    makes_part c.args.store.now c.link_module.new.store c.args.number c.args.part c.as_slice.result.now c.into_module-wasm.result c.in-Ok.marks c.link_module.result
    c.as_slice.ensures c.into_module-wasm.ensures.same c.in-Ok.ensures c.link_module.ensures

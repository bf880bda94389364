use Rattle.std.proofs.Common.{◌∙◌, ap, map, subst}
use Rattle.std.proofs.lemmas.List.{take_all}
use Rattle.bl_base.specs.declared.number.Pos.{Pos}
use Rattle.bl_cut.specs.Network.{AreReaders}
use Rattle.bl_cut.proofs.AskedReaders.{begins}
use Rattle.bl_cut.proofs.network.start_nodes.Goals as goal

pub returns : goal.returns
returns c =
    let loads = c.loop-load.invariant ∙ ap (map (λ (load : Pos). load.0)) (take_all c.loop-load.load-index c.as_slice-loads.result.now c.loop-load-test.false ∙ c.as_slice-loads.ensures) in
    let readers = subst (λ l. AreReaders c.loop-load.nodes.items l c.args.vars.now c.push_readers.new.nodes.items) c.as_slice.ensures c.in_ok-push_readers.ensures in
    begins c.args.names.now c.args.commands c.args.graph.now c.args.vars.now c.loop-load.nodes.items c.push_readers.new.nodes.items loads readers
    c.push_vars.new.nodes.items c.in_ok-push_vars.ensures

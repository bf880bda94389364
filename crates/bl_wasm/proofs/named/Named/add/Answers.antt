use Rattle.bl_wasm.proofs.NamedLemmas.{pairs-insert}
use Rattle.bl_wasm.proofs.named.Named.add.Goals as goal

pub returns-clause-ok : goal.returns-clause-ok
returns-clause-ok g c = pairs-insert c.self.inside.map c.insert.new.self c.args.name c.args.value c.args.self.now c.self.view_is c.requires c.in_ok-insert.ensures.entries

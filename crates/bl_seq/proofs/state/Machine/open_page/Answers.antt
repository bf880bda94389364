use Rattle.bl_seq.proofs.MachineRuns.{shown_same}
use Rattle.bl_seq.proofs.state.Machine.open_page.Goals as goal

pub returns : goal.returns
returns c = shown_same c.args.self.now.position c.args.self.now.chain c.args.self.now.space c.args.self.now.registers c.open-opened.new.self c.open-opened.ensures

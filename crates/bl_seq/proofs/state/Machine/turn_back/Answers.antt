use Rattle.std.proofs.Common.{◌∙◌, ap, sym}
use Rattle.bl_seq.specs.Machines.{next_of}
use Rattle.bl_seq.proofs.state.Machine.turn_back.Goals as goal

pub returns : goal.returns
returns c =
    c.leave-progress.ensures c.args.layout.now.parts.now ∙ ap (λ s. next_of c.args.layout.now.parts.now c.leave-progress.result s) (sym c.open_page.ensures)

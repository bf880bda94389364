use Rattle.std.proofs.Common.{◌∙◌, ap, sym}
use Rattle.bl_seq.specs.Machines.{next_of}
use Rattle.bl_seq.proofs.state.Machine.call.Goals as goal

pub returns : goal.returns
returns c =
    c.in_ok-progress.ensures ∙ ap (λ s. next_of c.args.layout.now.parts.now c.in_ok-progress.progress s) (sym c.open_page.ensures)

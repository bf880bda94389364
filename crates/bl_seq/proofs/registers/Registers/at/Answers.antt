use Rattle.std.proofs.Common.{◌∙◌, ap, sym}
use Rattle.std.specs.Prelude.{unwrap_or}
use Rattle.bl_seq.specs.RegisterTrees.{number_at, register_at}
use Rattle.bl_seq.proofs.WindowLemmas.{found_number}
use Rattle.bl_seq.proofs.registers.Registers.at.Goals as goal

pub returns-in-None : goal.returns-in-None
returns-in-None c =
    let number = number_at c.self.inside.pages c.args.depth c.args.x in
    c.at.ensures ∙ ap (λ o. unwrap_or o number) (sym c.in-None.is ∙ c.get.ensures) ∙ found_number c.self.inside.window c.args.depth c.args.x number
    ∙ ap (λ f. register_at f c.args.depth c.args.x) c.self.view_is

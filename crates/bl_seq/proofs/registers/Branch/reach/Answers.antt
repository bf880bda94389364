use Rattle.std.proofs.Common.{◌++◌, ◌∙◌, [], ap, get_or, replicate}
use Rattle.bl_seq.proofs.RegisterWrites.{with_blanks}
use Rattle.bl_seq.proofs.registers.Branch.reach.Goals as goal

pub returns-in_err-push : goal.returns-in_err-push
returns-in_err-push c = λ j.
    ap (λ l. get_or l j []) (c.in_err-push.ensures.items ∙ c.loop.invariant ∙ ap (λ l. l ++ replicate c.loop.counter []) c.self.view_is)
    ∙ with_blanks [] c.args.self.now c.loop.counter j

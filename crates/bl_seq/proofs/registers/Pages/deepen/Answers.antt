use Rattle.std.proofs.Common.{◌++◌, ◌∙◌, ap, get_or, replicate}
use Rattle.bl_seq.specs.RegisterTrees.{bare}
use Rattle.bl_seq.proofs.RegisterWrites.{with_blanks}
use Rattle.bl_seq.proofs.registers.Pages.deepen.Goals as goal

pub returns-in_err-push-clause-same : goal.returns-in_err-push-clause-same
returns-in_err-push-clause-same c = λ j.
    ap (λ l. get_or l j bare) (c.in_err-push.ensures.items ∙ c.loop.invariant ∙ ap (λ l. l ++ replicate c.loop.counter bare) c.self.view_is)
    ∙ with_blanks bare c.args.self.now c.loop.counter j

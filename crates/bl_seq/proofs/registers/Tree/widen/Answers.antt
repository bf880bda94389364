use Rattle.std.proofs.Common.{◌++◌, ◌∙◌, [], ap, get_or, replicate}
use Rattle.bl_seq.proofs.RegisterWrites.{with_blanks}
use Rattle.bl_seq.proofs.registers.Tree.widen.Goals as goal

pub returns-in_err-push : goal.returns-in_err-push
returns-in_err-push c = (
  λ j.
      ap (λ l. get_or l j []) (c.in_err-push.ensures.items ∙ c.loop.invariant.0 ∙ ap (λ t. t.branches ++ replicate c.loop.counter []) c.self.view_is)
      ∙ with_blanks [] c.args.self.now.branches c.loop.counter j,
  c.loop.invariant.1 ∙ ap (λ t. t.strays) c.self.view_is,
)

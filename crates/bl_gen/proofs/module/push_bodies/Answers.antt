use Rattle.std.proofs.Common.{◌++◌, ◌∙◌, ap}
use Rattle.bl_gen.specs.GeneratedModule.{function, sized}
use Rattle.bl_gen.proofs.Ranges.{behind_more}
use Rattle.bl_gen.proofs.module.push_bodies.Goals as goal

pub loop-i-preserved : goal.loop-i-preserved
loop-i-preserved c =
    behind_more (λ i. sized (function c.args.seed i)) c.args.to.now.items c.loop-i.to.items c.push_sized.new.to.items c.loop-i.i c.loop-i.invariant
    (c.in_ok-push_sized.ensures ∙ ap (λ body. c.loop-i.to.items ++ sized body) (c.deref.ensures.value ∙ c.in_ok-push_function.ensures ∙ ap (λ text. text ++ function c.args.seed c.loop-i.i) c.new-body.ensures.items))

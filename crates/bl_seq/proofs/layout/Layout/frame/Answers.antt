use Rattle.std.proofs.Common.{◌≡◌, ◌-◌, ◌∙◌, ap, min, length, arith}
use Rattle.bl_seq.proofs.LayoutLemmas.{frame_is, frames_count, small_frame}
use Rattle.bl_seq.proofs.layout.Layout.frame.Goals as goal

pub returns-clause-is : goal.returns-clause-is
returns-clause-is c =
    let count = frames_count c.args.self.now.parts.now c.args.self.now.frames.items c.requires.frames in
    let last : c.len-last.result - 1 ≡ length c.args.self.now.parts.now.functions = omega (arith, c.args.self.now.frames.ok.0) in
    c.index.ensures ∙ frame_is c.args.self.now.parts.now c.args.self.now.frames.items c.args.function c.min.result c.index.result.now c.requires.frames
    (c.min.ensures ∙ ap (λ n. min n c.args.function) last)

pub returns-clause-small : goal.returns-clause-small
returns-clause-small c = small_frame c.args.self.now.parts.now c.index.result.now c.args.function c.requires.rules.rule2 (returns-clause-is c)

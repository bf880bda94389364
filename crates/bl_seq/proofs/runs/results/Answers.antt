use Rattle.std.proofs.Common.{◌≡◌, ℕ, ◌+◌, ◌-◌, ◌++◌, ◌∙◌, ap, arith}
use Rattle.bl_program.specs.Layout.{running}
use Rattle.bl_program.specs.Steps.{values_from}
use Rattle.bl_seq.specs.RegisterTrees.{register_at}
use Rattle.bl_seq.specs.Layouts.{frame_of}
use Rattle.bl_seq.specs.declared.layout.Frame.{Frame}
use Rattle.bl_seq.proofs.OutcomeLemmas.{values_next, values_all}
use Rattle.bl_seq.proofs.runs.results.Goals as goal

pub loop-i-preserved : goal.loop-i-preserved
loop-i-preserved c =
    let registers : (ℕ → ℕ → ℕ) = λ depth x. register_at c.args.registers.now depth x in
    let frame = c.frame-frame.result in
    ap (λ l. l ++ values_from registers 0 (frame.first + frame.params + (c.loop-i.i + 1)) (frame.results - (c.loop-i.i + 1))) c.in_ok-push.ensures.ok
    ∙ values_next registers 0 (frame.first + frame.params) c.loop-i.i frame.results _ c.loop-i.values (omega arith) c.at.ensures
    ∙ c.loop-i.invariant

pub returns : goal.returns
returns c =
    let p = c.args.layout.now.parts.now in
    let is : c.frame-frame.result ≡ frame_of p (running p c.args.position) = c.frame-frame.ensures.is ∙ ap (λ f. frame_of p f) c.running.ensures in
    let first = ap (λ (f : Frame). f.first) is in
    let params = ap (λ (f : Frame). f.params) is in
    values_all (λ depth x. register_at c.args.registers.now depth x) 0 (c.frame-frame.result.first + c.frame-frame.result.params) c.loop-i.i c.frame-frame.result.results _ _
    c.loop-i.values (omega arith) (omega arith) (ap (λ (f : Frame). f.results) is) c.loop-i.invariant

use Rattle.std.proofs.Common.{◌≡◌, ◌∙◌, subst, sym}
use Rattle.bl_seq.specs.Layouts.{IsLayout}
use Rattle.bl_program.specs.Outcomes.{IsStart}
use Rattle.bl_seq.specs.Machines.{RunsTo, next_of, shown}
use Rattle.bl_seq.proofs.MachineRuns.{told_run}
use Rattle.bl_seq.proofs.FinalBytes.{ends_whole}
use Rattle.bl_seq.proofs.runs.run.Goals as goal

pub returns : goal.returns
returns c =
    let both : (c.in_ok-layout.layout.parts.now ≡ c.parts.result.now) × IsLayout c.in_ok-layout.layout = c.in_ok-layout.ensures in
    told_run c.args.program.now c.args.function c.args.start.now c.args.steps c.requires c.finish.result c.in_ok-layout.layout.parts.now
    (shown c.open_page.new.self) (shown c.drive.new.self) c.in_ok-progress.progress (both.0 ∙ c.parts.ensures.same ∙ c.program.ensures.same)
    (c.open_page.ensures ∙ c.in_ok-machine.ensures) c.in_ok-progress.ensures c.finish.ensures

pub finish-requires-clause-whole : goal.finish-requires-clause-whole
finish-requires-clause-whole c =
    let parts = c.in_ok-layout.layout.parts.now in
    let both : (parts ≡ c.parts.result.now) × IsLayout c.in_ok-layout.layout = c.in_ok-layout.ensures in
    let same : parts ≡ c.args.program.now = both.0 ∙ c.parts.ensures.same ∙ c.program.ensures.same in
    let fits = subst (λ p. IsStart p c.args.function c.args.start.now) (sym same) c.requires in
    let next = next_of parts c.in_ok-progress.progress (shown c.drive.new.self) in
    ends_whole parts both.1.facts both.1.rules c.args.function c.args.start.now fits c.args.steps next
    (subst (λ s. RunsTo parts s c.args.steps next) (c.open_page.ensures ∙ c.in_ok-machine.ensures) c.in_ok-progress.ensures)

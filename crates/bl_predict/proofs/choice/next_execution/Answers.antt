use Rattle.std.proofs.Common.{ℕ, ◌+◌, Bool, sym, ◌∙◌, subst}
use Rattle.std.specs.Prelude.{slice_get}
use Rattle.bl_rob.specs.CallResults.{is_enabled, shown}
use Rattle.bl_rob.specs.Machines.{directive_step}
use Rattle.bl_rob.specs.Robs.{RobView}
use Rattle.bl_rob.specs.declared.directive.Directive.TheVariants.{Exec}
use Rattle.bl_predict.specs.Drives.{shows_read}
use Rattle.bl_predict.specs.declared.choice.Readiness.TheVariants.{Disabled, Enabled, Reading}
use Rattle.bl_predict.proofs.LeastPlaces.{LooksOn, looks_begin, looks_disabled, looks_enabled, looks_end, looks_found, looks_past}
use Rattle.bl_predict.proofs.ReadObservations.{enabled_past, is_absent, is_present, reads_past}
use Rattle.bl_predict.proofs.choice.next_execution.Goals.{in-Enabled, in-Disabled}
use Rattle.bl_predict.proofs.choice.next_execution.Goals as goal

abbrev reads : RobView → ℕ → Bool
reads rob n = shows_read (directive_step 64 rob.program (shown rob.machine) (Exec n))

abbrev enabled : RobView → ℕ → Bool
enabled rob n = is_enabled 64 rob.program (shown rob.machine) (Exec n)

pub returns-in-Absent : goal.returns-in-Absent
returns-in-Absent c =
    let Q = c.args.rob.now.program in
    let s = shown c.args.rob.now.machine in
    let none = is_absent Q s c.loop-n.n c.is_none.result (slice_get s.buffer c.loop-n.n) (sym c.look_at.ensures ∙ c.in-Absent.is) in
    looks_past (reads c.args.rob.now) (enabled c.args.rob.now) c.args.count c.loop-n.n c.loop-n.first c.loop-n.invariant (reads_past Q s c.loop-n.n none) (enabled_past Q s c.loop-n.n none)

pub returns-in-Reading : goal.returns-in-Reading
returns-in-Reading c =
    let s = shown c.args.rob.now.machine in
    looks_found (reads c.args.rob.now) (enabled c.args.rob.now) c.args.count c.loop-n.n c.loop-n.first c.is_none.result c.loop-n.invariant c.loop-n-test.true
    (is_present c.args.rob.now.program s c.loop-n.n c.is_none.result (slice_get s.buffer c.loop-n.n) Reading (sym c.look_at.ensures ∙ c.in-Reading.is) tt)

pub loop-n-init : goal.loop-n-init
loop-n-init c = looks_begin (reads c.args.rob.now) (enabled c.args.rob.now) c.args.count

pub loop-n-preserved : goal.loop-n-preserved
loop-n-preserved c =
    let rob = c.args.rob.now in
    let s = shown rob.machine in
    let o = slice_get s.buffer c.loop-n.n in
    elim c.match-look_at.branch [
      | in-Enabled i ↦ subst (LooksOn (reads rob) (enabled rob) c.args.count (c.loop-n.n + 1)) (sym i.first-is)
          (looks_enabled (reads rob) (enabled rob) c.args.count c.loop-n.n c.loop-n.first c.is_none.result c.is_none.ensures c.loop-n.invariant c.loop-n-test.true
          (is_present rob.program s c.loop-n.n c.is_none.result o Enabled (sym c.look_at.ensures ∙ i.in-Enabled.is) tt))
      | in-Disabled i ↦ subst (LooksOn (reads rob) (enabled rob) c.args.count (c.loop-n.n + 1)) (sym i.first-is)
          (looks_disabled (reads rob) (enabled rob) c.args.count c.loop-n.n c.loop-n.first c.is_none.result c.is_none.ensures c.loop-n.invariant c.loop-n-test.true
          (is_present rob.program s c.loop-n.n c.is_none.result o Disabled (sym c.look_at.ensures ∙ i.in-Disabled.is) tt))
    ]

pub returns : goal.returns
returns c = looks_end (reads c.args.rob.now) (enabled c.args.rob.now) c.args.count c.loop-n.n c.loop-n.first c.loop-n.invariant c.loop-n-test.false

use Rattle.std.proofs.Common.{true, false, sym, ◌∙◌}
use Rattle.std.specs.Prelude.{slice_get}
use Rattle.bl_rob.specs.CallResults.{shown}
use Rattle.bl_predict.proofs.ReadObservations.{finds_disabled, finds_enabled, finds_unasked}
use Rattle.bl_predict.proofs.choice.look_at.Goals as goal

pub returns-then-not-is_asked : goal.returns-then-not-is_asked
returns-then-not-is_asked c =
    let Q = c.args.rob.now.program in
    let s = shown c.args.rob.now.machine in
    let o = slice_get s.buffer c.args.n in
    finds_unasked Q c.args.n s c.args.wanted o c.entry.result c.entry.ensures (c.in-Some.field-0-0, c.in-Some.kind) c.in-Some.is
    (sym c.is_asked.ensures ∙ c.if-not-is_asked.true)

pub returns-then-not-enabled : goal.returns-then-not-enabled
returns-then-not-enabled c =
    let Q = c.args.rob.now.program in
    let s = shown c.args.rob.now.machine in
    let o = slice_get s.buffer c.args.n in
    finds_disabled Q c.args.n s c.args.wanted o c.entry.result c.entry.ensures (c.in-Some.field-0-0, c.in-Some.kind) c.in-Some.is
    (sym c.is_asked.ensures ∙ c.if-not-is_asked.false) (sym c.enabled.ensures ∙ c.if-not-enabled.true)

pub returns-then-is_load : goal.returns-then-is_load
returns-then-is_load c =
    let Q = c.args.rob.now.program in
    let s = shown c.args.rob.now.machine in
    let o = slice_get s.buffer c.args.n in
    finds_enabled Q c.args.n s c.args.wanted o c.entry.result c.entry.ensures (c.in-Some.field-0-0, c.in-Some.kind) c.in-Some.is true
    (sym c.is_asked.ensures ∙ c.if-not-is_asked.false) (sym c.enabled.ensures ∙ c.if-not-enabled.false) (sym c.is_load.ensures ∙ c.if-is_load.true)

pub returns-else-is_load : goal.returns-else-is_load
returns-else-is_load c =
    let Q = c.args.rob.now.program in
    let s = shown c.args.rob.now.machine in
    let o = slice_get s.buffer c.args.n in
    finds_enabled Q c.args.n s c.args.wanted o c.entry.result c.entry.ensures (c.in-Some.field-0-0, c.in-Some.kind) c.in-Some.is false
    (sym c.is_asked.ensures ∙ c.if-not-is_asked.false) (sym c.enabled.ensures ∙ c.if-not-enabled.false) (sym c.is_load.ensures ∙ c.if-is_load.false)

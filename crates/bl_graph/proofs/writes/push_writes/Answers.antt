use Rattle.std.proofs.Common.{◌≡◌, ◌<◌, Some, refl, ap, length, subst, arith}
use Rattle.std.specs.Prelude.{option_map}
use Rattle.bl_base.specs.declared.number.Var.{Var}
use Rattle.bl_program.specs.Sites.{Writes}
use Rattle.bl_program.specs.declared.command.Command.{Command}
use Rattle.bl_program.proofs.Layouts.{holds_within}
use Rattle.bl_graph.specs.UseLists.{AreBelow}
use Rattle.bl_graph.proofs.UseRows.{next_row}
use Rattle.bl_graph.proofs.GraphPasses.{holds_here, stands_at, written_same, entry_up}
use Rattle.bl_graph.proofs.writes.push_writes.Goals as goal

pub bounds-as_slice-at : goal.bounds-as_slice-at
bounds-as_slice-at c =
    let holds = holds_here c.args.running.now.parts.now c.args.running.now.number c.loop-at.at c.args.entry c.args.end c.requires.running.exists c.requires.entry c.requires.end c.loop-at.auto.at c.loop-at-test.true in
    let within = holds_within c.args.running.now.parts.now c.args.running.now.number c.loop-at.at c.requires.running.facts holds in
    omega (arith, ap (length {A = Command}) c.as_slice.ensures)

pub written-requires-clause-stands : goal.written-requires-clause-stands
written-requires-clause-stands c =
    let holds = holds_here c.args.running.now.parts.now c.args.running.now.number c.loop-at.at c.args.entry c.args.end c.requires.running.exists c.requires.entry c.requires.end c.loop-at.auto.at c.loop-at-test.true in
    let within = holds_within c.args.running.now.parts.now c.args.running.now.number c.loop-at.at c.requires.running.facts holds in
    let lt : c.loop-at.at < length c.as_slice.result.now = omega (arith, ap (length {A = Command}) c.as_slice.ensures) in
    stands_at c.args.running.now.parts.now c.loop-at.at c.as_slice.result.now _ c.as_slice.ensures lt

pub loop-at-preserved : goal.loop-at-preserved
loop-at-preserved c =
    let holds = holds_here c.args.running.now.parts.now c.args.running.now.number c.loop-at.at c.args.entry c.args.end c.requires.running.exists c.requires.entry c.requires.end c.loop-at.auto.at c.loop-at-test.true in
    let within = holds_within c.args.running.now.parts.now c.args.running.now.number c.loop-at.at c.requires.running.facts holds in
    let lt : c.loop-at.at < length c.as_slice.result.now = omega (arith, ap (length {A = Command}) c.as_slice.ensures) in
    next_row (Writes c.args.running.now.parts.now) c.loop-at.at _ c.loop-at.writes c.push_write.new.writes (λ x. option_map (λ (v : Var). v.0) c.written.result ≡ Some x) refl
    (written_same c.args.running.now.parts.now c.loop-at.at c.as_slice.result.now _ (option_map (λ (v : Var). v.0) c.written.result) c.as_slice.ensures lt c.written.ensures)
    c.loop-at.invariant c.in_ok-push_write.ensures

pub returns : goal.returns
returns c =
    let low = c.loop-at-test.false in
    let up = entry_up c.args.running.now.parts.now c.args.running.now.number in
    let from = c.requires.entry in
    let to = c.requires.end in
    let high = c.loop-at.auto.at-end (omega arith) in
    let all : c.loop-at.at ≡ c.args.end = omega arith in
    subst (λ n. AreBelow (Writes c.args.running.now.parts.now) n c.loop-at.writes) all c.loop-at.invariant

use Rattle.std.proofs.Common.{◌≡◌, length, refl, subst, arith}
use Rattle.bl_program.specs.Sites.{moved_by, sunk_by}
use Rattle.bl_graph.specs.UseLists.{ArePlacesBelow, LoadAt, OperandAt}
use Rattle.bl_graph.proofs.UseRows.{next_row, all_below}
use Rattle.bl_graph.proofs.GraphPasses.{load_step, row_at, operand_low}
use Rattle.bl_graph.proofs.reads.uses_of.Goals as goal

pub loop-at-preserved : goal.loop-at-preserved
loop-at-preserved c = record {
  loads = load_step c.args.commands.now c.loop-at.at _ c.loop-at.loads c.push_load.new.loads c.loop-at-test.true c.in_ok-push_load.ensures c.loop-at.invariant.loads;
  reads = next_row (OperandAt moved_by c.args.commands.now) c.loop-at.at _ c.loop-at.reads c.push_reads.new.reads _ refl
      (row_at moved_by c.args.commands.now c.loop-at.at _ c.loop-at-test.true) c.loop-at.invariant.reads c.in_ok-push_reads.ensures;
  sinks = next_row (OperandAt sunk_by c.args.commands.now) c.loop-at.at _ c.loop-at.sinks c.push_sinks.new.sinks _ refl
      (row_at sunk_by c.args.commands.now c.loop-at.at _ c.loop-at-test.true) c.loop-at.invariant.sinks c.in_ok-push_sinks.ensures;
}

pub returns-clause-loads : goal.returns-clause-loads
returns-clause-loads c =
    let low = c.loop-at-test.false in
    let high = c.loop-at.auto.at-end in
    let all : c.loop-at.at ≡ length c.args.commands.now = omega arith in
    subst (λ n. ArePlacesBelow (LoadAt c.args.commands.now) n c.loop-at.loads) all c.loop-at.invariant.loads

pub returns-clause-reads : goal.returns-clause-reads
returns-clause-reads c =
    all_below (OperandAt moved_by c.args.commands.now) c.loop-at.at c.loop-at.reads (operand_low moved_by c.args.commands.now c.loop-at.at c.loop-at-test.false) c.loop-at.invariant.reads

pub returns-clause-sinks : goal.returns-clause-sinks
returns-clause-sinks c =
    all_below (OperandAt sunk_by c.args.commands.now) c.loop-at.at c.loop-at.sinks (operand_low sunk_by c.args.commands.now c.loop-at.at c.loop-at-test.false) c.loop-at.invariant.sinks

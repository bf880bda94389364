use Rattle.std.proofs.Common.{rules, ◌+◌, suc, refl, sym, ap, subst, length, arith}
use Rattle.bl_program.specs.declared.command.Command.{Command}
use Rattle.bl_cmd.specs.Verdicts.{KeepsBelow, IsFaultIn}
use Rattle.bl_cmd.proofs.Faults.{keeps_begin, keeps_next, keeps_end}
use Rattle.bl_program.proofs.Layouts.{holds_within}
use Rattle.bl_cmd.proofs.TableLemmas.{entry_value, holds_between, reads_at}
use Rattle.bl_cmd.proofs.verdict.fault_in.Goals as goal

pub loop-position-init : goal.loop-position-init
loop-position-init c =
    let exists = c.requires.exists in
    let entry = entry_value c.args.parts.now c.args.tables.now c.as_slice.result.now c.args.function c.args.function c.requires.tables c.as_slice.ensures refl (omega arith) in
    subst (KeepsBelow c.args.parts.now c.args.function) (sym entry) (keeps_begin c.args.parts.now c.args.function)

pub loop-position-preserved : goal.loop-position-preserved
loop-position-preserved c =
    let holds = holds_between c.args.parts.now c.args.tables.now c.as_slice.result.now c.as_slice-2.result.now c.args.function c.loop-position.position c.requires.tables c.requires.exists
    c.as_slice.ensures c.as_slice-2.ensures c.loop-position.auto.position c.loop-position-test.true in
    let within = holds_within c.args.parts.now c.args.function c.loop-position.position c.requires.tables.facts holds in
    keeps_next c.args.parts.now c.args.function c.loop-position.position _ c.loop-position.invariant
    (reads_at c.args.parts.now.commands c.as_slice-in-loop-position.result.now c.loop-position.position _ c.as_slice-in-loop-position.ensures within) c.in_default.ensures

pub broken_rule-requires : goal.broken_rule-requires
broken_rule-requires c = record {
  tables = c.requires.tables;
  holds = holds_between c.args.parts.now c.args.tables.now c.as_slice.result.now c.as_slice-2.result.now c.args.function c.loop-position.position c.requires.tables c.requires.exists
      c.as_slice.ensures c.as_slice-2.ensures c.loop-position.auto.position c.loop-position-test.true;
}

pub returns-in-Some : goal.returns-in-Some
returns-in-Some c =
    let holds = holds_between c.args.parts.now c.args.tables.now c.as_slice.result.now c.as_slice-2.result.now c.args.function c.loop-position.position c.requires.tables c.requires.exists
    c.as_slice.ensures c.as_slice-2.ensures c.loop-position.auto.position c.loop-position-test.true in
    let within = holds_within c.args.parts.now c.args.function c.loop-position.position c.requires.tables.facts holds in
    let fault : IsFaultIn c.args.parts.now c.args.function c.in-Some.rule c.loop-position.position = record {
      command = _;
      holds = holds;
      stands = reads_at c.args.parts.now.commands c.as_slice-in-loop-position.result.now c.loop-position.position _ c.as_slice-in-loop-position.ensures within;
      before = c.loop-position.invariant;
      broken = c.in-Some.ensures;
    } in
    search rules

pub returns : goal.returns
returns c =
    let exists = c.requires.exists in
    let end = entry_value c.args.parts.now c.args.tables.now c.as_slice-2.result.now (suc c.args.function) (c.args.function + 1) c.requires.tables c.as_slice-2.ensures (omega arith) (omega arith) in
    keeps_end c.args.parts.now c.args.function c.loop-position.position (length c.args.parts.now.commands) (omega arith) c.loop-position.invariant

pub bounds-as_slice-position : goal.bounds-as_slice-position
bounds-as_slice-position c =
    let holds = holds_between c.args.parts.now c.args.tables.now c.as_slice.result.now c.as_slice-2.result.now c.args.function c.loop-position.position c.requires.tables c.requires.exists
    c.as_slice.ensures c.as_slice-2.ensures c.loop-position.auto.position c.loop-position-test.true in
    let within = holds_within c.args.parts.now c.args.function c.loop-position.position c.requires.tables.facts holds in
    omega (arith, ap (length {A = Command}) c.as_slice-in-loop-position.ensures)

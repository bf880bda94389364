use Rattle.std.proofs.Common.{◌≡◌, ℕ, List, length, None, Some, rules, ap, arith, ◌∙◌}
use Rattle.bl_trace.specs.Lines.{entry_of}
use Rattle.bl_trace.proofs.LineLemmas.{bad_first, more_first, none_left}
use Rattle.bl_trace.proofs.read.read_lines.Goals as goal

pub returns-in_default : goal.returns-in_default
returns-in_default c =
    let is : None ≡ entry_of c.args.params.now c.args.sizes.now (length c.loop-line.start.args) c.in-Some.line.now = search rules in
    c.loop-line.invariant.rest
    ∙ bad_first c.args.params.now c.args.sizes.now c.loop-line.number c.loop-line.start _ c.in-Some.line.now _ c.in-Some.ensures.steps is

pub loop-line-preserved : goal.loop-line-preserved
loop-line-preserved c =
    let is : Some c.in-Some-2.entry ≡ entry_of c.args.params.now c.args.sizes.now (length c.loop-line.start.args) c.in-Some.line.now = search rules in
    record {
      numbers = omega (arith, ap (length {A = List ℕ}) c.in-Some.ensures.steps);
      rest = c.loop-line.invariant.rest
          ∙ more_first c.args.params.now c.args.sizes.now c.loop-line.number c.loop-line.start c.add.new.start c.in-Some-2.entry
          _ c.in-Some.line.now _ c.in-Some.ensures.steps is c.in_ok-add.ensures;
    }

pub returns : goal.returns
returns c =
    c.loop-line.invariant.rest ∙ none_left c.args.params.now c.args.sizes.now c.loop-line.number (length c.loop-line.start.args) c.loop-line.start _ c.in-None.ensures.steps.0

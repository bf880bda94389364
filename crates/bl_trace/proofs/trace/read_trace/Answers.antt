use Rattle.std.proofs.Common.{◌≡◌, ℕ, List, length, Some, None, rules, ap, arith, ◌∙◌}
use Rattle.bl_text.proofs.ItemLemmas.{item_first, none_first, none_left}
use Rattle.bl_trace.specs.Traces.{directive_of}
use Rattle.bl_trace.proofs.trace.read_trace.Goals as goal

pub returns-in_default : goal.returns-in_default
returns-in_default c =
    let is : None ≡ directive_of c.in-Some.line.now = search rules in
    c.loop-line.invariant.rest ∙ none_first directive_of c.loop-line.number c.loop-line.directives _ c.in-Some.line.now _ c.in-Some.ensures.steps is

pub loop-line-preserved : goal.loop-line-preserved
loop-line-preserved c =
    let is : Some c.in-Some-read_directive.directive ≡ directive_of c.in-Some.line.now = search rules in
    record {
      numbers = omega (arith, ap (length {A = List ℕ}) c.in-Some.ensures.steps);
      rest = c.loop-line.invariant.rest
          ∙ item_first directive_of c.loop-line.number c.loop-line.directives _ c.in-Some.line.now _ c.in-Some.ensures.steps c.in-Some-read_directive.directive c.push.new.self is c.in_ok-push.ensures.ok;
    }

pub returns : goal.returns
returns c = c.loop-line.invariant.rest ∙ none_left directive_of c.loop-line.number c.loop-line.directives _ c.in-None.ensures.steps.0

use Rattle.std.proofs.Common.{◌<◌, ◌∙◌, length, arith, subst}
use Rattle.std.specs.List.{slice_index_or}
use Rattle.std.proofs.lemmas.List.{length-set, take_all}
use Rattle.bl_graph.proofs.AskedLists.{Marks, marks_more}
use Rattle.bl_transient.proofs.asked.marked.Goals as goal

pub loop-number-preserved : goal.loop-number-preserved
loop-number-preserved c =
    let loop = c.loop-number in
    let lt : loop.number-index < length c.args.numbers.now = c.loop-number-test.true in
    let within = c.requires loop.number-index 0 lt in
    let places = loop.invariant.places in
    record {
      places = length-set loop.marks.items (slice_index_or c.args.numbers.now loop.number-index 0) _ ∙ places;
      exact = marks_more c.args.numbers.now loop.number-index 0 loop.marks.items lt (omega arith) loop.invariant.exact;
    }

pub returns-clause-exact : goal.returns-clause-exact
returns-clause-exact c =
    subst (λ l. Marks l c.loop-number.marks.items) (take_all c.loop-number.number-index c.args.numbers.now c.loop-number-test.false) c.loop-number.invariant.exact

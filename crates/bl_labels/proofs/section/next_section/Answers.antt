use Rattle.std.proofs.Common.{◌∙◌, sym}
use Rattle.bl_labels.proofs.NextLemmas.{found, none_left, passed}
use Rattle.bl_labels.proofs.section.next_section.Goals as goal

pub loop-place-preserved : goal.loop-place-preserved
loop-place-preserved c = passed c.args.customs.now c.args.from c.loop-place.place c.index-customs-place.result c.loop-place-test.true c.index-customs-place.is (sym c.is_labels.ensures ∙ c.if-is_labels.false) c.loop-place.invariant

pub returns-then-is_labels : goal.returns-then-is_labels
returns-then-is_labels c =
    record { found = found c.args.customs.now c.args.from c.loop-place.place c.index-customs-place.result c.loop-place-test.true c.index-customs-place.is (sym c.is_labels.ensures ∙ c.if-is_labels.true) c.loop-place.invariant; none = tt }

pub returns : goal.returns
returns c = record { found = tt; none = none_left c.args.customs.now c.args.from c.loop-place.place c.loop-place-test.false c.loop-place.invariant }

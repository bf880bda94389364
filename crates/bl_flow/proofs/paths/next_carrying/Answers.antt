use Rattle.std.proofs.Common.{arith, ◌+◌, slice_index, sym, ◌∙◌, refl}
use Rattle.std.proofs.lemmas.Bool.{false≢true}
use Rattle.std.proofs.lemmas.List.{get_or_default, get_or-set_same}
use Rattle.bl_flow.specs.Searches.{part_row}
use Rattle.bl_flow.specs.SplitNetworks.{rows_in}
use Rattle.bl_flow.proofs.BlockingFlows.{at_place, past_row}
use Rattle.bl_flow.proofs.TraceLemmas.{not_past, passes_over}
use Rattle.bl_flow.proofs.paths.next_carrying.Goals as goal

pub unreachable-requires : goal.unreachable-requires
unreachable-requires c =
    let lt = not_past c.args.carries.now (rows_in c.args.split.now) c.loop-link.passed c.args.part c.loop-link.invariant c.requires.some in
    let past = past_row (part_row (rows_in c.args.split.now) c.args.part) (slice_index c.loop-link.passed c.args.part) c.in_default.ensures.link in
    omega arith

pub returns-then-carries_some-clause-link : goal.returns-then-carries_some-clause-link
returns-then-carries_some-clause-link c =
    let there = at_place (part_row (rows_in c.args.split.now) c.args.part) (slice_index c.loop-link.passed c.args.part) c.in-Some.link c.in-Some.ensures.link in
    (slice_index c.loop-link.passed c.args.part, there.0, get_or_default (part_row (rows_in c.args.split.now) c.args.part) (slice_index c.loop-link.passed c.args.part) c.in-Some.link 0 there.0 ∙ there.1)

pub overflow_add-passed : goal.overflow_add-passed
overflow_add-passed c =
    let lt = not_past c.args.carries.now (rows_in c.args.split.now) c.loop-link.passed c.args.part c.loop-link.invariant c.requires.some in
    let short = c.in-Some.ensures.small c.args.part in
    omega arith

pub loop-link-smaller : goal.loop-link-smaller
loop-link-smaller c =
    let lt = not_past c.args.carries.now (rows_in c.args.split.now) c.loop-link.passed c.args.part c.loop-link.invariant c.requires.some in
    let auto = c.loop-link.auto.passed in let places = c.requires.passed_in in let part = c.requires.part_in in
    let here_ = get_or-set_same c.loop-link.passed c.args.part (slice_index c.loop-link.passed c.args.part + 1) 0 (omega arith) in
    omega arith

pub loop-link-preserved : goal.loop-link-preserved
loop-link-preserved c =
    let there = at_place (part_row (rows_in c.args.split.now) c.args.part) (slice_index c.loop-link.passed c.args.part) c.in-Some.link c.in-Some.ensures.link in
    let auto = c.loop-link.auto.passed in let places = c.requires.passed_in in let part = c.requires.part_in in
    passes_over c.args.carries.now (rows_in c.args.split.now) c.loop-link.passed c.args.part c.in-Some.link (slice_index c.loop-link.passed c.args.part + 1) c.loop-link.invariant (omega arith) there.1
    (λ some. false≢true (sym c.if-carries_some.false ∙ c.carries_some.ensures.1 some)) refl

use Rattle.std.proofs.Common.{arith, subst, refl}
use Rattle.bl_program.proofs.Layouts.{holds_within}
use Rattle.bl_definite.specs.Search.{Traced}
use Rattle.bl_definite.specs.declared.search.Search.{Search}
use Rattle.bl_definite.proofs.ListLemmas.{none_left}
use Rattle.bl_definite.proofs.Steps.{found_one, less_work, searching_begins, searching_done, searching_finds, searching_goes_on, searching_holds}
use Rattle.bl_definite.proofs.search.lacks.Goals as goal

pub see-requires : goal.see-requires
see-requires c =
    let within = holds_within c.args.place.now.parts.now c.args.place.now.function c.args.position c.requires.place.tables.facts c.requires.holds in
    let room = c.requires.clean.room in
    omega arith

pub loop-next-init : goal.loop-next-init
loop-next-init c =
    searching_begins c.args.place.now.parts.now c.args.place.now.function c.args.fact c.args.position c.args.search.now c.see.new.search c.requires.holds
    (holds_within c.args.place.now.parts.now c.args.place.now.function c.args.position c.requires.place.tables.facts c.requires.holds) c.requires.clean c.in_ok-see.ensures

pub trace-requires-clause-holds : goal.trace-requires-clause-holds
trace-requires-clause-holds c =
    searching_holds c.args.place.now.parts.now c.args.place.now.function c.args.fact c.args.position c.in-Some.next c.loop-next.search c.pop.new.self.items c.loop-next.invariant c.in-Some.ensures.items

pub loop-next-preserved : goal.loop-next-preserved
loop-next-preserved c =
    let popped : Search = record { stamps = c.loop-next.search.stamps; waiting = c.pop.new.self } in
    searching_goes_on c.args.place.now.parts.now c.args.place.now.function c.args.fact c.args.position c.in-Some.next c.loop-next.search popped c.trace.new.search c.loop-next.invariant refl c.in-Some.ensures.items
    (subst (λ b. Traced c.args.place.now.parts.now c.args.place.now.function c.args.fact c.in-Some.next b popped c.trace.new.search) c.if-branch.false c.in_ok-trace.ensures)

pub loop-next-smaller : goal.loop-next-smaller
loop-next-smaller c =
    let popped : Search = record { stamps = c.loop-next.search.stamps; waiting = c.pop.new.self } in
    less_work c.args.fact c.in-Some.next c.loop-next.search popped c.trace.new.search refl c.in-Some.ensures.items (c.in_ok-trace.ensures.extends c.if-branch.false).work

pub returns-then-branch : goal.returns-then-branch
returns-then-branch c =
    let popped : Search = record { stamps = c.loop-next.search.stamps; waiting = c.pop.new.self } in
    found_one c.args.place.now.parts.now c.args.place.now.function c.args.fact c.args.position c.trace.new.search
    (searching_finds c.args.place.now.parts.now c.args.place.now.function c.args.fact c.args.position c.in-Some.next c.loop-next.search popped c.trace.new.search c.loop-next.invariant c.in-Some.ensures.items
    (subst (λ b. Traced c.args.place.now.parts.now c.args.place.now.function c.args.fact c.in-Some.next b popped c.trace.new.search) c.if-branch.true c.in_ok-trace.ensures))

pub returns : goal.returns
returns c =
    let popped : Search = record { stamps = c.loop-next.search.stamps; waiting = c.pop.new.self } in
    let counts = c.in_default.ensures.cases in
    let was = c.loop-next.search.waiting.ok.0 in
    let is = c.pop.new.self.ok.0 in
    searching_done c.args.place.now.parts.now c.args.place.now.function c.args.fact c.args.position c.loop-next.search popped refl
    (none_left c.loop-next.search.waiting.items (omega (arith, counts.0))) (none_left c.pop.new.self.items (omega (arith, counts.1))) c.loop-next.invariant

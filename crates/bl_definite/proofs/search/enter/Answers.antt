use Rattle.std.proofs.Common.{◌-◌, arith, subst}
use Rattle.bl_program.proofs.Layouts.{holds_within}
use Rattle.bl_definite.specs.Search.{Came}
use Rattle.bl_definite.proofs.Arrivals.{entering_begins, entering_ends, entering_finds, entering_goes_on}
use Rattle.bl_definite.proofs.ListLemmas.{read_at}
use Rattle.bl_definite.proofs.search.enter.Goals as goal

pub loop-number-init : goal.loop-number-init
loop-number-init c =
    let within = holds_within c.args.place.now.parts.now c.args.place.now.function c.args.position c.requires.place.tables.facts c.requires.holds in
    let len = c.requires.place.tables.entrants.len in
    entering_begins c.args.place.now.parts.now c.args.place.now.function c.args.fact c.args.position c.args.place.now.tables.now.entrants c.index-number.result.now c.args.search.now
    c.requires.place.tables.entrants (read_at c.args.place.now.tables.now.entrants.heads.items c.args.position _ _ c.index-number.ensures (omega arith))

pub loop-number-preserved : goal.loop-number-preserved
loop-number-preserved c =
    let some = c.loop-number-test.true in
    let small = c.loop-number.invariant.small in
    entering_goes_on c.args.place.now.parts.now c.args.place.now.function c.args.fact c.args.position c.args.place.now.tables.now.entrants c.loop-number.number c.index-link.result.now
    c.args.search.now c.loop-number.search c.comes.new.search c.requires.place.tables.entrants (omega arith)
    (read_at c.args.place.now.tables.now.entrants.links.items (c.loop-number.number - 1) _ _ c.index-link.ensures (omega arith))
    (subst (λ b. Came c.args.place.now.parts.now c.args.place.now.function c.args.fact c.index-link.result.now.from c.args.position b c.loop-number.search c.comes.new.search) c.if-branch.false c.in_ok-comes.ensures)
    c.loop-number.invariant

pub loop-number-smaller : goal.loop-number-smaller
loop-number-smaller c =
    let some = c.loop-number-test.true in
    let small = c.loop-number.invariant.small in
    let le = c.requires.place.tables.entrants.linked.fall (c.loop-number.number - 1) c.index-link.result.now
    (read_at c.args.place.now.tables.now.entrants.links.items (c.loop-number.number - 1) _ _ c.index-link.ensures (omega arith)) in
    omega arith

pub returns-then-branch : goal.returns-then-branch
returns-then-branch c =
    entering_finds c.args.place.now.parts.now c.args.place.now.function c.args.fact c.args.position c.index-link.result.now.from c.args.search.now c.loop-number.search c.comes.new.search
    (subst (λ b. Came c.args.place.now.parts.now c.args.place.now.function c.args.fact c.index-link.result.now.from c.args.position b c.loop-number.search c.comes.new.search) c.if-branch.true c.in_ok-comes.ensures)

pub comes-requires-clause-room : goal.comes-requires-clause-room
comes-requires-clause-room c = let same = c.loop-number.invariant.extends.room in let room = c.requires.room in omega arith

pub returns : goal.returns
returns c =
    entering_ends c.args.place.now.parts.now c.args.place.now.function c.args.fact c.args.position c.args.place.now.tables.now.entrants c.loop-number.number c.args.search.now c.loop-number.search
    (omega (arith, c.loop-number-test.false)) c.loop-number.invariant

pub index-number-requires : goal.index-number-requires
index-number-requires c =
    let within = holds_within c.args.place.now.parts.now c.args.place.now.function c.args.position c.requires.place.tables.facts c.requires.holds in
    let len = c.requires.place.tables.entrants.len in
    let count = c.args.place.now.tables.now.entrants.heads.ok.0 in
    omega arith

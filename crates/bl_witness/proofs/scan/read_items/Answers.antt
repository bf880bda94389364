use Rattle.std.proofs.Common.{◌≡◌, ◌∙◌, ◌<◌, [], length, Some, None, ap, sym, arith}
use Rattle.json.specs.Json.{after_end_array, value}
use Rattle.bl_witness.specs.Fields.{with_one}
use Rattle.bl_witness.specs.Shapes.{each_item}
use Rattle.bl_witness.proofs.Arrays.{all_read, begins, ended, joined, none_read, not_read, one_more, one_read}
use Rattle.bl_witness.proofs.scan.read_items.Goals as goal

pub items-init : goal.items-init
items-init g c =
    let f = g.T.Shape.shape in
    (rw c.new.ensures (none_read (each_item f) (joined f (Some [])) (value c.args.depth) c.args.reader.now (begins f)), omega arith)

pub items-preserved : goal.items-preserved
items-preserved g c =
    let f = g.T.Shape.shape in
    let l = c.items in
    let going : (after_end_array l.reader ≡ None) × (c.take_end_array.new.self ≡ l.reader) = grind arith in
    let done = c.in_ok-item.ensures in
    let d = done.ok.0 in
    let r = c.read.new.reader in
    let less : length r < length l.reader = rw (← going.1) done.shorter in
    let listed = c.in_ok-found.ensures ∙ ap (with_one l.found) done.ok.2 in
    let next = joined f (with_one l.found (f d)) in
    (rw listed (one_read _ _ _ _ l.reader l.invariant.0 next d r (one_more f l.found d) going.0 (rw (← going.1) done.ok.1) less), omega (arith, l.invariant.1))

pub returns-in_err-item-clause-err : goal.returns-in_err-item-clause-err
returns-in_err-item-clause-err g c refused =
    let l = c.items in
    let going : (after_end_array l.reader ≡ None) × (c.take_end_array.new.self ≡ l.reader) = grind arith in
    not_read _ _ _ _ l.reader l.invariant.0 going.0 (rw (← going.1) (c.read.ensures.err (grind arith)))

pub returns-clause-ok : goal.returns-clause-ok
returns-clause-ok g c =
    let l = c.items in
    let all = all_read _ _ _ _ l.reader l.invariant.0 c.take_end_array.new.self (grind arith) in
    (all.0, all.1, sym (ended g.T.Shape.shape l.found) ∙ all.2)

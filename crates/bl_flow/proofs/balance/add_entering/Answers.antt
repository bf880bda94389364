use Rattle.std.proofs.Common.{arith, ◌≡◌, ◌+◌, true, ◌∙◌, length, slice_index, subst}
use Rattle.bl_flow.specs.Flows.{enters}
use Rattle.bl_flow.specs.Balances.{worth, IsAdded}
use Rattle.bl_flow.proofs.Balances.{enters_more, worth_added}
use Rattle.bl_flow.proofs.balance.add_entering.Goals as goal

pub loop-k-preserved : goal.loop-k-preserved
loop-k-preserved c =
    let yes : c.add.result ≡ true = let test = c.if-not-add.false in grind arith in
    let added = subst (λ l. IsAdded c.loop-k.numbers c.add.new.numbers l.to (slice_index c.args.carried.now c.loop-k.k)) c.link.ensures (c.add.ensures.sum yes) in
    record {
      places = c.add.ensures.places ∙ c.loop-k.invariant.places;
      sums = λ set. enters_more c.args.links.now c.loop-k.k (worth c.args.numbers.now set) c.args.carried.now c.loop-k.numbers c.add.new.numbers set added (c.loop-k.invariant.sums set);
    }

pub returns-clause-sums : goal.returns-clause-sums
returns-clause-sums c = λ yes set.
    let all : c.loop-k.k ≡ length c.args.carried.now = let end = c.loop-k-test.false in let most = c.loop-k.auto.k-end in omega arith in
    let so_far = subst (λ m. worth c.loop-k.numbers set ≡ worth c.args.numbers.now set + enters c.args.links.now m (slice_index c.args.carried.now) set) all (c.loop-k.invariant.sums set) in
    let added = worth_added c.loop-k.numbers c.add-2.new.numbers c.args.from c.args.amount (c.add-2.ensures.sum yes) set in
    omega arith

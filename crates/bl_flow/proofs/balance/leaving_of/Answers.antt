use Rattle.std.proofs.Common.{rules, arith, ◌≡◌, true, ◌∙◌, ap, replicate}
use Rattle.bl_flow.specs.Balances.{worth}
use Rattle.bl_flow.proofs.Balances.{worth_none, written}
use Rattle.bl_flow.proofs.balance.leaving_of.Goals as goal

pub returns-then-add_leaving : goal.returns-then-add_leaving
returns-then-add_leaving c = λ set.
    let yes : c.add_leaving.result ≡ true = let test = c.if-add_leaving.true in grind arith in
    let sums = c.add_leaving.ensures.sums yes set in
    let nothing : c.deref_mut.result.now ≡ replicate c.args.parts 0 = search rules in
    let none = ap (λ xs. worth xs set) nothing ∙ worth_none c.args.parts set in
    let places = c.add_leaving.ensures.places in
    let count = c.deref_mut.ensures.len in
    let back = ap (λ xs. worth xs set) (written c.in_ok-numbers.numbers.len c.add_leaving.new.numbers c.in_ok-numbers.numbers.items (omega (arith, c.in_ok-numbers.numbers.ok.0))) in
    omega arith

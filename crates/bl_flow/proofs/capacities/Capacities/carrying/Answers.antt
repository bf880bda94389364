use Rattle.std.proofs.Common.{arith, ◌≡◌, ◌<◌, ◌≤◌, ℕ, true, length, slice_index, subst}
use Rattle.std.specs.Prelude.{IfSome}
use Rattle.bl_flow.specs.Capacities.{both_capacities, AreCarrying, AreLeft}
use Rattle.bl_flow.proofs.Carryings.{carrying}
use Rattle.bl_flow.proofs.capacities.Capacities.carrying.Goals as goal

pub returns-in-Some : goal.returns-in-Some
returns-in-Some c =
    let yes : c.are_at_most.result ≡ true = let test = c.if-not-are_at_most.false in grind arith in
    let count : length c.args.carried.items ≡ length c.self.inside.carried.items = let now = c.len.ensures in let old = c.len-2.ensures in let same = c.if-len.false in omega arith in
    let limit = subst (λ xs. (k : ℕ) → k < length xs → slice_index xs k ≤ c.args.most) c.deref.ensures.value (c.are_at_most.ensures yes) in
    let found = subst (λ o. IfSome o (λ left. AreLeft c.deref-2.result.now c.deref-3.result.now c.deref-4.result.now left.items)) c.in-Some.is c.in_ok-through.ensures in
    let first = subst (λ xs. AreLeft xs c.deref-3.result.now c.deref-4.result.now c.in-Some.through.items) c.deref-2.ensures.value found in
    let second = subst (λ xs. AreLeft c.self.inside.through.items xs c.deref-4.result.now c.in-Some.through.items) c.deref-3.ensures.value first in
    let left = subst (λ xs. AreLeft c.self.inside.through.items c.self.inside.carried.items xs c.in-Some.through.items) c.deref-4.ensures.value second in
    subst (λ old. AreCarrying old (both_capacities c.in-Some.through.items c.args.carried.items) c.args.carried.items c.args.most) c.self.view_is
    (carrying c.self.inside.through.items c.self.inside.carried.items c.in-Some.through.items c.args.carried.items c.args.most c.self.invariant count left limit (let small = c.if-most-gt-UNBOUNDED.false in omega arith))

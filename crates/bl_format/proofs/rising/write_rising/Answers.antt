use Rattle.std.proofs.Common.{◌≡◌, ◌≤◌, ◌<◌, ◌^◌, ◌+◌, ◌-◌, ℕ, suc, take, length, arith, sym, ap, ◌∙◌, subst}
use Rattle.bl_base.proofs.Lists.{rest_at}
use Rattle.bl_leb.specs.Grammar.{◌⨾◌}
use Rattle.bl_format.specs.Grammar.{gap}
use Rattle.bl_format.specs.WriterAnswers.{Adds, Rises}
use Rattle.bl_format.proofs.WriterLemmas.{seq, adds_as, more_added, taken}
use Rattle.bl_format.proofs.Chains.{behind, behind_more}
use Rattle.bl_format.proofs.rising.write_rising.Goals as goal

pub loop-thing-preserved : goal.loop-thing-preserved
loop-thing-preserved g c =
    let number = g.T.Numbered.numbered in
    let B = g.T.Numbered.behind in
    let xs = c.args.things.now in
    let i = c.loop-thing.thing-index in
    let x = c.thing-item.result in
    let least = c.loop-thing.least in
    let less : i < length xs = omega arith in
    let front = taken xs i x less c.thing-item.is in
    let is : c.from-number.result ≡ number x = c.from-number.ensures ∙ c.number.ensures in
    let small : number x < 2 ^ 32 = omega (arith, c.number.type_inv, c.number.ensures) in
    let left = subst (Rises number least) (rest_at xs i x less c.thing-item.is) c.loop-thing.invariant.left in
    let from : least ≤ number x = left.0 in
    let far = c.from-number.result - least in
    let whole : number x ≡ least + far = omega arith in
    let few : far < 2 ^ 32 = omega arith in
    let gap_added : Adds (gap least (number x)) c.loop-thing.to.items c.write_u64.new.to.items = adds_as (λ t h. (small, far, whole, (few, h))) c.in_ok-write_u64.ensures in
    let here = seq gap_added c.in_ok-write_behind.ensures in
    let moved = subst (λ (n : ℕ). Adds (gap n (number x) ⨾ B x) c.loop-thing.to.items c.write_behind.new.to.items) c.loop-thing.invariant.next here in
    let next : c.from-number.result + 1 ≡ suc (number x) = omega arith in
    record {
      so_far = more_added (λ m y. suc (number y)) (λ m y. gap m (number y) ⨾ B y) 0 (take i xs) (take (i + 1) xs) x c.args.to.now.items c.loop-thing.to.items c.write_behind.new.to.items front c.loop-thing.invariant.so_far moved;
      next = next ∙ sym (ap (behind (λ m y. suc (number y)) 0) front ∙ behind_more (λ m y. suc (number y)) 0 (take i xs) x);
      left = rw next left.1;
    }
